-- The status codes of RPC: their numbers and their names.
use Rattle.std.specs.Prelude.{ℕ, List, [], ◌∷◌, codes, slice_get, unwrap_or}
use Rattle.rpc_ids.specs.declared.status.Status.{Status}
use Rattle.rpc_ids.specs.declared.status.Status.TheVariants.{Okay, Cancelled, Unknown, InvalidArgument, DeadlineExceeded, NotFound, AlreadyExists, PermissionDenied, ResourceExhausted, FailedPrecondition, Aborted, OutOfRange, Unimplemented, Internal, Unavailable, DataLoss, Unauthenticated}

-- the number of a status on the wire
abbrev pub status_number : Status → ℕ
status_number Okay = 0
status_number Cancelled = 1
status_number Unknown = 2
status_number InvalidArgument = 3
status_number DeadlineExceeded = 4
status_number NotFound = 5
status_number AlreadyExists = 6
status_number PermissionDenied = 7
status_number ResourceExhausted = 8
status_number FailedPrecondition = 9
status_number Aborted = 10
status_number OutOfRange = 11
status_number Unimplemented = 12
status_number Internal = 13
status_number Unavailable = 14
status_number DataLoss = 15
status_number Unauthenticated = 16

-- all statuses, each at the place of its number
abbrev pub statuses : List Status
statuses =
    Okay ∷ Cancelled ∷ Unknown ∷ InvalidArgument ∷ DeadlineExceeded ∷ NotFound ∷ AlreadyExists ∷ PermissionDenied ∷ ResourceExhausted ∷ FailedPrecondition ∷ Aborted ∷ OutOfRange ∷ Unimplemented ∷ Internal ∷ Unavailable ∷ DataLoss ∷ Unauthenticated ∷ []

-- the status of a number, which is Unknown where no status has it
abbrev pub status_of : ℕ → Status
status_of n = unwrap_or (slice_get statuses n) Unknown

-- the usual name of a status
abbrev pub status_name : Status → List ℕ
status_name Okay = codes "OK"
status_name Cancelled = codes "CANCELLED"
status_name Unknown = codes "UNKNOWN"
status_name InvalidArgument = codes "INVALID_ARGUMENT"
status_name DeadlineExceeded = codes "DEADLINE_EXCEEDED"
status_name NotFound = codes "NOT_FOUND"
status_name AlreadyExists = codes "ALREADY_EXISTS"
status_name PermissionDenied = codes "PERMISSION_DENIED"
status_name ResourceExhausted = codes "RESOURCE_EXHAUSTED"
status_name FailedPrecondition = codes "FAILED_PRECONDITION"
status_name Aborted = codes "ABORTED"
status_name OutOfRange = codes "OUT_OF_RANGE"
status_name Unimplemented = codes "UNIMPLEMENTED"
status_name Internal = codes "INTERNAL"
status_name Unavailable = codes "UNAVAILABLE"
status_name DataLoss = codes "DATA_LOSS"
status_name Unauthenticated = codes "UNAUTHENTICATED"
