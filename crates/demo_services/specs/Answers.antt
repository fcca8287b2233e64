-- Answers of the demo service.
use Rattle.std.specs.Prelude.{ℕ, List, [], ◌∷◌, Some, None}
use Rattle.rpc_ids.specs.declared.status.Status.{Status}
use Rattle.rpc_ids.specs.declared.status.Status.TheVariants.{ResourceExhausted}
use Rattle.rpc_handlers.specs.declared.answer.Answer.{Answer}
use Rattle.rpc_handlers.specs.declared.answer.Out.TheVariants.{Say}

-- nothing is said, and the call goes on
abbrev pub empty_answer : Answer
empty_answer = record { items = []; end = None }

-- this message, and the call goes on
abbrev pub says : List ℕ → Answer
says payload = record { items = Say payload ∷ []; end = None }

-- no message, and the call ends with this status and payload
abbrev pub ends : Status → List ℕ → Answer
ends status payload = record { items = []; end = Some (record { status = status; payload = payload }) }

-- the call ends, since a payload is too long to be sent
abbrev pub too_long : Answer
too_long = ends ResourceExhausted []
