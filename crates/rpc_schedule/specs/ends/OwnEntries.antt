-- The entries of one end on one thread.
use Rattle.std.specs.Prelude.{◌≡◌, Bool, true, false, List}
use Rattle.std.specs.List.{AllByRecursion}
use Rattle.rpc_ids.specs.declared.method.Role.{Role}
use Rattle.rpc_ids.specs.declared.method.Role.TheVariants.{Server, Client}
use Rattle.rpc_journal.specs.declared.entry.Entry.{Entry}
use Rattle.rpc_journal.specs.declared.entry.EntryKind.{EntryKind}
use Rattle.rpc_journal.specs.declared.entry.EntryKind.TheVariants.{Arrive, Invoke, Say, Done, Start, Finish, Replace, Cancel, Tick, Flush, EndIn, Close}

-- what both ends do: packets arrive, handlers run, items go out, the input ends, and channels are closed where a caller
-- asks for it
abbrev pub is_common : EntryKind → Bool
is_common (Arrive p) = true
is_common (Start c) = true
is_common (Finish c a) = true
is_common Flush = true
is_common EndIn = true
is_common (Close channel) = true
is_common _ = false

-- what each does besides: a server tells of the time; a client opens calls, speaks for them, ends its streams, replaces
-- handlers and cancels calls. Neither halts its table
abbrev pub is_own : Role → EntryKind → Bool
is_own Server (Tick t) = true
is_own Server kind = is_common kind
is_own Client (Invoke p memo) = true
is_own Client (Say c out) = true
is_own Client (Done c) = true
is_own Client (Replace c memo) = true
is_own Client (Cancel c) = true
is_own Client kind = is_common kind

-- each entry is one that such an end adds
abbrev pub AreOwn : Role → List Entry → Type 0
AreOwn role entries = AllByRecursion (λ e. is_own role e.kind ≡ true) entries
