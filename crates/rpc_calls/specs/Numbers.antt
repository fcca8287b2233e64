-- The newest call of each name, and the live one, by the states of the calls.
use Rattle.std.specs.Prelude.{ℕ, ◌+◌, List, [], ◌∷◌, Option, Some, None, slice_get, is_none, if◌then◌else◌}
use Rattle.rpc_packet.specs.declared.call_name.CallName.{CallName}
use Rattle.rpc_journal.specs.declared.table.call_state.CallState.{CallState}
use Rattle.rpc_journal.specs.table.Newest.{Numbers, newest_of}

-- the names of the calls from number n on, the last one first, before others
abbrev pub named_from : ℕ → List CallState → Numbers → Numbers
named_from n [] others = others
named_from n (r ∷ rs) others = named_from (n + 1) rs ((r.name, n) ∷ others)

abbrev pub numbers_of : List CallState → Numbers
numbers_of states = named_from 0 states []

abbrev pub live_if : ℕ → Option CallState → Option ℕ
live_if c None = None
live_if c (Some r) = if is_none r.status then Some c else None

abbrev pub live_at : List CallState → Option ℕ → Option ℕ
live_at states None = None
live_at states (Some c) = live_if c (slice_get states c)

-- the newest call of a name, where it has no end
abbrev pub live_in : List CallState → CallName → Option ℕ
live_in states name = live_at states (newest_of (numbers_of states) name)
