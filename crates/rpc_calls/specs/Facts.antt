-- What is told of a call beside its run and its events.
use Rattle.std.specs.Prelude.{◌≡◌, ◌&&◌, Bool, true, [], None, is_none, is_some}
use Rattle.rpc_journal.specs.declared.table.call_state.CallState.{CallState}
use Rattle.rpc_journal.specs.Kinds.{is_empty}
use Rattle.rpc_calls.specs.declared.call_place.CallFacts.{CallFacts}

abbrev pub facts_of : CallState → CallFacts
facts_of r = record { name = r.name; method = r.method; status = r.status; cancelled = r.cancelled; done = r.done }

-- the call has an end, and neither runs nor has an event that waits
abbrev pub is_done_with : CallState → Bool
is_done_with r = is_some r.status && (is_none r.run && is_empty r.waiting.items)

-- the same, fact by fact
pub record IsDoneWith (r : CallState) : Type 0 where
  pub idle : r.run ≡ None
  pub empty : r.waiting.items ≡ []
  pub over : is_some r.status ≡ true
