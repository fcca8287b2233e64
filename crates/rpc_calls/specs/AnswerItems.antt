-- What the finish of a run adds: the items of the answer, and the end that it gives.
use Rattle.std.specs.Prelude.{ℕ, Bool, List, [], ◌∷◌, ◌++◌, flat_map, Option, if◌then◌else◌}
use Rattle.rpc_ids.specs.declared.method.Kind.{Kind}
use Rattle.rpc_ids.specs.declared.method.Role.{Role}
use Rattle.rpc_packet.specs.declared.call_name.CallName.{CallName}
use Rattle.rpc_handlers.specs.declared.answer.End.{End}
use Rattle.rpc_handlers.specs.declared.answer.Out.{Out}
use Rattle.rpc_journal.specs.declared.table.call_state.CallState.{CallState}
use Rattle.rpc_journal.specs.declared.item.Item.{Item}
use Rattle.rpc_journal.specs.Entries.{answer_item, end_effect, leave_item, messages_go}
use Rattle.rpc_journal.specs.table.Touch.{hears_answer}

-- the items that a Finish adds: LeaveCall of a cancelled call; else those of the answer, and then its end where the
-- answer is heard
abbrev pub items_by : Role → ℕ → CallName → Kind → Bool → Bool → Bool → List Out → Option End → List Item
items_by role c name kind cut heard done outs end =
    if cut then leave_item c ∷ []
    else flat_map (answer_item role c name (messages_go role kind heard done)) outs
    ++ (if heard then (end_effect role c name kind done end).says else [])

-- of a call in this state
abbrev pub answer_items : Role → ℕ → CallState → List Out → Option End → List Item
answer_items role c r outs end = items_by role c r.name r.method.kind r.cancelled (hears_answer r) r.done outs end
