use Rattle.std.proofs.Common.{◌∙◌, ap}
use Rattle.rpc_journal.specs.Recorded.{Recorded}
use Rattle.rpc_calls.proofs.NewTables.{new_table}
use Rattle.rpc_calls.proofs.calls.Calls.new.Goals as goal

pub invariant_of-result : goal.invariant_of-result
invariant_of-result g c =
    new_table g.H.Acts.now g.H.Acts.can_act g.H.Handler.rule _ c.reserve.new.self c.new.result.states c.new.result.handlers c.new-2.result.items _
    (c.in_ok-reserve.ensures.entries ∙ ap (λ (r : Recorded). r.entries) c.new-journal.ensures) c.in_ok-reserve.ensures.room c.new.ensures.agrees c.new.ensures.calls c.new.ensures.handlers c.new-2.ensures.items
