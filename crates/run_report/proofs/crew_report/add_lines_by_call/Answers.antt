use Rattle.std.proofs.Common.{Vec, Global, Bor, ◌∙◌, ap}
use Rattle.rpc_journal.specs.declared.item.Item.{Item}
use Rattle.run_report.specs.CrewReport.{numbered_lines}
use Rattle.run_report.proofs.ByCallLemmas.{lines_of_all, lists_more}
use Rattle.run_report.proofs.crew_report.add_lines_by_call.Goals as goal

pub loop-items_of_call-preserved : goal.loop-items_of_call-preserved
loop-items_of_call-preserved c =
    lists_more numbered_lines _ _ _ _ _ _ _ c.loop-items_of_call-test.true
    (c.deref-in-loop-items_of_call.ensures.value ∙ ap (λ (list : Vec (Bor Item) Global). list.items) c.items_of_call-item.is)
    c.loop-items_of_call.invariant c.in_ok-add_numbered_lines-2.ensures

pub returns : goal.returns
returns c =
    lines_of_all numbered_lines _ _ c.in_ok-replies.field-0 _ _ _ _ _ _ c.in_ok-replies.ensures c.deref.ensures.value
    c.deref-items_of_call-items.ensures.value c.loop-items_of_call-test.false c.in_ok-add_numbered_lines.ensures c.loop-items_of_call.invariant
