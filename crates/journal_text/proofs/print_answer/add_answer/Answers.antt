use Rattle.journal_text.proofs.PrintLemmas.{item_printed, outs_more}
use Rattle.journal_text.proofs.print_answer.add_answer.Goals as goal

pub loop-item-preserved : goal.loop-item-preserved
loop-item-preserved c = record {
  printed = item_printed _ c.as_slice-item-items.result.now c.loop-item.item-index c.item-item.result _ _ _
      c.loop-item-test.true c.item-item.is c.loop-item.invariant.printed c.in_ok-push_str.ensures.bytes c.in_ok-add_item.ensures.ok;
  fit = outs_more c.as_slice-item-items.result.now c.loop-item.item-index c.item-item.result c.loop-item-test.true
      c.item-item.is c.loop-item.invariant.fit c.in_ok-add_item.ensures.again;
}
