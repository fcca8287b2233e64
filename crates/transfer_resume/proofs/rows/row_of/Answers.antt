use Rattle.std.proofs.Common.{sym, ◌∙◌}
use Rattle.transfer_resume.proofs.RowLemmas.{row_hit}
use Rattle.transfer_resume.proofs.rows.row_of.Goals as goal

pub returns-then-id : goal.returns-then-id
returns-then-id c =
    row_hit c.args.id c.loop-at.at c.args.rows.now c.index-rows-at.result c.loop-at-test.true c.index-rows-at.is (sym c.id.ensures ∙ c.if-id.true) c.loop-at.invariant
