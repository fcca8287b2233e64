use Rattle.text_fields.proofs.SplitLaws.{found_is_split, no_split, none_is_lacking, one_found}
use Rattle.text_fields.proofs.splits.split_at.Goals as goal

pub returns-clause-some : goal.returns-clause-some
returns-clause-some c = found_is_split c.args.separator c.args.text.now c.in_ok-at.at c.in_ok-at.ensures

pub returns-clause-only : goal.returns-clause-only
returns-clause-only c front rest split =
    one_found c.args.separator c.args.text.now _ _ front rest (found_is_split c.args.separator c.args.text.now c.in_ok-at.at c.in_ok-at.ensures) split

pub returns-in_err-at-clause-none : goal.returns-in_err-at-clause-none
returns-in_err-at-clause-none c =
    rw c.from_residual.ensures (none_is_lacking c.args.separator c.args.text.now c.in_err-at.ensures)

pub returns-in_err-at-clause-only : goal.returns-in_err-at-clause-only
returns-in_err-at-clause-only c front rest split =
    absurd (no_split c.args.separator c.args.text.now front rest (none_is_lacking c.args.separator c.args.text.now c.in_err-at.ensures) split)
