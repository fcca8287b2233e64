use Rattle.std.proofs.Common.{[], arith, refl}
use Rattle.std.specs.Prelude.{◌≢◌}
use Rattle.text_fields.proofs.LineLaws.{split_is_line}
use Rattle.text_fields.proofs.lines.first_line.Goals as goal

pub returns-clause-some : goal.returns-clause-some
returns-clause-some c =
    let some : c.args.text.now ≢ [] = grind (arith, c.is_empty.ensures, c.if-is_empty.false) in
    rw c.unwrap_or.ensures (split_is_line c.args.text.now c.split_at.result _ c.split_at.ensures.none c.split_at.ensures.some some refl refl)
