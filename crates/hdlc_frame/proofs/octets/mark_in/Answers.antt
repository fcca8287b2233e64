use Rattle.hdlc_frame.proofs.Marks.{marked_behind, none_counted, ordinary_before, some_below, some_counted}
use Rattle.hdlc_frame.proofs.octets.mark_in.Goals as goal

pub returns-then-marks-eq0-clause-none : goal.returns-then-marks-eq0-clause-none
returns-then-marks-eq0-clause-none c = λ none.
    let octets = c.args.octets.now in
    let at = c.args.at in
    ordinary_before octets at c.requires 32 c.type_inv.octets (none_counted octets at c.requires c.if-marks-eq0.true)

pub returns-clause-some : goal.returns-clause-some
returns-clause-some c =
    let octets = c.args.octets.now in
    let at = c.args.at in
    let some = c.if-marks-eq0.false in
    let below = some_below octets at c.requires some in
    let counted = some_counted octets at c.requires some in (
      below,
      ordinary_before octets at c.requires _ c.type_inv.octets counted,
      marked_behind octets at c.requires _ c.type_inv.octets counted below,
    )
