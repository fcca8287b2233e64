use Rattle.std.proofs.Common.{Err, ap, rules}
use Rattle.pw_run.proofs.route.route.Goals as goal

pub returns-in_ok-line-in-Err-Line : goal.returns-in_ok-line-in-Err-Line
returns-in_ok-line-in-Err-Line c =
    let bad = c.in-Err-Line.ensures.line c.in-Err-Line.number (ap Err c.in-Err-Line.field-0-is) in
    record { number = c.in-Err-Line.number; counted = bad.0; bad = bad.1; line = search rules }
