use Rattle.link_laws.proofs.lossless_scripts.Within.{rows_are_within}
use Rattle.link_laws.proofs.lossless_scripts.laws.rows_are_within.Goals as goal

pub returns : goal.returns
returns c = rows_are_within
