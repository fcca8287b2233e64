use Rattle.transfer_resume.proofs.StandingLaws as standing_laws
use Rattle.transfer_resume.proofs.laws.rows_rise.Goals as goal

pub returns : goal.returns
returns c = standing_laws.rows_rise
