use Rattle.transfer_resume.proofs.PlainLaws as plain_laws
use Rattle.transfer_resume.proofs.laws.plain_data_tells_all.Goals as goal

pub returns : goal.returns
returns c = plain_laws.reads_back
