use Rattle.transfer_resume.proofs.ReadLaws as read_laws
use Rattle.transfer_resume.proofs.laws.reads_store_nothing.Goals as goal

pub returns : goal.returns
returns c = read_laws.reads_store_nothing
