use Rattle.transfer_sender.proofs.CutLaws as cut_laws
use Rattle.transfer_sender.proofs.laws.cut_is_exact.Goals as goal

pub returns : goal.returns
returns c = cut_laws.cut_is_exact
