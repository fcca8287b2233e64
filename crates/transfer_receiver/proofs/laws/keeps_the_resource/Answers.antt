use Rattle.transfer_receiver.proofs.RunLaws as run_laws
use Rattle.transfer_receiver.proofs.laws.keeps_the_resource.Goals as goal

pub returns : goal.returns
returns c = run_laws.keeps_the_resource
