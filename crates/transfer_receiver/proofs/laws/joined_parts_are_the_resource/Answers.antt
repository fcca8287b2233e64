use Rattle.transfer_receiver.proofs.RunLaws as run_laws
use Rattle.transfer_receiver.proofs.laws.joined_parts_are_the_resource.Goals as goal

pub returns : goal.returns
returns c = run_laws.joined_parts_are_the_resource
