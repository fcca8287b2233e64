use Rattle.transfer_sender.proofs.RunLaws as run_laws
use Rattle.transfer_sender.proofs.laws.sends_parts.Goals as goal

pub returns : goal.returns
returns c = run_laws.sends_parts
