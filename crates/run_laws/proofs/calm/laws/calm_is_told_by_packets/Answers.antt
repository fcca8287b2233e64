use Rattle.run_laws.proofs.calm.ByPackets.{told_by_packets}
use Rattle.run_laws.proofs.calm.laws.calm_is_told_by_packets.Goals as goal

pub returns : goal.returns
returns c = told_by_packets
