use Rattle.std.proofs.Common.{reverse}
use Rattle.rpc_journal.proofs.EndLemmas.{ends_once}
use Rattle.rpc_journal.proofs.PacketLemmas.{no_packet_after_end}
use Rattle.rpc_journal.proofs.laws.ends.Goals as goal

pub returns-clause-once : goal.returns-clause-once
returns-clause-once c = λ set h call. ends_once set (reverse h) call

pub returns-clause-no_packet_after : goal.returns-clause-no_packet_after
returns-clause-no_packet_after c = no_packet_after_end
