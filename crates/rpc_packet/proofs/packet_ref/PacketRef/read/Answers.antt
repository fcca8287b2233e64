use Rattle.std.proofs.Common.{◌∙◌}
use Rattle.rpc_packet.proofs.ReadingLaws.{packet_found, fault_found, only_packet}
use Rattle.rpc_packet.proofs.packet_ref.PacketRef.read.Goals as goal

pub returns-clause-packet : goal.returns-clause-packet
returns-clause-packet c = packet_found c.args.bytes.now c.read_fields.result c.read_fields.ensures

pub returns-clause-fault : goal.returns-clause-fault
returns-clause-fault c = fault_found c.args.bytes.now c.read_fields.result c.read_fields.ensures

pub returns-clause-only : goal.returns-clause-only
returns-clause-only c = λ m is. c.read_fields.ensures ∙ only_packet c.args.bytes.now m is
