use Rattle.std.proofs.Common.{ap}
use Rattle.rpc_packet.specs.Message.{lent_message}
use Rattle.rpc_frames.specs.Heard.{packet_as}
use Rattle.rpc_frames.specs.HeardAs.{packet_in}
use Rattle.rpc_frames.proofs.Listens.{on_err}
use Rattle.rpc_frames.proofs.heard.Heard.own.Goals as goal

pub returns-in_err-own-in-Packet-clause-err : goal.returns-in_err-own-in-Packet-clause-err
returns-in_err-own-in-Packet-clause-err c =
    on_err c.from_residual.result (packet_as (lent_message c.in-Packet.packet) c.in-Packet.ptype, ap packet_in c.in-Packet.is)
