use Rattle.c_codec.proofs.Rooms.{packet_room}
use Rattle.c_codec.proofs.laws.room_of_a_packet.Goals as goal

pub returns : goal.returns
returns c = packet_room
