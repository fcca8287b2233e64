use Rattle.c_codec.proofs.Rooms.{frame_room}
use Rattle.c_codec.proofs.laws.room_of_a_frame.Goals as goal

pub returns : goal.returns
returns c = frame_room
