use Rattle.std.proofs.Common.{ap, lit≤}
use Rattle.stream_dump.specs.Names.{names_of}
use Rattle.stream_dump.specs.Packets.{packet_said}
use Rattle.stream_dump.proofs.WordLemmas.{adds_as, adds_more}
use Rattle.stream_dump.proofs.packet_words.add_packet.Goals as goal

pub returns-in-Err : goal.returns-in-Err
returns-in-Err c = adds_as 39 _ _ _ _ (adds_more 4 39 _ _ _ (lit≤ tt) c.add.ensures) (ap (packet_said (names_of c.args.names.now)) c.in-Err.ensures.value)
