use Rattle.std.proofs.Common.{◌≡◌, ◌++◌, take, length, arith, length-append, length-take}
use Rattle.std.proofs.KnownBytes.{Consumes-trans}
use Rattle.link_io.proofs.reading.read_to_limit.Goals as goal

pub returns-in_err-extend_from_slice-in-Ok-clause-most :
    goal.returns-in_err-extend_from_slice-in-Ok-clause-most
returns-in_err-extend_from_slice-in-Ok-clause-most g c =
    let left = g.S.Source.left in
    let piece = take c.in-Ok.count c.read.new.buf in
    let room : length c.read.new.buf ≡ length (take c.min-room.result c.pieces.buffer) = c.read.auto.buf in
    record {
      bytes = c.pieces.bytes.items ++ piece;
      within = omega (arith, room, length-take c.min-room.result c.pieces.buffer, length-append c.pieces.bytes.items piece, length-take c.in-Ok.count c.read.new.buf);
      consumed = Consumes-trans (left c.args.source.now) (left c.pieces.source) (left c.read.new.self) _ _ c.pieces.invariant.1 c.in-Ok.ensures.bytes.0;
    }
