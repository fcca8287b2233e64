use Rattle.std.proofs.Common.{◌≡◌, map, take}
use Rattle.std.specs.List.{flat_map}
use Rattle.hdlc_frame.specs.Found.{found}
use Rattle.hdlc_frame.specs.Machine.{HasRead}
use Rattle.hdlc_frame.specs.Owned.{decoded_found}
use Rattle.hdlc_frame.proofs.pieces.decode_pieces.Given as goal

abbrev pub invariant-loop-piece : goal.invariant-loop-piece
invariant-loop-piece l = record {
  limit : l.decoder.limit ≡ l.limit;
  read : HasRead l.decoder (flat_map (λ piece. piece.now) (take l.piece-index l.pieces));
  gives : map decoded_found l.all.items ≡ found l.limit (flat_map (λ piece. piece.now) (take l.piece-index l.pieces));
}
