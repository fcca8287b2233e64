use Rattle.std.proofs.Common.{◌≡◌, ℕ, List, ◌++◌, ◌-◌, ◌≤◌, length, map, take}
use Rattle.hdlc_frame.specs.Found.{found}
use Rattle.hdlc_frame.specs.Machine.{HasRead}
use Rattle.hdlc_frame.specs.Owned.{decoded_found}
use Rattle.hdlc_frame.proofs.pieces.decode_piece.Given as goal

abbrev pub invariant-loop-at : goal.invariant-loop-at
invariant-loop-at l = record {
  within : l.at ≤ length l.piece;
  limit : l.decoder.limit ≡ l.fn.decoder.limit;
  read : (stream : List ℕ) → HasRead l.fn.decoder stream → HasRead l.decoder (stream ++ take l.at l.piece);
  gives : (stream : List ℕ) → HasRead l.fn.decoder stream → map decoded_found l.fn.all.items ≡ found l.fn.decoder.limit stream →
      map decoded_found l.all.items ≡ found l.fn.decoder.limit (stream ++ take l.at l.piece);
}

abbrev pub decreases-loop-at : goal.decreases-loop-at
decreases-loop-at l = length l.piece - l.at
