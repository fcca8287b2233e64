use Rattle.std.proofs.Common.{◌∙◌, ap, sym, map}
use Rattle.hdlc_frame.specs.Owned.{decoded_found}
use Rattle.hdlc_frame.proofs.Parting.{found_none}
use Rattle.hdlc_frame.proofs.pieces.decode_pieces.Goals as goal

pub loop-piece-init : goal.loop-piece-init
loop-piece-init c = record {
  limit = c.in_ok-decoder.ensures.limit;
  read = c.in_ok-decoder.ensures.read;
  gives = ap (map decoded_found) c.new-all.ensures.items ∙ sym (found_none c.args.limit);
}
