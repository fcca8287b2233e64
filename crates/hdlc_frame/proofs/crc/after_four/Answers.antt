use Rattle.std.proofs.Common.{ap, sym, ◌∙◌, bit_xor}
use Rattle.hdlc_frame.specs.CheckSequence.{after_bits}
use Rattle.hdlc_frame.proofs.Words.{are_octets, four_at_once}
use Rattle.hdlc_frame.proofs.crc.after_four.Goals as goal

pub returns : goal.returns
returns c =
    let octets = c.args.octets.now in
    c.after_word.ensures ∙ ap (λ x. after_bits 32 (bit_xor c.args.register x) 0) c.from_le_bytes.ensures ∙
    sym (four_at_once octets c.args.register c.told-octets (are_octets octets c.fits-octets))
