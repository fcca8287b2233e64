use Rattle.std.proofs.Common.{ap, sym, ◌∙◌, bit_xor}
use Rattle.hdlc_frame.specs.CheckSequence.{after_bits, after_octets}
use Rattle.hdlc_frame.proofs.Words.{are_octets, sixteen_at_once}
use Rattle.hdlc_frame.proofs.crc.after_sixteen.Goals as goal

pub returns : goal.returns
returns c =
    let word = c.args.word.now in
    let others = c.args.others.now in
    let register = c.args.register in
    ap (λ x. bit_xor x c.after_word.result) c.after_twelve.ensures ∙
    ap (bit_xor (after_octets 0 others))
    (c.after_word.ensures ∙ ap (λ x. after_bits 128 (bit_xor register x) 0) c.from_le_bytes.ensures) ∙
    sym (sixteen_at_once word others register c.told-word c.told-others (are_octets word c.fits-word) (are_octets others c.fits-others))
