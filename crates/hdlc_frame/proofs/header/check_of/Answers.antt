use Rattle.std.proofs.Common.{ap, sym, ◌∙◌, bit_xor}
use Rattle.hdlc_frame.specs.declared.crc.TheConstants.{ALL_ONES}
use Rattle.hdlc_frame.specs.CheckSequence.{after_octets, check_sequence_of}
use Rattle.hdlc_frame.proofs.Register.{octets-append}
use Rattle.hdlc_frame.proofs.header.check_of.Goals as goal

pub returns : goal.returns
unfolding check_sequence_of
returns c =
    ap (λ r. bit_xor r ALL_ONES)
    (c.register_after-2.ensures ∙ ap (λ r. after_octets r c.args.payload.now) c.register_after.ensures ∙
    sym (octets-append ALL_ONES c.args.header.now c.args.payload.now))
