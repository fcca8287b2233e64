use Rattle.std.proofs.Common.{arith, ◌%◌, ap, ◌∙◌, bit_xor}
use Rattle.std.proofs.lemmas.Nat.{and_mask}
use Rattle.hdlc_frame.specs.CheckSequence.{after_bits}
use Rattle.hdlc_frame.proofs.crc.after_each.Goals as goal
use Rattle.hdlc_frame.proofs.Register.{step}

pub loop-octet-preserved : goal.loop-octet-preserved
loop-octet-preserved c =
    let r = c.loop-octet.after in
    step r c.after_zeros.result c.loop-octet.octet-index _ c.args.octets.now (omega arith)
    (omega (arith, c.type_inv.octets c.loop-octet.octet-index))
    (c.after_zeros.ensures ∙ ap (λ x. after_bits 8 x 0) (and_mask (bit_xor r c.from.result) 8 ∙ ap (λ x. bit_xor r x % 256) c.from.ensures))
    c.loop-octet.invariant
