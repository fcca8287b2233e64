use Rattle.std.proofs.Common.{arith, ap, ◌∙◌, ◌+◌, ◌-◌, ◌*◌, ◌/◌, ◌^◌}
use Rattle.std.proofs.lemmas.Nat.{and_mask}
use Rattle.hdlc_frame.specs.CheckSequence.{after_bits}
use Rattle.hdlc_frame.proofs.Words.{upper_all, upper_more, upper_none}
use Rattle.hdlc_frame.proofs.crc.after_word.Goals as goal

pub loop-i-init : goal.loop-i-init
loop-i-init c = upper_none c.args.lane c.args.word c.ranges.word.fits

pub loop-i-preserved : goal.loop-i-preserved
loop-i-preserved c =
    let i = c.loop-i.i in
    let lane = c.args.lane in
    upper_more lane c.args.word i c.loop-i.after c.after_zeros-after.result c.loop-i-test.true c.loop-i.invariant
    (c.after_zeros-after.ensures ∙ ap (λ x. after_bits (8 * (lane + i + 1)) x 0) (and_mask (c.args.word / 2 ^ (8 * (3 - i))) 8))

pub returns : goal.returns
returns c =
    upper_all c.args.lane c.args.word c.loop-i.i c.loop-i.after (omega (arith, c.loop-i-test.false, c.loop-i.auto.i-end)) c.loop-i.invariant
