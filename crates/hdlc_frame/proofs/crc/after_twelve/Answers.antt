use Rattle.std.proofs.Common.{arith}
use Rattle.hdlc_frame.proofs.Words.{ahead_all, ahead_more, ahead_none}
use Rattle.hdlc_frame.proofs.crc.after_twelve.Goals as goal

pub loop-i-init : goal.loop-i-init
loop-i-init c = ahead_none c.args.octets.now

pub loop-i-preserved : goal.loop-i-preserved
loop-i-preserved c =
    ahead_more c.args.octets.now c.loop-i.i c.loop-i.after c.after_zeros-after.result c.loop-i-test.true c.told-octets
    (c.fits-octets c.loop-i.i) c.loop-i.invariant c.after_zeros-after.ensures

pub returns : goal.returns
returns c =
    ahead_all c.args.octets.now c.loop-i.i c.loop-i.after (omega (arith, c.loop-i-test.false, c.loop-i.auto.i-end)) c.told-octets
    c.loop-i.invariant
