use Rattle.hdlc_frame.proofs.Parting.{segments_grow_is}
use Rattle.hdlc_frame.proofs.laws.segments_grow.Goals as goal

pub returns : goal.returns
returns c = segments_grow_is
