use Rattle.hdlc_frame.proofs.Parting.{found_begins}
use Rattle.hdlc_frame.proofs.laws.more_is_found_behind.Goals as goal

pub returns : goal.returns
returns c = found_begins
