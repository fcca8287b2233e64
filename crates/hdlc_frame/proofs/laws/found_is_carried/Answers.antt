use Rattle.hdlc_frame.proofs.Carried.{is_found_in}
use Rattle.hdlc_frame.proofs.laws.found_is_carried.Goals as goal

pub returns : goal.returns
returns c = is_found_in
