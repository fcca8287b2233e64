use Rattle.hdlc_frame.proofs.ReadBack.{is_read_back}
use Rattle.hdlc_frame.proofs.laws.written_is_read_back.Goals as goal

pub returns : goal.returns
returns c = is_read_back
