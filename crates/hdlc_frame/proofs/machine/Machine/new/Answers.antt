use Rattle.hdlc_frame.proofs.Parting.{open_text_none}
use Rattle.hdlc_frame.specs.Machine.{HasRead}
use Rattle.hdlc_frame.proofs.machine.Machine.new.Goals as goal

pub returns-clause-read : goal.returns-clause-read
unfolding HasRead
returns-clause-read c = λ buffer. open_text_none
