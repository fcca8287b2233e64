use Rattle.hdlc_frame.proofs.Numbers.{ReadTo}
use Rattle.hdlc_frame.proofs.judge.read_number.Given as goal

abbrev pub invariant-loop-i : goal.invariant-loop-i
invariant-loop-i l = ReadTo l.octets l.number l.worth l.i
