use Rattle.std.proofs.Common.{◌-◌, ◌≤◌, length, take}
use Rattle.hdlc_frame.specs.Steps.{IsOrdinary}
use Rattle.hdlc_frame.proofs.octets.ordinary_len.Given as goal

abbrev pub invariant-looks : goal.invariant-looks
invariant-looks l = record {
  within : l.at ≤ length l.octets;
  ordinary : IsOrdinary (take l.at l.octets);
}

abbrev pub decreases-looks : goal.decreases-looks
decreases-looks l = length l.octets - l.at
