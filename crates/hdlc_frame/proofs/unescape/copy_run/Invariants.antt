use Rattle.std.proofs.Common.{◌≡◌, ◌+◌, ◌-◌, ◌≤◌, ◌++◌, length, take}
use Rattle.hdlc_frame.specs.Steps.{IsOrdinary}
use Rattle.hdlc_frame.proofs.unescape.copy_run.Given as goal

-- what was read is copied
abbrev pub invariant-copies : goal.invariant-copies
invariant-copies l = record {
  within : l.done ≤ length l.octets;
  same : length l.buffer ≡ length l.fn.buffer;
  ordinary : IsOrdinary (take l.done l.octets);
  copied : take (l.from + l.done) l.buffer ≡ take l.from l.fn.buffer ++ take l.done l.octets;
}

abbrev pub decreases-copies : goal.decreases-copies
decreases-copies l = length l.octets - l.done
