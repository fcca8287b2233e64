use Rattle.std.proofs.Common.{◌≡◌, ◌+◌, ◌-◌, ◌≤◌, length, take, true}
use Rattle.hdlc_frame.specs.Steps.{Unescapes}
use Rattle.hdlc_frame.proofs.unescape.unescape.Given as goal

-- an escape was read last
abbrev pub invariant-escapes : goal.invariant-escapes
invariant-escapes l = record {
  within : l.at ≤ length l.octets;
  room : l.end ≤ l.len + l.at;
  same : length l.buffer ≡ length l.fn.buffer;
  reads : Unescapes true (take l.at l.octets) true (take l.len l.fn.buffer) (take l.end l.buffer);
}

abbrev pub decreases-escapes : goal.decreases-escapes
decreases-escapes l = length l.octets - l.at
