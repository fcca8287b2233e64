use Rattle.std.proofs.Common.{◌≡◌, ◌-◌, ◌≤◌, ◌++◌, length, take}
use Rattle.hdlc_frame.specs.Encoded.{text_of}
use Rattle.hdlc_frame.proofs.text.push_text.Given as goal

abbrev pub invariant-runs : goal.invariant-runs
invariant-runs l = record {
  within : l.done ≤ length l.content;
  text : l.out.items ≡ l.fn.out.items ++ text_of (take l.done l.content);
}

abbrev pub decreases-runs : goal.decreases-runs
decreases-runs l = length l.content - l.done
