use Rattle.std.proofs.Common.{◌≡◌, ◌++◌, length}
use Rattle.link_script.proofs.lossy.link.LossyLink.release.Given as goal

abbrev pub invariant-kept : goal.invariant-kept
invariant-kept l =
    l.self-inside.frames.items ++ l.self-inside.kept_back.items ≡ l.initial.self-inside.frames.items ++ l.initial.self-inside.kept_back.items

abbrev pub decreases-kept : goal.decreases-kept
decreases-kept l = length l.self-inside.kept_back.items
