use Rattle.std.proofs.Common.{◌≡◌, drop}
use Rattle.link_script.specs.lossy.Link.{loss_of}
use Rattle.link_script.proofs.lossy.losses.loss_of.Given as goal

abbrev pub invariant-loop-frame : goal.invariant-loop-frame
invariant-loop-frame l = loss_of l.number (drop l.frame-index l.losses) ≡ loss_of l.number l.losses
