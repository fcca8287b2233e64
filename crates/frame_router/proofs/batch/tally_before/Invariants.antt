use Rattle.std.proofs.Common.{◌≡◌, drop}
use Rattle.frame_router.specs.Gathered.{tally_before}
use Rattle.frame_router.proofs.batch.tally_before.Given as goal

abbrev pub invariant-marks : goal.invariant-marks
invariant-marks l = tally_before (drop l.mark-index l.marks) l.at l.tally ≡ tally_before l.marks l.at l.fn.all
