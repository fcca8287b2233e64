use Rattle.std.proofs.Common.{◌-◌, ◌≤◌, length, take}
use Rattle.frame_router.specs.Gathered.{GathersOn}
use Rattle.frame_router.proofs.pumping.gather_piece.Given as goal

abbrev pub invariant-segments : goal.invariant-segments
invariant-segments l = record {
  within : l.done ≤ length l.piece;
  on : GathersOn l.routes l.from l.fn.intake l.fn.batch l.intake l.batch (take l.done l.piece);
}

abbrev pub decreases-segments : goal.decreases-segments
decreases-segments l = length l.piece - l.done
