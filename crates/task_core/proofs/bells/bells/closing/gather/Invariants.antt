use Rattle.std.proofs.Common.{◌≡◌, [], vec_len}
use Rattle.task_core.specs.bells.Bells.{AreOf}
use Rattle.task_core.proofs.bells.Closing.{IsTaking}
use Rattle.task_core.proofs.bells.bells.closing.gather.Given as goal

abbrev pub invariant-loop-bell : goal.invariant-loop-bell
invariant-loop-bell l = record {
  table : l.seat.table_id ≡ l.initial.seat.table_id;
  free : l.seat.me.1 ≡ [];
  left : AreOf l.top.table_id l.bells.items;
  taking : IsTaking l.initial.bells.items l.bells.items l.initial.seat.me.0 l.seat.me.0;
}

abbrev pub decreases-loop-bell : goal.decreases-loop-bell
decreases-loop-bell l = vec_len l.bells
