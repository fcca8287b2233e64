use Rattle.std.proofs.Common.{◌≡◌, length, vec_capacity}
use Rattle.task_core.specs.bells.Bells.{AreNew}
use Rattle.task_core.proofs.bells.bells.opening.make_bells.Given as goal

abbrev pub invariant-loop-made : goal.invariant-loop-made
invariant-loop-made l = record {
  table : l.seat.table_id ≡ l.initial.seat.table_id;
  me : l.seat.me ≡ (record l.initial.seat.me.0 { made = l._made }, l.initial.seat.me.1);
  bells : AreNew l.top.table_id l.bells.items;
  count : length l.bells.items ≡ l._made;
  room : vec_capacity l.bells ≡ vec_capacity l.initial.bells;
}
