use Rattle.std.proofs.Common.{◌≡◌, vec_len}
use Rattle.turn_cell.specs.Helpers.{AreFree}
use Rattle.turn_cell.proofs.Closing.{AreTaken}
use Rattle.turn_cell.proofs.turn.closing.gather.Given as goal

abbrev pub invariant-loop-other : goal.invariant-loop-other
invariant-loop-other g l = record {
  first : l.first ≡ record l.initial.first { view = record l.initial.first.view { ended = l.first.view.ended } };
  free : AreFree l.top.table_id l.others.items;
  taken : AreTaken l.initial.others.items l.others.items l.first.view.ended;
}

abbrev pub decreases-loop-other : goal.decreases-loop-other
decreases-loop-other g l = vec_len l.others
