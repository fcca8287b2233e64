use Rattle.std.proofs.Common.{◌≡◌, ◌+◌, vec_len, vec_capacity}
use Rattle.turn_cell.specs.Helpers.{AreNewcomers}
use Rattle.turn_cell.proofs.turn.opening.give_out.Given as goal

abbrev pub invariant-loop-number : goal.invariant-loop-number
invariant-loop-number g l = record {
  first : l.first ≡ record l.initial.first { view = record l.initial.first.view { given = l.number } };
  room : vec_capacity l.passes ≡ vec_capacity l.initial.passes;
  count : vec_len l.passes + 1 ≡ l.number;
  passes : AreNewcomers l.initial.first l.passes.items;
}
