use Rattle.std.proofs.Common.{◌≡◌, ◌-◌, ◌≤◌, ◌++◌, length}
use Rattle.transfer_base.specs.PieceLists.{end_of}
use Rattle.transfer_sender.specs.Cut.{pieces_up_to}
use Rattle.transfer_sender.proofs.cut.cut_window.Given as goal

abbrev pub invariant-loop-turn : goal.invariant-loop-turn
invariant-loop-turn l = record {
  rest : l.pieces ++ pieces_up_to l.resource l.chunk l.stop l.at (64 - l._turn) ≡ pieces_up_to l.resource l.chunk l.stop l.fn.position 64;
  end : end_of l.fn.position l.pieces ≡ l.at;
  within : l.at ≤ length l.resource;
}
