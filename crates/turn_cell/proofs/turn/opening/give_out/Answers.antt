use Rattle.std.proofs.Common.{◌≡◌, ◌+◌, List, length, ap, sym, ◌∙◌, subst, arith}
use Rattle.turn_cell.specs.Views.{giving, given_out}
use Rattle.turn_cell.specs.Passes.{PassView}
use Rattle.turn_cell.specs.Helpers.{AreNewcomers}
use Rattle.turn_cell.proofs.Calls.{newcomers_more}
use Rattle.turn_cell.proofs.turn.opening.give_out.Goals as goal

pub loop-number-preserved : goal.loop-number-preserved
loop-number-preserved g c =
    let so_far = c.loop-number.invariant in
    let fresh = c.split-fresh.result in
    let table = c.split-fresh.ensures.new.0 ∙ ap (λ (z : PassView g.row.T-Entry.Denot g.row.T-Base.Denot). z.table) so_far.first in
    let view = c.split-fresh.ensures.new.1 ∙ ap (λ (z : PassView g.row.T-Entry.Denot g.row.T-Base.Denot). given_out z.view) so_far.first in
    let count : length c.loop-number.passes.items + 1 ≡ c.loop-number.number = omega (arith, so_far.count, c.loop-number.passes.ok) in record {
      first = c.split-fresh.ensures.counted ∙ ap (λ (z : PassView g.row.T-Entry.Denot g.row.T-Base.Denot). record z { view = giving z.view }) so_far.first;
      room = c.push_reserved.ensures.capacity ∙ so_far.room;
      count = omega arith;
      passes = subst (λ (ps : List (PassView g.row.T-Entry.Denot g.row.T-Base.Denot)). AreNewcomers c.args.first.now ps) (sym c.push_reserved.ensures.items)
          (newcomers_more c.args.first.now c.loop-number.passes.items fresh c.loop-number.number so_far.passes count table view);
    }
