use Rattle.std.proofs.Common.{List, ap, sym, ◌∙◌, subst}
use Rattle.turn_cell.specs.Passes.{PassView}
use Rattle.turn_cell.specs.Helpers.{AreFree}
use Rattle.turn_cell.proofs.Closing.{AreTaken, one_taken, fewer_free, last_free, kept_more}
use Rattle.turn_cell.proofs.turn.closing.gather.Goals as goal

pub absorb-requires-clause-table : goal.absorb-requires-clause-table
absorb-requires-clause-table g c =
    let free = subst (λ (ps : List (PassView g.row.T-Entry.Denot g.row.T-Base.Denot)). AreFree c.args.top.now.table_id ps) c.in-Some.ensures.items c.loop-other.invariant.free in
    (ap (λ (z : PassView g.row.T-Entry.Denot g.row.T-Base.Denot). z.table) c.loop-other.invariant.first ∙ c.requires.table.0, (last_free c.args.top.now.table_id c.pop.new.self.items c.in-Some.other free).0, c.requires.table.1)

pub absorb-requires-clause-idle : goal.absorb-requires-clause-idle
absorb-requires-clause-idle g c =
    let free = subst (λ (ps : List (PassView g.row.T-Entry.Denot g.row.T-Base.Denot)). AreFree c.args.top.now.table_id ps) c.in-Some.ensures.items c.loop-other.invariant.free in
    (last_free c.args.top.now.table_id c.pop.new.self.items c.in-Some.other free).1

pub loop-other-preserved : goal.loop-other-preserved
loop-other-preserved g c =
    let so_far = c.loop-other.invariant in
    let left = c.pop.new.self.items in
    let free = subst (λ (ps : List (PassView g.row.T-Entry.Denot g.row.T-Base.Denot)). AreFree c.args.top.now.table_id ps) c.in-Some.ensures.items so_far.free in
    let taken = subst (λ (ps : List (PassView g.row.T-Entry.Denot g.row.T-Base.Denot)). AreTaken c.args.others.items ps c.loop-other.first.view.ended) c.in-Some.ensures.items so_far.taken in record {
      first = kept_more c.args.first.now c.loop-other.first c.absorb.new.self c.in-Some.other.view so_far.first c.absorb.ensures.kept;
      free = fewer_free c.args.top.now.table_id left c.in-Some.other free;
      taken = subst (λ (z : PassView g.row.T-Entry.Denot g.row.T-Base.Denot). AreTaken c.args.others.items left z.view.ended) (sym c.absorb.ensures.kept) (one_taken c.args.others.items left c.in-Some.other c.loop-other.first.view.ended taken);
    }
