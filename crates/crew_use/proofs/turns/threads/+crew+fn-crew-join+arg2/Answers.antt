use Rattle.std.proofs.Common.{rules, ℕ, length, List, [], ◌∷◌, ◌++◌, ap, sym, subst, arith, length-append}
use Rattle.turn_cell.specs.Passes.{PassView, AreBack}
use Rattle.turn_cell.specs.Helpers.{AreFree}
use Rattle.turn_cell.proofs.Closing.{fewer_free, last_free}
use Rattle.turn_cell.proofs.Passes.{one_more_back}
use Rattle.crew_use.proofs.turns.threads.+crew+fn-crew-join+arg2.Goals as goal

pub join-all-requires-after_bounds : goal.join-all-requires-after_bounds
join-all-requires-after_bounds g t c κs within =
    let off = c.in-Some.ensures.items in
    let left = c.pop.new.self.items in
    let free = subst (λ (ps : List (PassView (ℕ × ℕ) (Unit {0}))). AreFree c.args.turn.now.table ps) off c.requires in
    ((omega (arith, ap length off, length-append left (c.in-Some.pass ∷ []), c.decreases), (λ a m. m, ((search rules, fewer_free c.args.turn.now.table left c.in-Some.pass free), search rules))), last_free c.args.turn.now.table left c.in-Some.pass free)

pub returns-clause-back : goal.returns-clause-back
returns-clause-back g t c =
    let first = c.join-all.ensures.first in
    let second = c.join-all.ensures.second in
    let back = one_more_back c.pop.new.self.items c.join-all.result.0.items c.in-Some.pass c.join-all.result.1 first.0 second.0 second.1 in
    subst (λ (ps : List (PassView (ℕ × ℕ) (Unit {0}))). AreBack ps c.push_reserved.new.self.items) (sym c.in-Some.ensures.items)
    (subst (λ (qs : List (PassView (ℕ × ℕ) (Unit {0}))). AreBack (c.pop.new.self.items ++ c.in-Some.pass ∷ []) qs) (sym c.push_reserved.ensures.items) back)
