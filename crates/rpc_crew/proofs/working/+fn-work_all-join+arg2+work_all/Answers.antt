use Rattle.std.proofs.Common.{rules, length, List, [], ◌∷◌, ◌++◌, ap, sym, subst, arith, length-append}
use Rattle.rpc_shared.specs.session.Crew.{AllWorked, AreWorkers, Seat}
use Rattle.rpc_crew.proofs.WorkerLists.{are_front, is_last, worked_length, worked_more}
use Rattle.rpc_crew.proofs.working.+fn-work_all-join+arg2+work_all.Goals as goal

pub join-all-requires-after_bounds : goal.join-all-requires-after_bounds
join-all-requires-after_bounds g t c κs within =
    let rule = g.H.Handler.rule in
    let r = c.args.shared.now in
    let off = c.in-Some.ensures.items in
    let left = c.pop.new.self.items in
    let all = subst (λ (ps : List Seat). AreWorkers rule r ps) off c.requires in
    ((omega (arith, ap length off, length-append left (c.in-Some.pass ∷ []), c.decreases), (λ a m. m, (λ a m. m, (λ a m. m, ((search rules, are_front rule r left c.in-Some.pass all), search rules))))), is_last rule r left c.in-Some.pass all)

pub returns-clause-worked : goal.returns-clause-worked
returns-clause-worked g t c =
    let rule = g.H.Handler.rule in
    let r = c.args.shared.now in
    let first = c.join-all.ensures.first in
    let second = c.join-all.ensures.second in
    let more = worked_more rule r c.pop.new.self.items c.join-all.result.0.items c.in-Some.pass c.join-all.result.1 first.0 second.0 second.1 in
    subst (λ (ps : List Seat). AllWorked rule r ps c.push_reserved.new.self.items) (sym c.in-Some.ensures.items)
    (subst (λ (qs : List Seat). AllWorked rule r (c.pop.new.self.items ++ c.in-Some.pass ∷ []) qs) (sym c.push_reserved.ensures.items) more)

pub push_reserved-requires : goal.push_reserved-requires
push_reserved-requires g t c =
    let rule = g.H.Handler.rule in
    let r = c.args.shared.now in
    let first = c.join-all.ensures.first in
    let same = worked_length rule r c.pop.new.self.items c.join-all.result.0.items first.0 in
    omega (arith, same, first.1, ap length c.in-Some.ensures.items, length-append c.pop.new.self.items (c.in-Some.pass ∷ []), c.in-Some.ensures.capacity, c.args.passes.ok)
