use Rattle.std.proofs.Common.{rules, ℕ, length, List, [], ◌∷◌, ◌++◌, ◌≡◌, ap, sym, ◌∙◌, subst, arith, length-append}
use Rattle.turn_cell.specs.Passes.{IsIdle, IsNew, PassView}
use Rattle.rpc_journal.specs.declared.entry.Entry.{Entry}
use Rattle.rpc_journal.specs.declared.setting.Setting.{Setting}
use Rattle.rpc_shared.specs.Helpers.{AreEach}
use Rattle.crew_use.proofs.Seats.{fewer_new, idle_at, last_is_new, last_new, one_more_idle}
use Rattle.crew_use.proofs.shared.crew.+crew+fn-crew-join+arg2.Goals as goal

pub join-all-requires-after_bounds : goal.join-all-requires-after_bounds
join-all-requires-after_bounds g t c κs within =
    let off = c.in-Some.ensures.items in
    let left = c.pop.new.self.items in
    let new = subst (λ (ps : List (PassView Entry Setting)). AreEach (IsNew c.args.shared.now) ps) off c.requires.new in
    ((omega (arith, ap length off, length-append left (c.in-Some.pass ∷ []), c.decreases), (λ a m. m, (λ a m. m, (λ a m. m, ((search rules, c.requires.role, c.requires.seed, fewer_new c.args.shared.now left c.in-Some.pass new), search rules))))), (c.requires.role, c.requires.seed, last_is_new c.args.shared.now left c.in-Some.pass new))

pub returns-clause-idle : goal.returns-clause-idle
returns-clause-idle g t c =
    let off = c.in-Some.ensures.items in
    let left = c.pop.new.self.items in
    let new = subst (λ (ps : List (PassView Entry Setting)). AreEach (IsNew c.args.shared.now) ps) off c.requires.new in
    let first = c.join-all.ensures.first in
    let second = c.join-all.ensures.second in
    let last = last_new c.args.shared.now left c.in-Some.pass new in
    let number = second.1 ∙ last.pass.number ∙ sym first.1 in
    subst (λ (qs : List (PassView Entry Setting)). AreEach (IsIdle c.args.shared.now) qs) (sym c.push_reserved.ensures.items)
    (one_more_idle c.args.shared.now c.join-all.result.0.items c.join-all.result.1 first.0 (idle_at c.args.shared.now (length c.join-all.result.0.items) c.join-all.result.1 second.0 number))
