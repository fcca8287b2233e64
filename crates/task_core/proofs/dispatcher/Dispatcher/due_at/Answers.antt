use Rattle.std.proofs.Common.{◌≡◌, ℕ, Some, get_or, subst, ap, ◌∙◌}
use Rattle.std.specs.Prelude.{slice_get}
use Rattle.slab.specs.Slab.{get}
use Rattle.task_core.specs.bells.Bells.{rung_by}
use Rattle.task_core.proofs.bells.Closing.{value_at, value_there}
use Rattle.task_core.specs.Places.{due_with}
use Rattle.task_core.proofs.HeardLemmas.{due_heard, due_rung}
use Rattle.task_core.proofs.Joining.{rung_since}
use Rattle.task_core.proofs.dispatcher.Dispatcher.due_at.Goals as goal

pub returns-clause-due : goal.returns-clause-due
returns-clause-due g c =
    let p = c.index.result.now in
    let found : get c.args.self.now.places c.args.key ≡ Some p = subst (λ v. get v.places c.args.key ≡ Some p) c.self.view_is c.index.ensures in
    λ log stands word total at is.
    c.is_due_with.ensures ∙ ap (λ w. due_with w p) (value_at c.args.words.now c.args.key word at) ∙ due_heard c.args.self.now log c.args.key total word p stands found is

pub returns-clause-rung : goal.returns-clause-rung
returns-clause-rung g c =
    let p = c.index.result.now in
    let found : get c.args.self.now.places c.args.key ≡ Some p = subst (λ v. get v.places c.args.key ≡ Some p) c.self.view_is c.index.ensures in
    λ log stands word total at is later few alive.
    c.is_due_with.ensures ∙ ap (λ w. due_with w p) (value_at c.args.words.now c.args.key word at) ∙ due_rung c.args.self.now log c.args.key total word p stands found is later few alive

pub returns-clause-none_lost : goal.returns-clause-none_lost
returns-clause-none_lost g c =
    let p = c.index.result.now in
    let key = c.args.key in
    let word : ℕ = get_or c.args.words.now key 0 in
    let found : get c.args.self.now.places key ≡ Some p = subst (λ v. get v.places key ≡ Some p) c.self.view_is c.index.ensures in
    let at : slice_get c.args.words.now key ≡ Some word = value_there c.args.words.now key c.requires.words in
    λ log bells stands sums lost differs few alive.
    c.is_due_with.ensures
    ∙ due_rung c.args.self.now log key (rung_by key bells) word p stands found (sums key word at) (rung_since log bells c.args.words.now key lost differs) few alive
