use Rattle.std.proofs.Common.{◌≡◌, true, sym, subst, ap}
use Rattle.slab.specs.Slab.{get}
use Rattle.task_core.specs.bells.Bells.{Heard}
use Rattle.task_core.specs.Context.{all_outs}
use Rattle.task_core.specs.Places.{lives_in}
use Rattle.task_core.specs.Tasks.{Tasks, StandsFor}
use Rattle.task_core.proofs.HeardLemmas.{hears_word}
use Rattle.task_core.proofs.dispatcher.Dispatcher.hear_at.Goals as goal

pub returns-clause-hears : goal.returns-clause-hears
returns-clause-hears g c =
    let b : Tasks g.row.T.Denot = record { moment = c.self.inside.cx.moment; places = c.self.inside.places; outs = all_outs c.self.inside.cx } in
    let alive : lives_in (get b.places c.args.key) ≡ true = subst (λ v. lives_in (get v.places c.args.key) ≡ true) (sym c.self.view_is) (sym c.if-not-lives_at.ensures) in
    λ log stands same.
    hears_word b c.args.key c.load-word.ensures.total c.load-word.result c.index_mut.result.now c.args.ear.now.looks c.load-word.new.ear.looks c.index_mut.ensures.value alive c.load-word.ensures.is
    (ap (λ (z : Heard). z.looks) c.load-word.ensures.adds) log (subst (λ v. StandsFor v log) (sym c.self.view_is) stands) same
