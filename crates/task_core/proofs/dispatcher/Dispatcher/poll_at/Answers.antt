use Rattle.std.proofs.Common.{◌≡◌, true, refl, sym, subst, ap, ◌∙◌}
use Rattle.std.specs.Prelude.{is_err}
use Rattle.slab.specs.Slab.{get}
use Rattle.task_core.specs.Context.{all_outs}
use Rattle.task_core.specs.Places.{due_in}
use Rattle.task_core.specs.Tasks.{Tasks, StandsFor}
use Rattle.task_core.proofs.RunLemmas.{turn_made}
use Rattle.task_core.proofs.dispatcher.Dispatcher.poll_at.Goals as goal

pub returns-clause-turn : goal.returns-clause-turn
returns-clause-turn g c =
    let b : Tasks g.row.T.Denot = record { moment = c.self.inside.cx.moment; places = c.self.inside.places; outs = all_outs c.self.inside.cx } in
    let due : due_in (get b.places c.args.key) ≡ true = subst (λ v. due_in (get v.places c.args.key) ≡ true) (sym c.self.view_is) c.requires in
    λ log stands first.
    let before : StandsFor b log = subst (λ v. StandsFor v log) (sym c.self.view_is) stands in
    turn_made g.T.Task.polls b log c.args.key c.index_mut.result.now c.poll.new.self c.self.inside.cx c.poll.new.cx c.poll.ensures.polled.0 (is_err c.poll.result)
    before c.index_mut.ensures.value (sym (ap due_in c.index_mut.ensures.value) ∙ due) first refl refl c.poll.ensures.polled.1
