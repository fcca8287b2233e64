use Rattle.std.proofs.Common.{sym, subst}
use Rattle.task_core.specs.Context.{all_outs}
use Rattle.task_core.specs.Tasks.{Tasks, StandsFor}
use Rattle.task_core.proofs.LogLemmas.{woken_stands}
use Rattle.task_core.proofs.dispatcher.Dispatcher.wake.Goals as goal

pub returns-clause-wakes : goal.returns-clause-wakes
returns-clause-wakes g c =
    let b : Tasks g.row.T.Denot = record { moment = c.self.inside.cx.moment; places = c.self.inside.places; outs = all_outs c.self.inside.cx } in
    λ log stands.
    let before : StandsFor b log = subst (λ v. StandsFor v log) (sym c.self.view_is) stands in
    woken_stands b log c.args.key c.index_mut.result.now c.wake.new.self before c.index_mut.ensures.value c.wake.ensures
