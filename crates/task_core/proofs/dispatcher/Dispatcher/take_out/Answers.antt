use Rattle.std.proofs.Common.{sym, subst, ◌∷◌}
use Rattle.task_core.specs.Context.{all_outs}
use Rattle.task_core.specs.Log.{took}
use Rattle.task_core.specs.Tasks.{Tasks, StandsFor}
use Rattle.task_core.proofs.LogLemmas.{took_stands, taken_rest}
use Rattle.task_core.proofs.dispatcher.Dispatcher.take_out.Goals as goal

pub returns-clause-takes : goal.returns-clause-takes
returns-clause-takes g c =
    let b : Tasks g.row.T.Denot = record { moment = c.self.inside.cx.moment; places = c.self.inside.places; outs = all_outs c.self.inside.cx } in
    let outs = all_outs c.take_out.new.self in
    let out = c.take_out.ensures in
    λ log stands.
    let before : StandsFor b log = subst (λ v. StandsFor v log) (sym c.self.view_is) stands in
    let after : StandsFor (record b { outs = outs }) (took ∷ log) = took_stands b outs log before (taken_rest b.outs c.take_out.result outs out.outs out.none) in
    subst (λ m. StandsFor (record { moment = m; places = b.places; outs = outs }) (took ∷ log)) (sym out.moment) after
