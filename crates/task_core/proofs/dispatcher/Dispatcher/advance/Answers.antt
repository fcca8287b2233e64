use Rattle.std.proofs.Common.{◌≤◌, ◌∷◌, sym, subst}
use Rattle.task_core.specs.Context.{Context, all_outs}
use Rattle.task_core.specs.Log.{advanced}
use Rattle.task_core.specs.Tasks.{Tasks, StandsFor}
use Rattle.task_core.proofs.LogLemmas.{advanced_stands}
use Rattle.task_core.proofs.dispatcher.Dispatcher.advance.Goals as goal

pub returns-clause-advances : goal.returns-clause-advances
returns-clause-advances g c =
    let b : Tasks g.row.T.Denot = record { moment = c.self.inside.cx.moment; places = c.self.inside.places; outs = all_outs c.self.inside.cx } in
    let later : b.moment ≤ c.args.now = subst (λ v. v.moment ≤ c.args.now) (sym c.self.view_is) c.requires in
    λ log stands.
    let before : StandsFor b log = subst (λ v. StandsFor v log) (sym c.self.view_is) stands in
    subst
    (λ (cx : Context). StandsFor (record { moment = cx.moment; places = c.come_all.new.places; outs = all_outs cx }) (advanced c.args.now ∷ log))
    (sym {b = record c.self.inside.cx { moment = c.args.now }} c.set_moment.ensures)
    (advanced_stands b c.come_all.new.places log c.args.now before later c.come_all.ensures.come)
