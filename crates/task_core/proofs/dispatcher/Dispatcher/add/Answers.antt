use Rattle.std.proofs.Common.{sym, subst}
use Rattle.task_core.specs.Context.{all_outs}
use Rattle.task_core.specs.Tasks.{Tasks, StandsFor}
use Rattle.task_core.proofs.LogLemmas.{added_stands, slots_stand}
use Rattle.task_core.proofs.dispatcher.Dispatcher.add.Goals as goal
use Rattle.task_core.proofs.dispatcher.Dispatcher.add.Goals.{in-Ok, in-Err}

pub returns-clause-adds : goal.returns-clause-adds
returns-clause-adds g c =
    let b : Tasks g.row.T.Denot = record { moment = c.self.inside.cx.moment; places = c.self.inside.places; outs = all_outs c.self.inside.cx } in
    elim c.match-insert.branch [
      | in-Ok w ↦ rw w.result-is (λ log stands.
          let before : StandsFor b log = subst (λ v. StandsFor v log) (sym c.self.view_is) stands in
          let made = c.new.ensures in
          added_stands b c.insert.new.self log w.in-Ok.key c.args.task c.new.result before w.in-Ok.ensures.updates w.in-Ok.ensures.len
          (record { is = made.task; lives = made.lives; mail = made.mail; marked = made.marked; waits = made.waits; latest = made.latest; heard = made.heard }))
      | in-Err w ↦ rw w.result-is (tt {0})
    ]

pub returns-clause-refused : goal.returns-clause-refused
returns-clause-refused g c =
    let b : Tasks g.row.T.Denot = record { moment = c.self.inside.cx.moment; places = c.self.inside.places; outs = all_outs c.self.inside.cx } in
    elim c.match-insert.branch [
      | in-Ok w ↦ rw w.result-is (tt {0})
      | in-Err w ↦ rw w.result-is (λ log stands.
          let before : StandsFor b log = subst (λ v. StandsFor v log) (sym c.self.view_is) stands in
          slots_stand b c.insert.new.self log before w.in-Err.ensures.err)
    ]
