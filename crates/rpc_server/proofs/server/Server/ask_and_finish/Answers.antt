use Rattle.std.proofs.Common.{Some, sym, ap, ◌∙◌}
use Rattle.rpc_schedule.proofs.ends.CallSteps.{ended}
use Rattle.rpc_server.proofs.server.Server.ask_and_finish.Goals as goal

pub returns-in-Some-take-clause-ends : goal.returns-in-Some-take-clause-ends
returns-in-Some-take-clause-ends g c =
    rw (← c.self.view_is)
    (ended _ _ _ c.self.inside.calls c.end_run.new.calls _ c.self.inside.kept c.take.new.self c.in-Some.run' c.in-Some-take.run' c.in-Some.is c.take.ensures.after
    (sym c.in-Some-take.is ∙ c.take.ensures.value ∙ ap Some c.in_ok-call.ensures.answer) c.self.invariant.0 c.in_ok-call.ensures.fits c.end_run.ensures.setting c.end_run.ensures.adds)
