use Rattle.std.proofs.Common.{◌≡◌, refl, rules}
use Rattle.rpc_shared.specs.session.Crew.{is_workers}
use Rattle.rpc_shared.proofs.session.StepLemmas.{finish_adds}
use Rattle.rpc_crew.proofs.running.run.Goals as goal

pub returns-then-is_err-clause-adds : goal.returns-then-is_err-clause-adds
returns-then-is_err-clause-adds g c = c.halt.ensures.adds is_workers refl

pub returns-clause-adds : goal.returns-clause-adds
returns-clause-adds g c =
    let seat : c.call.new.self.run.seat ≡ c.args.pass.now.view.known.number = search rules in
    finish_adds g.H.Handler.rule c.args.shared.now c.args.pass.now c.finish.new.pass c.call.new.self g.H.Acts.now c.finish.result seat c.finish.ensures.did
