use Rattle.rpc_shared.proofs.session.StepLemmas.{can_halt, halt_adds, halt_halted, halt_mine}
use Rattle.rpc_crew.proofs.halting.halt.Goals as goal

pub halt-requires-clause-can : goal.halt-requires-clause-can
halt-requires-clause-can g c = can_halt c.args.why c.requires.why

pub returns-clause-adds : goal.returns-clause-adds
returns-clause-adds g c = halt_adds g.H.Handler.rule c.args.shared.now c.args.pass.now c.halt.new.pass c.args.why c.halt.ensures.did c.requires.full

pub returns-clause-mine : goal.returns-clause-mine
returns-clause-mine g c = halt_mine g.H.Handler.rule c.args.shared.now c.args.pass.now c.halt.new.pass c.args.why c.halt.ensures.did

pub returns-clause-halted : goal.returns-clause-halted
returns-clause-halted g c = halt_halted g.H.Handler.rule c.args.shared.now c.args.pass.now c.halt.new.pass c.args.why c.halt.ensures.did
