use Rattle.rpc_shared.proofs.session.LeavingLemmas.{hangs_up_by}
use Rattle.rpc_shared.proofs.session.hanging_up.hang_up.Goals as goal

pub returns-clause-hangs_up : goal.returns-clause-hangs_up
returns-clause-hangs_up g c =
    hangs_up_by c.finish.result (g.O.Sink.finished c.finish.new.self) (g.O.Sink.faults c.args.link.now) (g.O.Sink.faults c.finish.new.self) c.finish.ensures.finished c.finish.ensures.cause
