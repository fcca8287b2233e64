use Rattle.rpc_shared.proofs.Passing.{steps_made}
use Rattle.rpc_shared.proofs.Feeding.{runs_started_of}
use Rattle.rpc_shared.proofs.shared.Shared.start_of.Goals as goal

pub returns-clause-did : goal.returns-clause-did
returns-clause-did g c = steps_made _ _ _ _ _ _ _ _ _ _ c.hold-held.ensures.holds c.value.ensures.value c.number-seat.ensures c.start_of-answer.ensures.made c.give.ensures.given

pub returns-clause-runs : goal.returns-clause-runs
returns-clause-runs g c = runs_started_of _ _ _ _ _ c.start_of-answer.result (steps_made _ _ _ _ _ _ _ _ _ _ c.hold-held.ensures.holds c.value.ensures.value c.number-seat.ensures c.start_of-answer.ensures.made c.give.ensures.given) c.start_of-answer.ensures.unasked
