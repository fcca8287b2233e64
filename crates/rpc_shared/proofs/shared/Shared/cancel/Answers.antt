use Rattle.rpc_shared.proofs.Passing.{call_there, steps_made}
use Rattle.rpc_shared.proofs.Cancelling.{quiet_told}
use Rattle.rpc_shared.proofs.shared.Shared.cancel.Goals as goal

pub cancel-answer-requires : goal.cancel-answer-requires
cancel-answer-requires g c = record { call = call_there _ _ _ _ _ _ _ c.hold-held.ensures.holds c.value.ensures.value c.requires.call }

pub returns-clause-did : goal.returns-clause-did
returns-clause-did g c = steps_made _ _ _ _ _ _ _ _ _ _ c.hold-held.ensures.holds c.value.ensures.value c.number-seat.ensures c.cancel-answer.ensures.made c.give.ensures.given

pub returns-clause-quiet : goal.returns-clause-quiet
returns-clause-quiet g c = quiet_told _ c.args.self.now _ _ _ c.cancel-answer.result (steps_made _ _ _ _ _ _ _ _ _ _ c.hold-held.ensures.holds c.value.ensures.value c.number-seat.ensures c.cancel-answer.ensures.made c.give.ensures.given)
