use Rattle.rpc_shared.proofs.Passing.{input_there, steps_made}
use Rattle.rpc_shared.proofs.Feeding.{open_still}
use Rattle.rpc_shared.proofs.shared.Shared.arrive.Goals as goal

pub arrive-answer-requires-clause-input : goal.arrive-answer-requires-clause-input
arrive-answer-requires-clause-input g c = input_there _ _ _ _ _ _ _ c.hold-held.ensures.holds c.value.ensures.value c.number-seat.ensures c.requires.input

pub returns-clause-did : goal.returns-clause-did
returns-clause-did g c = steps_made _ _ _ _ _ _ _ _ _ _ c.hold-held.ensures.holds c.value.ensures.value c.number-seat.ensures c.arrive-answer.ensures.made c.give.ensures.given

pub returns-clause-open : goal.returns-clause-open
returns-clause-open g c = open_still _ c.args.self.now _ _ c.args.p.now c.arrive-answer.result c.requires.input (steps_made _ _ _ _ _ _ _ _ _ _ c.hold-held.ensures.holds c.value.ensures.value c.number-seat.ensures c.arrive-answer.ensures.made c.give.ensures.given)
