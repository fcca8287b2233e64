use Rattle.rpc_shared.proofs.Passing.{steps_made}
use Rattle.rpc_shared.proofs.shared.Shared.replace.Goals as goal

pub returns-clause-did : goal.returns-clause-did
returns-clause-did g c = steps_made _ _ _ _ _ _ _ _ _ _ c.hold-held.ensures.holds c.value.ensures.value c.number-seat.ensures c.replace-answer.ensures.made c.give.ensures.given
