use Rattle.rpc_shared.proofs.Passing.{steps_made}
use Rattle.rpc_shared.proofs.shared.Shared.try_close_channel.Goals as goal

pub returns-clause-did : goal.returns-clause-did
returns-clause-did g c = steps_made _ _ _ _ _ _ _ _ _ _ c.in_ok-held.ensures.holds c.value.ensures.value c.number-seat.ensures c.close_channel-answer.ensures.made c.give.ensures.given
