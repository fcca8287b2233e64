use Rattle.rpc_shared.proofs.Passing.{steps_made}
use Rattle.rpc_shared.proofs.shared.Shared.flush_front.Goals as goal

pub returns : goal.returns
returns g c = record { did = steps_made _ _ _ _ _ _ _ _ _ _ c.hold-held.ensures.holds c.value.ensures.value c.number-seat.ensures c.flush_front-answer.ensures.made c.give.ensures.given }
