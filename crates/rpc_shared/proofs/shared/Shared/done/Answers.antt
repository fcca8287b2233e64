use Rattle.rpc_shared.proofs.Passing.{done_there, steps_made}
use Rattle.rpc_shared.proofs.shared.Shared.done.Goals as goal

pub done-answer-requires : goal.done-answer-requires
done-answer-requires g c = record { can = done_there _ _ _ _ _ _ _ c.hold-held.ensures.holds c.value.ensures.value c.requires.can }

pub returns : goal.returns
returns g c = record { did = steps_made _ _ _ _ _ _ _ _ _ _ c.hold-held.ensures.holds c.value.ensures.value c.number-seat.ensures c.done-answer.ensures.made c.give.ensures.given }
