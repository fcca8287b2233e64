use Rattle.rpc_shared.proofs.Passing.{say_there, steps_made}
use Rattle.rpc_shared.proofs.shared.Shared.say.Goals as goal

pub say-answer-requires : goal.say-answer-requires
say-answer-requires g c = record { can = say_there _ _ _ _ _ _ _ _ c.hold-held.ensures.holds c.value.ensures.value c.requires.can }

pub returns : goal.returns
returns g c = record { did = steps_made _ _ _ _ _ _ _ _ _ _ c.hold-held.ensures.holds c.value.ensures.value c.number-seat.ensures c.say-answer.ensures.made c.give.ensures.given }
