use Rattle.rpc_shared.proofs.Passing.{input_there, steps_made}
use Rattle.rpc_shared.proofs.shared.Shared.end_in.Goals as goal

pub end_in-requires : goal.end_in-requires
end_in-requires g c = record { input = input_there _ _ _ _ _ _ _ c.hold-held.ensures.holds c.value.ensures.value c.number-seat.ensures c.requires.input }

pub returns : goal.returns
returns g c = record { did = steps_made _ _ _ _ _ _ _ _ _ _ c.hold-held.ensures.holds c.value.ensures.value c.number-seat.ensures c.end_in.ensures.made c.give.ensures.given }
