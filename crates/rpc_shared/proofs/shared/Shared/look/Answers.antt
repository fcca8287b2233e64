use Rattle.std.proofs.Common.{refl}
use Rattle.rpc_shared.specs.Looks.{LookDid}
use Rattle.rpc_shared.proofs.Passing.{give_log, made_look, steps_made}
use Rattle.rpc_shared.proofs.shared.Shared.look.Goals as goal

pub give-requires-clause-log : goal.give-requires-clause-log
give-requires-clause-log g c = give_log _ _ _ _ c.value.result.now _ c.hold-held.ensures.holds c.value.ensures.value

pub returns : goal.returns
returns g c =
    let holds = c.hold-held.ensures.holds in
    record {
      did =
          steps_made _ _ _ _ _ _ _ _ _ _ holds c.value.ensures.value refl
          (made_look _ _ _ _ _ c.value.result.now c.hold-held.new.pass.view.known.number (λ set x. LookDid set c.look-answer.result) holds c.value.ensures.value c.look-answer.ensures.did)
          c.give.ensures.given;
    }
