use Rattle.std.proofs.Common.{refl, sym, subst}
use Rattle.rpc_ids.specs.declared.method.Role.TheVariants.{Server}
use Rattle.rpc_schedule.specs.ends.EndHolds.{kept_call}
use Rattle.rpc_schedule.specs.ends.EndState.{EndState, WasFed}
use Rattle.rpc_schedule.proofs.ends.CallSteps.{accepts_step}
use Rattle.rpc_schedule.proofs.ends.FedLemmas.{accepts_fed}
use Rattle.rpc_server.proofs.server.Server.tick.Goals as goal

pub invariant_of-self : goal.invariant_of-self
invariant_of-self g c = (
  accepts_step _ _ _ c.self.inside.calls c.tick.new.self _ _ _ _ _ 1 _ c.self.inside.kept c.tick.result c.self.invariant.0 c.tick.ensures.setting c.tick.ensures.legal c.tick.ensures.did refl (λ k. (refl, refl)),
  c.self.invariant.1,
)

pub returns-clause-fed : goal.returns-clause-fed
returns-clause-fed g c =
    let old : EndState = record { serving = record { table = c.self.inside.calls; kept = kept_call c.self.inside.kept; refused = c.self.inside.refused }; listener = c.self.inside.listener } in
    let new : EndState = record { serving = record { table = c.tick.new.self; kept = kept_call c.self.inside.kept; refused = c.self.inside.refused }; listener = c.self.inside.listener } in
    λ bytes fed.
    let before : WasFed Server old bytes = subst (λ v. WasFed Server v bytes) (sym c.self.view_is) fed in
    accepts_fed Server _ _ _ _ 1 _ c.tick.result old new c.tick.ensures.did (record { setting = c.tick.ensures.setting; kept = refl; refused = refl; listener = refl }) refl bytes before
