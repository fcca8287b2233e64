use Rattle.std.proofs.Common.{refl, sym, subst}
use Rattle.rpc_ids.specs.declared.method.Role.TheVariants.{Server}
use Rattle.rpc_schedule.specs.ends.EndHolds.{kept_call}
use Rattle.rpc_schedule.specs.ends.EndState.{EndState, WasFed}
use Rattle.rpc_schedule.proofs.ends.FedLemmas.{added_fed}
use Rattle.rpc_journal.specs.declared.entry.EntryKind.TheVariants.{EndIn}
use Rattle.rpc_schedule.proofs.ends.EntrySteps.{calm_step}
use Rattle.rpc_server.proofs.server.Server.end_in.Goals as goal

pub invariant_of-self : goal.invariant_of-self
invariant_of-self g c = (
  calm_step _ _ _ c.self.inside.calls c.end_in.new.self _ c.self.inside.kept 0 EndIn c.self.invariant.0
      (record { setting = c.end_in.ensures.setting; entries = c.end_in.ensures.did.adds }) c.end_in.ensures.legal refl (λ k. (refl, refl)),
  c.self.invariant.1,
)

pub returns-clause-fed : goal.returns-clause-fed
returns-clause-fed g c =
    let old : EndState = record { serving = record { table = c.self.inside.calls; kept = kept_call c.self.inside.kept; refused = c.self.inside.refused }; listener = c.self.inside.listener } in
    let new : EndState = record { serving = record { table = c.end_in.new.self; kept = kept_call c.self.inside.kept; refused = c.self.inside.refused }; listener = c.self.inside.listener } in
    λ bytes fed.
    let before : WasFed Server old bytes = subst (λ v. WasFed Server v bytes) (sym c.self.view_is) fed in
    added_fed Server old new 0 EndIn c.end_in.ensures.did.adds (record { setting = c.end_in.ensures.setting; kept = refl; refused = refl; listener = refl }) refl bytes before
