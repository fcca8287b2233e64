use Rattle.std.proofs.Common.{refl, sym, subst}
use Rattle.rpc_ids.specs.declared.method.Role.TheVariants.{Client}
use Rattle.rpc_schedule.specs.ends.EndHolds.{kept_call}
use Rattle.rpc_schedule.specs.ends.EndState.{EndState, WasFed}
use Rattle.rpc_journal.specs.declared.entry.EntryKind.TheVariants.{Cancel}
use Rattle.rpc_schedule.proofs.ends.CallSteps.{may_add_step}
use Rattle.rpc_schedule.proofs.ends.FedLemmas.{may_add_fed}
use Rattle.rpc_client.proofs.client.Client.cancel.Goals as goal

pub invariant_of-self : goal.invariant_of-self
invariant_of-self g c = (
  may_add_step _ _ _ c.self.inside.calls c.cancel.new.self _ _ 2 (Cancel c.args.call) c.self.inside.kept c.self.invariant.0 c.cancel.ensures.setting c.cancel.ensures.legal c.cancel.ensures.did.adds refl (λ k. (refl, refl)),
  c.self.invariant.1,
)

pub returns-clause-fed : goal.returns-clause-fed
returns-clause-fed g c =
    let old : EndState = record { serving = record { table = c.self.inside.calls; kept = kept_call c.self.inside.kept; refused = c.self.inside.refused }; listener = c.self.inside.listener } in
    let new : EndState = record { serving = record { table = c.cancel.new.self; kept = kept_call c.self.inside.kept; refused = c.self.inside.refused }; listener = c.self.inside.listener } in
    λ bytes fed.
    let before : WasFed Client old bytes = subst (λ v. WasFed Client v bytes) (sym c.self.view_is) fed in
    may_add_fed Client _ old new 2 (Cancel c.args.call) c.cancel.ensures.did.adds (record { setting = c.cancel.ensures.setting; kept = refl; refused = refl; listener = refl }) refl bytes before
