use Rattle.std.proofs.Common.{sym, subst}
use Rattle.rpc_ids.specs.declared.method.Role.TheVariants.{Server}
use Rattle.rpc_schedule.specs.ends.EndHolds.{kept_call}
use Rattle.rpc_schedule.specs.ends.EndState.{EndState, WasFed}
use Rattle.rpc_schedule.proofs.ends.CallSteps.{flush_step, gives}
use Rattle.rpc_schedule.proofs.ends.FedLemmas.{gives_heard}
use Rattle.rpc_server.proofs.server.Server.next_out.Goals as goal

pub invariant_of-self : goal.invariant_of-self
invariant_of-self g c = (
  flush_step _ _ _ c.self.inside.calls c.flush_front.new.self _ c.self.inside.kept c.flush_front.result c.self.invariant.0 c.flush_front.ensures.setting c.flush_front.ensures.legal c.flush_front.ensures.did,
  c.self.invariant.1,
)

pub returns-clause-step : goal.returns-clause-step
returns-clause-step g c =
    rw (← c.self.view_is) (gives _ _ _ c.self.inside.calls c.flush_front.new.self _ c.self.inside.kept c.flush_front.result c.self.invariant.0 c.flush_front.ensures.setting c.flush_front.ensures.did)

pub returns-clause-fed : goal.returns-clause-fed
returns-clause-fed g c =
    let old : EndState = record { serving = record { table = c.self.inside.calls; kept = kept_call c.self.inside.kept; refused = c.self.inside.refused }; listener = c.self.inside.listener } in
    let new : EndState = record { serving = record { table = c.flush_front.new.self; kept = kept_call c.self.inside.kept; refused = c.self.inside.refused }; listener = c.self.inside.listener } in
    λ bytes fed.
    let before : WasFed Server old bytes = subst (λ v. WasFed Server v bytes) (sym c.self.view_is) fed in
    record {
      listener = before.listener;
      packets = gives_heard _ old.serving new.serving c.flush_front.result
          (gives _ _ _ c.self.inside.calls c.flush_front.new.self _ c.self.inside.kept c.flush_front.result c.self.invariant.0 c.flush_front.ensures.setting c.flush_front.ensures.did) before.packets;
    }
