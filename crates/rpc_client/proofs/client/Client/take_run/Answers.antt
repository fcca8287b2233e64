use Rattle.std.proofs.Common.{sym, ◌∙◌, subst}
use Rattle.rpc_ids.specs.declared.method.Role.TheVariants.{Client}
use Rattle.rpc_handlers.specs.HandlerRule.{empty_memo}
use Rattle.rpc_schedule.specs.ends.EndHolds.{IsEnd}
use Rattle.rpc_schedule.proofs.ends.CallSteps.{started}
use Rattle.rpc_client.proofs.client.Client.take_run.Goals as goal

pub invariant_of-self-2 : goal.invariant_of-self-2
invariant_of-self-2 g c = (
  subst (λ k. IsEnd Client g.H.Handler.rule empty_memo c.start.new.self k c.self.inside.refused) (sym c.replace.ensures.after)
      (started _ _ _ c.self.inside.calls c.start.new.self _ c.self.inside.kept c.in_ok-run.field-0 c.in-Some.run' (sym c.replace.ensures.value ∙ c.in-None.is) c.in-Some.is c.self.invariant.0
      c.start.ensures.setting c.start.ensures.legal c.in_ok-run.ensures.did c.in_ok-run.ensures.unasked),
  c.self.invariant.1,
)
