use Rattle.std.proofs.Common.{◌≡◌, ◌⊎◌, refl, inl, inr}
use Rattle.link_io.specs.declared.why.Why.TheVariants.{Sink as Link, Store as Depot}
use Rattle.rpc_shared.specs.session.Ring.{HaltsFor}
use Rattle.rpc_shared.proofs.session.PassLemmas.{adds_self}
use Rattle.live_client.specs.Driving.{is_flushing}
use Rattle.live_client.specs.Silent.{silent_rule}
use Rattle.live_client.proofs.StepsOf.{calm_self, halt_calm, halts_halt}
use Rattle.live_client.proofs.WriteLemmas.{sink_rose}
use Rattle.live_client.proofs.driver.end_output.Goals as goal

pub returns-in-Ok-clause-calm : goal.returns-in-Ok-clause-calm
returns-in-Ok-clause-calm g c = calm_self c.args.table.now c.args.call is_flushing c.args.pass.now (adds_self silent_rule c.args.table.now is_flushing c.args.pass.now c.requires.can.stands)

pub returns-in-Ok-clause-sink : goal.returns-in-Ok-clause-sink
returns-in-Ok-clause-sink g c = λ halts. inl halts

pub returns-in-Err-clause-calm : goal.returns-in-Err-clause-calm
returns-in-Err-clause-calm g c =
    halt_calm c.args.table.now c.args.call c.args.pass.now c.halt.new.pass c.requires.can Link is_flushing c.halt.ensures.did refl refl (λ is. absurd (cc is)) (c.halt.ensures.adds is_flushing refl)

pub returns-in-Err-clause-sink : goal.returns-in-Err-clause-sink
returns-in-Err-clause-sink g c =
    sink_rose Link Link _ (g.O.Sink.faults c.args.output.now) (g.O.Sink.faults c.finish.new.self) c.args.pass.now.view.known.mine c.args.pass.now.view.known.mine c.halt.new.pass.view.known.mine
    (λ halts. halts) c.halt.ensures.mine (λ _. c.in-Err.ensures.cause.failed)

pub returns-in-Err-clause-store : goal.returns-in-Err-clause-store
returns-in-Err-clause-store g c = λ halts. at (halts_halt Link Depot _ c.args.pass.now.view.known.mine c.halt.new.pass.view.known.mine c.halt.ensures.mine halts)
  where
    at : HaltsFor Depot c.args.pass.now.view.known.mine ⊎ (Link ≡ Depot) → HaltsFor Depot c.args.pass.now.view.known.mine
    at (inl halts) = halts
    at (inr is) = absurd (cc is)

pub returns-in-Err-clause-failed : goal.returns-in-Err-clause-failed
returns-in-Err-clause-failed g c = c.in-Err.ensures.cause.failed
