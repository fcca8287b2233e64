use Rattle.std.proofs.Common.{[], ◌∷◌, subst, inl}
use Rattle.link_io.specs.declared.why.Why.TheVariants.{Sink as Link, Store as Depot}
use Rattle.rpc_shared.specs.session.Ring.{HaltsFor}
use Rattle.rpc_shared.proofs.session.PassLemmas.{adds_trans}
use Rattle.live_client.specs.Driving.{is_flushing}
use Rattle.live_client.specs.Silent.{silent_rule}
use Rattle.live_client.proofs.StepsOf.{can_on, halt_calm, halts_past}
use Rattle.live_client.proofs.WriteLemmas.{flush_failed, flushes_none, sink_rose}
use Rattle.live_client.proofs.writing.flush_one.Goals as goal

pub returns-in-None-clause-adds : goal.returns-in-None-clause-adds
returns-in-None-clause-adds g c = c.in-None.ensures.none.calm.adds

pub returns-in-None-clause-made : goal.returns-in-None-clause-made
returns-in-None-clause-made g c =
    flushes_none c.args.table.now c.args.call c.args.pass.now c.take_item.new.pass c.args.finished (g.O.Sink.written c.args.output.now) (g.S.Store.holds c.args.store.now) c.in-None.ensures.none

pub returns-in-Ok-clause-made : goal.returns-in-Ok-clause-made
returns-in-Ok-clause-made g c = (c.in-Some.item ∷ [], record { written = c.in-Ok.ensures.written; stored = c.in-Ok.ensures.stored }, c.in-Some.ensures.item.more)

pub returns-in-Ok-clause-sink : goal.returns-in-Ok-clause-sink
returns-in-Ok-clause-sink g c = λ halts. inl (halts_past Link c.args.pass.now.view.known.mine c.take_item.new.pass.view.known.mine c.in-Some.ensures.item.mine halts)

pub returns-in-Ok-clause-store : goal.returns-in-Ok-clause-store
returns-in-Ok-clause-store g c = λ halts. inl (halts_past Depot c.args.pass.now.view.known.mine c.take_item.new.pass.view.known.mine c.in-Some.ensures.item.mine halts)

pub returns-in-None-clause-sink : goal.returns-in-None-clause-sink
returns-in-None-clause-sink g c = λ halts. inl (subst (HaltsFor Link) c.in-None.ensures.none.mine halts)

pub returns-in-None-clause-store : goal.returns-in-None-clause-store
returns-in-None-clause-store g c = λ halts. inl (subst (HaltsFor Depot) c.in-None.ensures.none.mine halts)

pub returns-clause-adds : goal.returns-clause-adds
returns-clause-adds g c =
    adds_trans silent_rule c.args.table.now is_flushing c.args.pass.now c.take_item.new.pass c.halt.new.pass c.in-Some.ensures.item.adds (c.halt.ensures.adds is_flushing c.in-Err.ensures.why.0)

pub returns-clause-failed : goal.returns-clause-failed
returns-clause-failed g c =
    let r = c.args.table.now in
    flush_failed r c.args.call c.in-Some.item c.args.pass.now c.take_item.new.pass c.halt.new.pass (g.O.Sink.written c.args.output.now) (g.O.Sink.written c.make.new.output)
    (g.S.Store.holds c.args.store.now) (g.S.Store.holds c.make.new.store) c.in-Some.ensures.item
    (halt_calm r c.args.call c.take_item.new.pass c.halt.new.pass (can_on r c.args.call is_flushing c.args.pass.now c.take_item.new.pass c.requires.can c.in-Some.ensures.item.adds) c.in-Err.why is_flushing c.halt.ensures.did
    c.in-Err.ensures.why.0 c.in-Err.ensures.why.0 (λ is. absurd (c.in-Err.ensures.why.1 is)) (c.halt.ensures.adds is_flushing c.in-Err.ensures.why.0))
    c.in-Err.ensures.begun c.in-Err.ensures.kept

pub returns-clause-sink : goal.returns-clause-sink
returns-clause-sink g c =
    sink_rose c.in-Err.why Link _ (g.O.Sink.faults c.args.output.now) (g.O.Sink.faults c.make.new.output) c.args.pass.now.view.known.mine c.take_item.new.pass.view.known.mine c.halt.new.pass.view.known.mine
    (halts_past Link c.args.pass.now.view.known.mine c.take_item.new.pass.view.known.mine c.in-Some.ensures.item.mine) c.halt.ensures.mine c.in-Err.ensures.sink

pub returns-clause-store : goal.returns-clause-store
returns-clause-store g c =
    sink_rose c.in-Err.why Depot _ (g.S.Store.faults c.args.store.now) (g.S.Store.faults c.make.new.store) c.args.pass.now.view.known.mine c.take_item.new.pass.view.known.mine c.halt.new.pass.view.known.mine
    (halts_past Depot c.args.pass.now.view.known.mine c.take_item.new.pass.view.known.mine c.in-Some.ensures.item.mine) c.halt.ensures.mine c.in-Err.ensures.store
