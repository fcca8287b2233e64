use Rattle.std.proofs.Common.{◌≡◌, ◌⊎◌, ◌∷◌, [], ◌++◌, refl, ap, ◌∙◌, inl, inr, arith}
use Rattle.link_io.specs.Causes.{Rose}
use Rattle.link_io.specs.declared.why.Why.TheVariants.{Sink as Link, Store as Depot}
use Rattle.rtrb.specs.Ring.{received}
use Rattle.turn_cell.proofs.Calls.{same_trans}
use Rattle.rpc_shared.specs.declared.session.parcel.Parcel.TheVariants.{End}
use Rattle.rpc_shared.specs.session.Crew.{is_stop}
use Rattle.rpc_shared.specs.session.Ring.{Writes, parcels}
use Rattle.rpc_crew.specs.Batches.{FailsAtLast, closing}
use Rattle.rpc_crew.specs.WholeFrames.{WritesWholeFrames}
use Rattle.rpc_crew.proofs.RingLemmas.{end_trans}
use Rattle.rpc_crew.proofs.WholeFrames.{frames_closed, frames_failed, frames_halted}
use Rattle.rpc_crew.proofs.WriterRounds.{came_ended, writes_round}
use Rattle.rpc_shared.proofs.session.LeavingLemmas.{writer_kept}
use Rattle.rpc_shared.proofs.session.StepLemmas.{look_adds, look_halted, look_mine}
use Rattle.rpc_shared.proofs.session.WriterLemmas.{no_halt, writer_closed, writer_failed, writer_halted, writes_looked, writes_more}
use Rattle.rpc_crew.proofs.writing.write.Given.{Over}
use Rattle.rpc_crew.proofs.writing.write.Goals as goal

pub loop-preserved-in-Ok-More : goal.loop-preserved-in-Ok-More
loop-preserved-in-Ok-More g c =
    let written = g.O.Sink.written in
    let holds = g.S.Store.holds in
    record {
      writes =
          writes_round g.H.Handler.rule c.args.shared.now (written c.args.output.now) (written c.loop.output) (written c.round.new.output) (holds c.args.store.now) (holds c.loop.store) (holds c.round.new.store)
          c.args.log.now c.loop.log c.round.new.log (received c.loop.ring) (received c.round.new.ring) c.loop.done c.round.new.done c.loop.pass c.in-Ok-More.field-0 c.loop.invariant.writes c.in-Ok-More.ensures.makes (ap closing c.in-Ok-More.field-0-is);
      same = c.loop.invariant.same;
      ring = end_trans c.args.ring.now c.loop.ring c.round.new.ring c.loop.invariant.ring c.round.ensures.ring;
      sink_later = omega (arith, c.loop.invariant.sink_later, c.in-Ok-More.ensures.later.0);
      store_later = omega (arith, c.loop.invariant.store_later, c.in-Ok-More.ensures.later.1);
      more = c.in-Ok-More.ensures.open;
      empty = c.in-Ok-More.ensures.empty;
    }

pub returns-then-not-waits-clause-ended : goal.returns-then-not-waits-clause-ended
returns-then-not-waits-clause-ended g c =
    let rule = g.H.Handler.rule in
    let r = c.args.shared.now in
    let written = g.O.Sink.written in
    let holds = g.S.Store.holds in
    let did = c.look.ensures.did in
    let more =
    writes_round rule r (written c.args.output.now) (written c.loop.output) (written c.round.new.output) (holds c.args.store.now) (holds c.loop.store) (holds c.round.new.store)
    c.args.log.now c.loop.log c.round.new.log (received c.loop.ring) (received c.round.new.ring) c.loop.done c.round.new.done c.loop.pass c.in-Ok-Rest.field-0 c.loop.invariant.writes c.in-Ok-Rest.ensures.makes (ap closing c.in-Ok-Rest.field-0-is) in
    let looked =
    writes_looked rule r (written c.args.output.now) (written c.round.new.output) (holds c.args.store.now) (holds c.round.new.store) c.args.log.now c.round.new.log
    (received c.round.new.ring) (received c.round.new.ring) c.round.new.done c.loop.pass c.look.new.pass more (look_adds rule r c.loop.pass c.look.new.pass c.look.result did is_stop)
    (look_mine rule r c.loop.pass c.look.new.pass c.look.result did) refl in
    writer_kept rule r (written c.args.output.now) (written c.round.new.output) (written c.hang_up.new.link) (holds c.args.store.now) (holds c.round.new.store) c.args.log.now c.round.new.log
    (received c.round.new.ring) c.round.new.done c.look.new.pass c.hang_up.ensures.bytes
    (writer_halted rule r (written c.args.output.now) (written c.round.new.output) (holds c.args.store.now) (holds c.round.new.store) c.args.log.now c.round.new.log
    (received c.round.new.ring) (received c.round.new.ring) c.round.new.done c.look.new.pass c.look.new.pass looked refl
    (look_halted rule r c.loop.pass c.look.new.pass c.look.result did (c.waits.ensures c.if-not-waits.true)))

pub returns-then-not-waits-clause-sink : goal.returns-then-not-waits-clause-sink
returns-then-not-waits-clause-sink g c = λ halts.
    no_halt Link c.look.new.pass.view.known.mine
    (look_mine g.H.Handler.rule c.args.shared.now c.loop.pass c.look.new.pass c.look.result c.look.ensures.did ∙ c.loop.invariant.writes.none) halts

pub returns-then-not-waits-clause-store : goal.returns-then-not-waits-clause-store
returns-then-not-waits-clause-store g c = λ halts.
    no_halt Depot c.look.new.pass.view.known.mine
    (look_mine g.H.Handler.rule c.args.shared.now c.loop.pass c.look.new.pass c.look.result c.look.ensures.did ∙ c.loop.invariant.writes.none) halts

pub loop-preserved : goal.loop-preserved
loop-preserved g c =
    let rule = g.H.Handler.rule in
    let r = c.args.shared.now in
    let written = g.O.Sink.written in
    let holds = g.S.Store.holds in
    let did = c.look.ensures.did in
    let more =
    writes_round rule r (written c.args.output.now) (written c.loop.output) (written c.round.new.output) (holds c.args.store.now) (holds c.loop.store) (holds c.round.new.store)
    c.args.log.now c.loop.log c.round.new.log (received c.loop.ring) (received c.round.new.ring) c.loop.done c.round.new.done c.loop.pass c.in-Ok-Rest.field-0 c.loop.invariant.writes c.in-Ok-Rest.ensures.makes (ap closing c.in-Ok-Rest.field-0-is) in
    record {
      writes =
          writes_looked rule r (written c.args.output.now) (written c.round.new.output) (holds c.args.store.now) (holds c.round.new.store) c.args.log.now c.round.new.log
          (received c.round.new.ring) (received c.round.new.ring) c.round.new.done c.loop.pass c.look.new.pass more (look_adds rule r c.loop.pass c.look.new.pass c.look.result did is_stop)
          (look_mine rule r c.loop.pass c.look.new.pass c.look.result did) refl;
      same = same_trans c.args.pass.now c.loop.pass c.look.new.pass c.loop.invariant.same did.same;
      ring = end_trans c.args.ring.now c.loop.ring c.round.new.ring c.loop.invariant.ring c.round.ensures.ring;
      sink_later = omega (arith, c.loop.invariant.sink_later, c.in-Ok-Rest.ensures.later.0);
      store_later = omega (arith, c.loop.invariant.store_later, c.in-Ok-Rest.ensures.later.1);
      more = c.in-Ok-Rest.ensures.open;
      empty = c.in-Ok-Rest.ensures.empty;
    }

-- all but the end
last : (g : Over) (c : goal.After-drop-batch-in-Ok-Ended g) → Writes g.H.Handler.rule c.args.shared.now (g.O.Sink.written c.args.output.now) (g.O.Sink.written c.round.new.output) (g.S.Store.holds c.args.store.now) (g.S.Store.holds c.round.new.store)
    c.args.log.now c.round.new.log (received c.loop.ring ++ parcels c.in-Ok-Ended.ensures.makes.items) c.round.new.done c.loop.pass
last g c =
    let written = g.O.Sink.written in
    let holds = g.S.Store.holds in
    let m = c.in-Ok-Ended.ensures.makes in
    writes_more g.H.Handler.rule c.args.shared.now (written c.args.output.now) (written c.loop.output) (written c.round.new.output) (holds c.args.store.now) (holds c.loop.store) (holds c.round.new.store)
    c.args.log.now c.loop.log c.round.new.log (received c.loop.ring) (received c.loop.ring ++ parcels m.items) c.loop.done c.round.new.done c.loop.pass c.loop.pass m.items c.loop.invariant.writes refl m.made m.counted

ended : (g : Over) (c : goal.After-drop-batch-in-Ok-Ended g) → received c.round.new.ring ≡ (received c.loop.ring ++ parcels c.in-Ok-Ended.ensures.makes.items) ++ End ∷ []
ended g c =
    let written = g.O.Sink.written in
    let holds = g.S.Store.holds in
    came_ended (received c.loop.ring) (received c.round.new.ring) (written c.loop.output) (written c.round.new.output) (holds c.loop.store) (holds c.round.new.store) c.loop.log c.round.new.log c.loop.done c.round.new.done
    c.in-Ok-Ended.field-0 c.in-Ok-Ended.ensures.makes (ap closing c.in-Ok-Ended.field-0-is)

pub returns-in-Ok-Ended-clause-ended : goal.returns-in-Ok-Ended-clause-ended
returns-in-Ok-Ended-clause-ended g c =
    let written = g.O.Sink.written in
    let holds = g.S.Store.holds in
    writer_closed g.H.Handler.rule c.args.shared.now (written c.args.output.now) (written c.round.new.output) (holds c.args.store.now) (holds c.round.new.store) c.args.log.now c.round.new.log
    (received c.loop.ring ++ parcels c.in-Ok-Ended.ensures.makes.items) (received c.round.new.ring) c.round.new.done c.loop.pass c.loop.pass (last g c) (ended g c)

pub returns-in-Ok-Ended-clause-leaves : goal.returns-in-Ok-Ended-clause-leaves
returns-in-Ok-Ended-clause-leaves g c =
    let all = last g c in
    inl ((all.items, ended g c ∙ ap (λ ps. ps ++ End ∷ []) all.received), c.in-Ok-Ended.ensures.open)

pub returns-in-Err-clause-ended : goal.returns-in-Err-clause-ended
returns-in-Err-clause-ended g c =
    let rule = g.H.Handler.rule in
    let r = c.args.shared.now in
    let written = g.O.Sink.written in
    let holds = g.S.Store.holds in
    let fails = c.in-Err.ensures.fails in
    writer_kept rule r (written c.args.output.now) (written c.round.new.output) (written c.hang_up-in-Err.new.link) (holds c.args.store.now) (holds c.round.new.store) c.args.log.now c.round.new.log
    (received c.round.new.ring) c.round.new.done c.halt.new.pass c.hang_up-in-Err.ensures.bytes
    (writer_failed rule r (written c.args.output.now) (written c.loop.output) (written c.round.new.output) (holds c.args.store.now) (holds c.loop.store) (holds c.round.new.store)
    c.args.log.now c.loop.log c.round.new.log (received c.loop.ring) (received c.round.new.ring) c.loop.done c.round.new.done c.loop.pass c.halt.new.pass fails.came c.loop.invariant.writes fails.received fails.makes
    (c.halt.ensures.adds is_stop c.in-Err.ensures.why.0) c.halt.ensures.halted)

pub returns-in-Err-clause-same : goal.returns-in-Err-clause-same
returns-in-Err-clause-same g c =
    same_trans c.args.pass.now c.loop.pass c.halt.new.pass c.loop.invariant.same (c.halt.ensures.adds is_stop c.in-Err.ensures.why.0).same

pub returns-then-not-waits-clause-whole : goal.returns-then-not-waits-clause-whole
returns-then-not-waits-clause-whole g c =
    let rule = g.H.Handler.rule in
    let r = c.args.shared.now in
    let written = g.O.Sink.written in
    let holds = g.S.Store.holds in
    let more =
    writes_round rule r (written c.args.output.now) (written c.loop.output) (written c.round.new.output) (holds c.args.store.now) (holds c.loop.store) (holds c.round.new.store)
    c.args.log.now c.loop.log c.round.new.log (received c.loop.ring) (received c.round.new.ring) c.loop.done c.round.new.done c.loop.pass c.in-Ok-Rest.field-0 c.loop.invariant.writes c.in-Ok-Rest.ensures.makes (ap closing c.in-Ok-Rest.field-0-is) in
    inl (frames_halted rule r (written c.args.output.now) (written c.round.new.output) (written c.hang_up.new.link) (holds c.args.store.now) (holds c.round.new.store) c.args.log.now c.round.new.log
    (received c.round.new.ring) (received c.round.new.ring) c.round.new.done c.round.new.done c.loop.pass more c.hang_up.ensures.bytes)

pub returns-in-Ok-Ended-clause-whole : goal.returns-in-Ok-Ended-clause-whole
returns-in-Ok-Ended-clause-whole g c =
    let written = g.O.Sink.written in
    let holds = g.S.Store.holds in
    inl (frames_closed g.H.Handler.rule c.args.shared.now (written c.args.output.now) (written c.round.new.output) (written c.round.new.output) (holds c.args.store.now) (holds c.round.new.store) c.args.log.now c.round.new.log
    (received c.loop.ring ++ parcels c.in-Ok-Ended.ensures.makes.items) (received c.round.new.ring) c.round.new.done c.round.new.done c.loop.pass (last g c) (ended g c))

pub returns-in-Err-clause-whole : goal.returns-in-Err-clause-whole
returns-in-Err-clause-whole g c = at c.in-Err.ensures.last
  where
    at : (c.in-Err.why ≡ Link) ⊎ FailsAtLast (received c.loop.ring) (received c.round.new.ring) (g.O.Sink.written c.loop.output) (g.O.Sink.written c.round.new.output) c.loop.done c.round.new.done
        → WritesWholeFrames (g.O.Sink.written c.args.output.now) (g.O.Sink.written c.hang_up-in-Err.new.link) (received c.round.new.ring) c.round.new.done
        ⊎ Rose (g.O.Sink.faults c.args.output.now) (g.O.Sink.faults c.hang_up-in-Err.new.link)
    at (inl link) = inr (omega (arith, c.in-Err.ensures.sink link, c.loop.invariant.sink_later, c.hang_up-in-Err.ensures.later))
    at (inr last) =
        inl (frames_failed g.H.Handler.rule c.args.shared.now (g.O.Sink.written c.args.output.now) (g.O.Sink.written c.loop.output) (g.O.Sink.written c.hang_up-in-Err.new.link) (g.S.Store.holds c.args.store.now) (g.S.Store.holds c.loop.store)
        c.args.log.now c.loop.log (received c.loop.ring) (received c.round.new.ring) c.loop.done c.round.new.done c.loop.pass c.loop.invariant.writes
        (g.O.Sink.written c.round.new.output) last c.hang_up-in-Err.ensures.bytes)
