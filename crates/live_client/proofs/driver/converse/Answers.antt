use Rattle.std.proofs.Common.{◌≤◌, Ok, false, refl, ap, sym, ◌∙◌, arith, le_refl}
use Rattle.turn_cell.proofs.Calls.{same_self, same_trans}
use Rattle.live_client.specs.asks.Telling.{said_all, unknown}
use Rattle.live_client.proofs.WorkLemmas.{works_over}
use Rattle.live_client.proofs.driver.converse.Goals as goal

pub loop-init : goal.loop-init
loop-init g c = record {
  can = c.requires.can;
  same = same_self c.args.pass.now;
  ready = c.requires.ready;
  origin = refl;
  fits = c.requires.fits;
  past = c.requires.past;
  uncut = c.requires.uncut;
  whole = c.requires.whole;
  more = c.requires.open;
  later = le_refl (g.C.Clock.last c.args.clock.now);
  sink_later = le_refl (g.O.Sink.faults c.args.output.now);
  store_later = le_refl (g.S.Store.faults c.args.store.now);
  works = λ opening all start w0 d0 f0 g0 early so. (all, so);
}

pub loop-preserved : goal.loop-preserved
loop-preserved g c = record {
  can = c.round.ensures.can;
  same = same_trans c.args.pass.now c.loop.pass c.round.new.pass c.loop.invariant.same c.round.ensures.same;
  ready = c.round.ensures.ready;
  origin = c.round.ensures.origin ∙ c.loop.invariant.origin;
  fits = c.round.ensures.fits;
  past = c.round.ensures.past;
  uncut = c.round.ensures.uncut;
  whole = c.in-Ok-false.ensures.whole;
  more = c.round.ensures.open;
  later = omega (arith, c.loop.invariant.later, c.round.ensures.later);
  sink_later = omega (arith, c.loop.invariant.sink_later, c.round.ensures.faults.0);
  store_later = omega (arith, c.loop.invariant.store_later, c.round.ensures.faults.1);
  works = λ opening all start w0 d0 f0 g0 early so.
      let mid = c.loop.invariant.works opening all start w0 d0 f0 g0 early so in
      let from : start ≤ g.C.Clock.last c.loop.clock = omega (arith, early, c.loop.invariant.later) in
      (unknown, c.in-Ok-false.ensures.works opening mid.0 start w0 d0 f0 g0 from mid.1);
}

pub loop-preserved-in-Ok-true : goal.loop-preserved-in-Ok-true
loop-preserved-in-Ok-true g c = record {
  can = c.round.ensures.can;
  same = same_trans c.args.pass.now c.loop.pass c.round.new.pass c.loop.invariant.same c.round.ensures.same;
  ready = c.round.ensures.ready;
  origin = c.round.ensures.origin ∙ c.loop.invariant.origin;
  fits = c.round.ensures.fits;
  past = c.round.ensures.past;
  uncut = c.round.ensures.uncut;
  whole = c.in-Ok-true.ensures.whole;
  more = c.round.ensures.open;
  later = omega (arith, c.loop.invariant.later, c.round.ensures.later);
  sink_later = omega (arith, c.loop.invariant.sink_later, c.round.ensures.faults.0);
  store_later = omega (arith, c.loop.invariant.store_later, c.round.ensures.faults.1);
  works = λ opening all start w0 d0 f0 g0 early so.
      let mid = c.loop.invariant.works opening all start w0 d0 f0 g0 early so in
      let from : start ≤ g.C.Clock.last c.loop.clock = omega (arith, early, c.loop.invariant.later) in
      (unknown, c.in-Ok-true.ensures.works opening mid.0 start w0 d0 f0 g0 from mid.1);
}

pub returns-then-is_some-clause-works : goal.returns-then-is_some-clause-works
returns-then-is_some-clause-works g c = λ opening all start w0 d0 f0 g0 early so.
    let mid = c.loop.invariant.works opening all start w0 d0 f0 g0 early so in
    let from : start ≤ g.C.Clock.last c.loop.clock = omega (arith, early, c.loop.invariant.later) in
    let last = g.C.Clock.last c.round.new.clock in
    works_over g.W.Errand.watches opening (g.W.Errand.did c.round.new.errand said_all start last) c.args.table.now c.args.call false w0 (g.O.Sink.written c.round.new.output) d0 (g.S.Store.holds c.round.new.store)
    f0 (g.O.Sink.faults c.round.new.output) g0 (g.S.Store.faults c.round.new.store) c.round.new.pass c.end.result (sym c.is_some.ensures ∙ c.if-is_some.true)
    (λ cut events outs ended x. c.end.ensures.told said_all start last cut events outs ended x)
    (c.round.ensures.none (c.in-Ok-false.is ∙ ap Ok c.in-Ok-false.field-0-test) opening mid.0 start w0 d0 f0 g0 from mid.1)

pub returns-in-Err-clause-worked : goal.returns-in-Err-clause-worked
returns-in-Err-clause-worked g c = λ opening all start w0 d0 f0 g0 early so.
    let mid = c.loop.invariant.works opening all start w0 d0 f0 g0 early so in
    let from : start ≤ g.C.Clock.last c.loop.clock = omega (arith, early, c.loop.invariant.later) in
    c.in-Err.ensures.worked opening mid.0 start w0 d0 f0 g0 from mid.1
