use Rattle.std.proofs.Common.{true, refl, ◌∙◌, arith, le_refl}
use Rattle.turn_cell.proofs.Calls.{same_self, same_trans}
use Rattle.live_client.specs.Driving.{is_running}
use Rattle.live_client.specs.asks.Telling.{said_all}
use Rattle.live_client.proofs.StepsOf.{can_on}
use Rattle.live_client.proofs.TalkLemmas.{run_uncancelled, talks_calm}
use Rattle.live_client.proofs.WorkLemmas.{run_closes, runs_wants, works_winds}
use Rattle.live_client.proofs.driver.wind_up.Goals as goal

pub loop-init : goal.loop-init
loop-init g c = record {
  can = c.requires.can;
  same = same_self c.args.pass.now;
  ready = c.requires.ready;
  origin = refl;
  short = refl;
  done = c.requires.closed;
  sink_later = le_refl (g.O.Sink.faults c.args.output.now);
  store_later = le_refl (g.S.Store.faults c.args.store.now);
  works = λ opening start upto w0 d0 f0 g0 so. so;
  uncut = λ opening start upto w0 d0 f0 g0 so before. before;
}

pub loop-preserved : goal.loop-preserved
loop-preserved g c = record {
  can = can_on c.args.table.now c.args.call is_running c.wind.new.pass c.is_done.new.pass c.wind.ensures.can c.is_done.ensures.calm.adds;
  same = same_trans c.args.pass.now c.wind.new.pass c.is_done.new.pass (same_trans c.args.pass.now c.loop.pass c.wind.new.pass c.loop.invariant.same c.wind.ensures.same) c.is_done.ensures.calm.adds.same;
  ready = c.wind.ensures.ready;
  origin = c.wind.ensures.origin ∙ c.loop.invariant.origin;
  short = c.wind.ensures.short ∙ c.loop.invariant.short;
  done = c.wind.ensures.closed;
  sink_later = omega (arith, c.loop.invariant.sink_later, c.wind.ensures.faults.0);
  store_later = omega (arith, c.loop.invariant.store_later, c.wind.ensures.faults.1);
  works = λ opening start upto w0 d0 f0 g0 so.
      works_winds g.W.Errand.watches opening c.args.table.now c.args.call w0 d0 f0 g0 (g.W.Errand.did c.wind.new.errand said_all start upto) (g.W.Errand.did c.wind.new.errand said_all start upto) true true is_running (g.O.Sink.written c.wind.new.output) (g.S.Store.holds c.wind.new.store)
      (g.O.Sink.faults c.wind.new.output) (g.S.Store.faults c.wind.new.store) c.wind.new.pass c.is_done.new.pass runs_wants run_closes c.is_done.ensures.calm.adds
      (λ items t. talks_calm g.W.Errand.watches opening c.args.table.now c.args.call (g.W.Errand.did c.wind.new.errand said_all start upto) (g.W.Errand.did c.wind.new.errand said_all start upto) items true true is_running c.wind.new.pass c.is_done.new.pass run_uncancelled c.is_done.ensures.calm (λ cut events outs ended x. x) t)
      (c.in-Ok-false.ensures.works opening start upto w0 d0 f0 g0 (c.loop.invariant.works opening start upto w0 d0 f0 g0 so));
  uncut = λ opening start upto w0 d0 f0 g0 so before. c.wind.ensures.uncut opening start upto w0 d0 f0 g0 (c.loop.invariant.works opening start upto w0 d0 f0 g0 so) (c.loop.invariant.uncut opening start upto w0 d0 f0 g0 so before);
}

pub loop-preserved-in-Ok-true : goal.loop-preserved-in-Ok-true
loop-preserved-in-Ok-true g c = record {
  can = c.wind.ensures.can;
  same = same_trans c.args.pass.now c.loop.pass c.wind.new.pass c.loop.invariant.same c.wind.ensures.same;
  ready = c.wind.ensures.ready;
  origin = c.wind.ensures.origin ∙ c.loop.invariant.origin;
  short = c.wind.ensures.short ∙ c.loop.invariant.short;
  done = c.wind.ensures.closed;
  sink_later = omega (arith, c.loop.invariant.sink_later, c.wind.ensures.faults.0);
  store_later = omega (arith, c.loop.invariant.store_later, c.wind.ensures.faults.1);
  works = λ opening start upto w0 d0 f0 g0 so. c.in-Ok-true.ensures.works opening start upto w0 d0 f0 g0 (c.loop.invariant.works opening start upto w0 d0 f0 g0 so);
  uncut = λ opening start upto w0 d0 f0 g0 so before. c.wind.ensures.uncut opening start upto w0 d0 f0 g0 (c.loop.invariant.works opening start upto w0 d0 f0 g0 so) (c.loop.invariant.uncut opening start upto w0 d0 f0 g0 so before);
}

pub returns-then-is_done-clause-can : goal.returns-then-is_done-clause-can
returns-then-is_done-clause-can g c = can_on c.args.table.now c.args.call is_running c.wind.new.pass c.is_done.new.pass c.wind.ensures.can c.is_done.ensures.calm.adds

pub returns-then-is_done-clause-same : goal.returns-then-is_done-clause-same
returns-then-is_done-clause-same g c = same_trans c.args.pass.now c.wind.new.pass c.is_done.new.pass (same_trans c.args.pass.now c.loop.pass c.wind.new.pass c.loop.invariant.same c.wind.ensures.same) c.is_done.ensures.calm.adds.same

pub returns-then-is_done-clause-works : goal.returns-then-is_done-clause-works
returns-then-is_done-clause-works g c = λ opening start upto w0 d0 f0 g0 so.
    works_winds g.W.Errand.watches opening c.args.table.now c.args.call w0 d0 f0 g0 (g.W.Errand.did c.wind.new.errand said_all start upto) (g.W.Errand.did c.wind.new.errand said_all start upto) true true is_running (g.O.Sink.written c.wind.new.output) (g.S.Store.holds c.wind.new.store)
    (g.O.Sink.faults c.wind.new.output) (g.S.Store.faults c.wind.new.store) c.wind.new.pass c.is_done.new.pass runs_wants run_closes c.is_done.ensures.calm.adds
    (λ items t. talks_calm g.W.Errand.watches opening c.args.table.now c.args.call (g.W.Errand.did c.wind.new.errand said_all start upto) (g.W.Errand.did c.wind.new.errand said_all start upto) items true true is_running c.wind.new.pass c.is_done.new.pass run_uncancelled c.is_done.ensures.calm (λ cut events outs ended x. x) t)
    (c.in-Ok-false.ensures.works opening start upto w0 d0 f0 g0 (c.loop.invariant.works opening start upto w0 d0 f0 g0 so))

pub returns-then-is_done-clause-uncut : goal.returns-then-is_done-clause-uncut
returns-then-is_done-clause-uncut g c = λ opening start upto w0 d0 f0 g0 so before. c.wind.ensures.uncut opening start upto w0 d0 f0 g0 (c.loop.invariant.works opening start upto w0 d0 f0 g0 so) (c.loop.invariant.uncut opening start upto w0 d0 f0 g0 so before)

pub returns-in-Err-clause-same : goal.returns-in-Err-clause-same
returns-in-Err-clause-same g c = same_trans c.args.pass.now c.loop.pass c.wind.new.pass c.loop.invariant.same c.wind.ensures.same

pub returns-in-Err-clause-worked : goal.returns-in-Err-clause-worked
returns-in-Err-clause-worked g c = λ opening start upto w0 d0 f0 g0 so. c.in-Err.ensures.worked opening start upto w0 d0 f0 g0 (c.loop.invariant.works opening start upto w0 d0 f0 g0 so)

pub returns-in-Err-clause-uncut : goal.returns-in-Err-clause-uncut
returns-in-Err-clause-uncut g c = λ opening start upto w0 d0 f0 g0 so before. c.wind.ensures.uncut opening start upto w0 d0 f0 g0 (c.loop.invariant.works opening start upto w0 d0 f0 g0 so) (c.loop.invariant.uncut opening start upto w0 d0 f0 g0 so before)
