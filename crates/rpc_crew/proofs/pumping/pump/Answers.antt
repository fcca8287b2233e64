use Rattle.std.proofs.Common.{refl, sym, ◌∙◌, subst, arith, le_refl, ap}
use Rattle.std.proofs.lemmas.Bool.{true≢false}
use Rattle.rtrb.specs.Ring.{sent}
use Rattle.turn_cell.proofs.Calls.{same_self, same_trans}
use Rattle.rpc_shared.specs.session.Sessions.{AreSpaced, LeavesNoneDue, last_from}
use Rattle.rpc_crew.proofs.PumpLemmas.{none_due, pump_halted, pumps_on, ticked_kept, ticked_none}
use Rattle.rpc_shared.proofs.session.ReaderLemmas.{of_err, of_ok}
use Rattle.rpc_crew.proofs.RingLemmas.{ring_self, ring_trans}
use Rattle.rpc_crew.proofs.pumping.pump.Goals as goal

pub loop-init : goal.loop-init
loop-init g c = record {
  same = same_self c.args.pass.now;
  ring = ring_self c.args.ring.now;
  pumps = c.requires.pumps;
  ticks = ticked_none c.args.began (g.C.Clock.last c.args.clock.now) c.args.pass.now.view.known.mine c.requires.fresh c.requires.began;
}

pub returns-then-is_err-clause-ended : goal.returns-then-is_err-clause-ended
returns-then-is_err-clause-ended g c =
    let rule = g.H.Handler.rule in
    let r = c.args.shared.now in
    pump_halted rule r c.tick.new.pass (sent c.loop.ring) (sent c.loop.ring) c.loop.hand
    (pumps_on rule r c.loop.pass c.tick.new.pass (sent c.loop.ring) c.loop.hand c.loop.invariant.pumps c.tick.ensures.adds c.tick.ensures.flushes) refl
    (of_err c.tick.result (sym c.is_err.ensures.value ∙ c.if-is_err.true) c.tick.ensures.halted)

pub returns-then-is_err-clause-spaced : goal.returns-then-is_err-clause-spaced
returns-then-is_err-clause-spaced g c = (c.tick.ensures.ticks c.args.began c.loop.invariant.ticks).spaced

pub returns-then-is_err-clause-past : goal.returns-then-is_err-clause-past
returns-then-is_err-clause-past g c =
    let so = c.tick.ensures.ticks c.args.began c.loop.invariant.ticks in
    omega (arith, so.last_is, so.past)

pub returns-then-is_err-clause-due : goal.returns-then-is_err-clause-due
returns-then-is_err-clause-due g c = record {
  due = λ calm. absurd (true≢false (sym (of_err c.tick.result (sym c.is_err.ensures.value ∙ c.if-is_err.true) c.tick.ensures.halted) ∙ calm));
}

pub go_on-requires : goal.go_on-requires
go_on-requires g c = record {
  pumps = pumps_on g.H.Handler.rule c.args.shared.now c.loop.pass c.tick.new.pass (sent c.loop.ring) c.loop.hand c.loop.invariant.pumps c.tick.ensures.adds c.tick.ensures.flushes;
}

pub returns-in-Err-clause-spaced : goal.returns-in-Err-clause-spaced
returns-in-Err-clause-spaced g c =
    subst (AreSpaced c.args.began) (sym c.go_on.ensures.ticks) (c.tick.ensures.ticks c.args.began c.loop.invariant.ticks).spaced

pub returns-in-Err-clause-past : goal.returns-in-Err-clause-past
returns-in-Err-clause-past g c =
    let so = c.tick.ensures.ticks c.args.began c.loop.invariant.ticks in
    let same = ap (last_from c.args.began) c.go_on.ensures.ticks in
    omega (arith, same, so.last_is, so.past)

pub returns-in-Err-clause-due : goal.returns-in-Err-clause-due
returns-in-Err-clause-due g c = record {
  due = λ _.
      subst (LeavesNoneDue c.args.began (g.C.Clock.last c.tick.new.clock)) (sym c.go_on.ensures.ticks)
      (none_due c.args.began c.tick.new.pass.view.known.mine c.tick.new.ticked (g.C.Clock.last c.tick.new.clock) (c.tick.ensures.ticks c.args.began c.loop.invariant.ticks)
      (of_ok c.tick.result (sym c.is_err.ensures.value ∙ c.if-is_err.false) c.tick.ensures.due));
}

pub loop-preserved : goal.loop-preserved
loop-preserved g c =
    let so = c.tick.ensures.ticks c.args.began c.loop.invariant.ticks in
    record {
      same = same_trans c.args.pass.now c.loop.pass c.go_on.new.pass c.loop.invariant.same (same_trans c.loop.pass c.tick.new.pass c.go_on.new.pass c.tick.ensures.adds.same c.go_on.ensures.same);
      ring = ring_trans c.args.ring.now c.loop.ring c.go_on.new.ring c.loop.invariant.ring c.go_on.ensures.ring;
      pumps = c.in-Ok.ensures.pumps;
      ticks =
          ticked_kept c.args.began c.tick.new.pass.view.known.mine c.go_on.new.pass.view.known.mine c.tick.new.ticked (g.C.Clock.last c.tick.new.clock) (g.C.Clock.last c.tick.new.clock)
          so c.go_on.ensures.ticks (le_refl (g.C.Clock.last c.tick.new.clock));
    }
