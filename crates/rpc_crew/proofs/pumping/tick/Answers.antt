use Rattle.std.proofs.Common.{Err, refl, ap, ◌∙◌, arith}
use Rattle.rpc_shared.specs.session.Crew.{is_pumps}
use Rattle.rpc_shared.proofs.session.PassLemmas.{adds_trans}
use Rattle.rpc_crew.proofs.PumpLemmas.{halt_flushes, halt_moments, tick_flushes, ticked_kept, ticked_more}
use Rattle.rpc_shared.proofs.session.StepLemmas.{no_tick_mine, tick_adds, tick_full, tick_mine}
use Rattle.rpc_journal.specs.Items.{flushes, moments}
use Rattle.rpc_crew.proofs.pumping.tick.Goals as goal

pub halt-requires-clause-full : goal.halt-requires-clause-full
halt-requires-clause-full g c = λ _.
    tick_full g.H.Handler.rule c.args.shared.now c.args.pass.now c.tick.new.pass c.now-now.result c.tick.result c.tick.ensures.did
    (c.in-Err-JournalFull.is ∙ ap Err c.in-Err-JournalFull.field-0-is)

pub returns-in-Ok-clause-adds : goal.returns-in-Ok-clause-adds
returns-in-Ok-clause-adds g c = tick_adds g.H.Handler.rule c.args.shared.now c.args.pass.now c.tick.new.pass c.now-now.result c.tick.result c.tick.ensures.did

pub returns-in-Ok-clause-flushes : goal.returns-in-Ok-clause-flushes
returns-in-Ok-clause-flushes g c =
    tick_flushes c.args.pass.now.view.known.mine c.tick.new.pass.view.known.mine c.args.pass.now.view.known.number c.now-now.result
    (tick_mine g.H.Handler.rule c.args.shared.now c.args.pass.now c.tick.new.pass c.now-now.result c.tick.result c.tick.ensures.did c.in-Ok.is)

pub returns-in-Ok-clause-ticks : goal.returns-in-Ok-clause-ticks
returns-in-Ok-clause-ticks g c = λ start so.
    ticked_more start c.args.pass.now.view.known.mine c.tick.new.pass.view.known.mine c.args.pass.now.view.known.number c.args.ticked.now (g.C.Clock.last c.args.clock.now)
    c.now-now.result (g.C.Clock.last c.now-now.new.self) so
    (tick_mine g.H.Handler.rule c.args.shared.now c.args.pass.now c.tick.new.pass c.now-now.result c.tick.result c.tick.ensures.did c.in-Ok.is)
    (omega (arith, c.if-now-ticked-lt-TICK.false)) c.now-now.ensures.last

pub returns-in-Err-JournalFull-clause-adds : goal.returns-in-Err-JournalFull-clause-adds
returns-in-Err-JournalFull-clause-adds g c =
    let rule = g.H.Handler.rule in
    let r = c.args.shared.now in
    adds_trans rule r is_pumps c.args.pass.now c.tick.new.pass c.halt.new.pass
    (tick_adds rule r c.args.pass.now c.tick.new.pass c.now-now.result c.tick.result c.tick.ensures.did) (c.halt.ensures.adds is_pumps refl)

pub returns-in-Err-JournalFull-clause-flushes : goal.returns-in-Err-JournalFull-clause-flushes
returns-in-Err-JournalFull-clause-flushes g c =
    halt_flushes c.tick.new.pass.view.known.mine c.halt.new.pass.view.known.mine _ _ c.halt.ensures.mine
    ∙ ap flushes (no_tick_mine g.H.Handler.rule c.args.shared.now c.args.pass.now c.tick.new.pass c.now-now.result c.tick.result _ c.tick.ensures.did c.in-Err-JournalFull.is)

pub returns-in-Err-JournalFull-clause-ticks : goal.returns-in-Err-JournalFull-clause-ticks
returns-in-Err-JournalFull-clause-ticks g c = λ start so.
    ticked_kept start c.args.pass.now.view.known.mine c.halt.new.pass.view.known.mine c.args.ticked.now (g.C.Clock.last c.args.clock.now) (g.C.Clock.last c.now-now.new.self) so
    (halt_moments c.tick.new.pass.view.known.mine c.halt.new.pass.view.known.mine _ _ c.halt.ensures.mine
    ∙ ap moments (no_tick_mine g.H.Handler.rule c.args.shared.now c.args.pass.now c.tick.new.pass c.now-now.result c.tick.result _ c.tick.ensures.did c.in-Err-JournalFull.is))
    (omega (arith, c.now-now.ensures.later, c.now-now.ensures.last))

pub returns-in-Err-Memory-clause-adds : goal.returns-in-Err-Memory-clause-adds
returns-in-Err-Memory-clause-adds g c =
    let rule = g.H.Handler.rule in
    let r = c.args.shared.now in
    adds_trans rule r is_pumps c.args.pass.now c.tick.new.pass c.halt-in-Err-Memory.new.pass
    (tick_adds rule r c.args.pass.now c.tick.new.pass c.now-now.result c.tick.result c.tick.ensures.did) (c.halt-in-Err-Memory.ensures.adds is_pumps refl)

pub returns-in-Err-Memory-clause-flushes : goal.returns-in-Err-Memory-clause-flushes
returns-in-Err-Memory-clause-flushes g c =
    halt_flushes c.tick.new.pass.view.known.mine c.halt-in-Err-Memory.new.pass.view.known.mine _ _ c.halt-in-Err-Memory.ensures.mine
    ∙ ap flushes (no_tick_mine g.H.Handler.rule c.args.shared.now c.args.pass.now c.tick.new.pass c.now-now.result c.tick.result _ c.tick.ensures.did c.in-Err-Memory.is)

pub returns-in-Err-Memory-clause-ticks : goal.returns-in-Err-Memory-clause-ticks
returns-in-Err-Memory-clause-ticks g c = λ start so.
    ticked_kept start c.args.pass.now.view.known.mine c.halt-in-Err-Memory.new.pass.view.known.mine c.args.ticked.now (g.C.Clock.last c.args.clock.now) (g.C.Clock.last c.now-now.new.self) so
    (halt_moments c.tick.new.pass.view.known.mine c.halt-in-Err-Memory.new.pass.view.known.mine _ _ c.halt-in-Err-Memory.ensures.mine
    ∙ ap moments (no_tick_mine g.H.Handler.rule c.args.shared.now c.args.pass.now c.tick.new.pass c.now-now.result c.tick.result _ c.tick.ensures.did c.in-Err-Memory.is))
    (omega (arith, c.now-now.ensures.later, c.now-now.ensures.last))
