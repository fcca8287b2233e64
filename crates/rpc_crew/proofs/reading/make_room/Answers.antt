use Rattle.std.proofs.Common.{Err, refl, ap, ◌∙◌}
use Rattle.rpc_shared.specs.session.Crew.{is_workers}
use Rattle.rpc_shared.proofs.session.PassLemmas.{adds_trans}
use Rattle.rpc_shared.proofs.session.ReaderLemmas.{on_err_map}
use Rattle.rpc_shared.proofs.session.StepLemmas.{look_adds, look_halted, start_of_adds, start_of_full}
use Rattle.rpc_crew.proofs.reading.make_room.Goals as goal

pub returns-in-Ok-clause-adds : goal.returns-in-Ok-clause-adds
returns-in-Ok-clause-adds g c =
    let rule = g.H.Handler.rule in
    let r = c.args.shared.now in
    adds_trans rule r is_workers c.args.pass.now c.start_of.new.pass c.run.new.pass
    (start_of_adds rule r c.args.pass.now c.start_of.new.pass c.args.call c.start_of.result c.start_of.ensures.did) c.run.ensures.adds

pub returns-in-Err-NotReady-clause-adds : goal.returns-in-Err-NotReady-clause-adds
returns-in-Err-NotReady-clause-adds g c =
    let rule = g.H.Handler.rule in
    let r = c.args.shared.now in
    adds_trans rule r is_workers c.args.pass.now c.start_of.new.pass c.look.new.pass
    (start_of_adds rule r c.args.pass.now c.start_of.new.pass c.args.call c.start_of.result c.start_of.ensures.did)
    (look_adds rule r c.start_of.new.pass c.look.new.pass c.look.result c.look.ensures.did is_workers)

pub returns-in-Err-NotReady-clause-halted : goal.returns-in-Err-NotReady-clause-halted
returns-in-Err-NotReady-clause-halted g c =
    on_err_map c.rest.result (look_halted g.H.Handler.rule c.args.shared.now c.start_of.new.pass c.look.new.pass c.look.result c.look.ensures.did) c.rest.ensures

pub returns-in-Err-JournalFull-clause-adds : goal.returns-in-Err-JournalFull-clause-adds
returns-in-Err-JournalFull-clause-adds g c =
    let rule = g.H.Handler.rule in
    let r = c.args.shared.now in
    adds_trans rule r is_workers c.args.pass.now c.start_of.new.pass c.halt.new.pass
    (start_of_adds rule r c.args.pass.now c.start_of.new.pass c.args.call c.start_of.result c.start_of.ensures.did) (c.halt.ensures.adds is_workers refl)

pub returns-in-Err-Memory-clause-adds : goal.returns-in-Err-Memory-clause-adds
returns-in-Err-Memory-clause-adds g c =
    let rule = g.H.Handler.rule in
    let r = c.args.shared.now in
    adds_trans rule r is_workers c.args.pass.now c.start_of.new.pass c.halt-in-Err-Memory.new.pass
    (start_of_adds rule r c.args.pass.now c.start_of.new.pass c.args.call c.start_of.result c.start_of.ensures.did) (c.halt-in-Err-Memory.ensures.adds is_workers refl)

pub halt-requires-clause-full : goal.halt-requires-clause-full
halt-requires-clause-full g c = λ _.
    start_of_full g.H.Handler.rule c.args.shared.now c.args.pass.now c.start_of.new.pass c.args.call c.start_of.result c.start_of.ensures.did
    (c.in-Err-JournalFull.is ∙ ap Err c.in-Err-JournalFull.field-0-is)
