use Rattle.std.proofs.Common.{Err, refl, ap, ◌∙◌}
use Rattle.rpc_shared.specs.session.Crew.{is_workers}
use Rattle.rpc_shared.proofs.session.PassLemmas.{adds_trans}
use Rattle.rpc_shared.proofs.session.StepLemmas.{look_adds, start_adds, start_full}
use Rattle.rpc_crew.proofs.working.work_once.Goals as goal

pub returns-in-Ok-Some : goal.returns-in-Ok-Some
returns-in-Ok-Some g c =
    let rule = g.H.Handler.rule in
    let r = c.args.shared.now in
    adds_trans rule r is_workers c.args.pass.now c.start.new.pass c.run.new.pass (start_adds rule r c.args.pass.now c.start.new.pass c.start.result c.start.ensures.did) c.run.ensures.adds

pub returns-in-Ok-None : goal.returns-in-Ok-None
returns-in-Ok-None g c =
    let rule = g.H.Handler.rule in
    let r = c.args.shared.now in
    adds_trans rule r is_workers c.args.pass.now c.start.new.pass c.look.new.pass (start_adds rule r c.args.pass.now c.start.new.pass c.start.result c.start.ensures.did)
    (look_adds rule r c.start.new.pass c.look.new.pass c.look.result c.look.ensures.did is_workers)

pub returns-in-Err-JournalFull : goal.returns-in-Err-JournalFull
returns-in-Err-JournalFull g c =
    let rule = g.H.Handler.rule in
    let r = c.args.shared.now in
    adds_trans rule r is_workers c.args.pass.now c.start.new.pass c.halt.new.pass (start_adds rule r c.args.pass.now c.start.new.pass c.start.result c.start.ensures.did)
    (c.halt.ensures.adds is_workers refl)

pub returns-in-Err-Memory : goal.returns-in-Err-Memory
returns-in-Err-Memory g c =
    let rule = g.H.Handler.rule in
    let r = c.args.shared.now in
    adds_trans rule r is_workers c.args.pass.now c.start.new.pass c.halt-in-Err-Memory.new.pass (start_adds rule r c.args.pass.now c.start.new.pass c.start.result c.start.ensures.did)
    (c.halt-in-Err-Memory.ensures.adds is_workers refl)

pub halt-requires-clause-full : goal.halt-requires-clause-full
halt-requires-clause-full g c = λ _.
    start_full g.H.Handler.rule c.args.shared.now c.args.pass.now c.start.new.pass c.start.result c.start.ensures.did (c.in-Err-JournalFull.is ∙ ap Err c.in-Err-JournalFull.field-0-is)
