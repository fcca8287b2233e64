use Rattle.std.proofs.Common.{refl, Err, ◌∙◌, ap}
use Rattle.link_io.specs.declared.why.Why.TheVariants.{JournalLimit, Memory}
use Rattle.rpc_shared.proofs.session.StepLemmas.{start_of_full}
use Rattle.live_client.specs.Driving.{is_running}
use Rattle.live_client.specs.Silent.{silent_rule}
use Rattle.live_client.proofs.StepsOf.{calm_trans, can_on, halt_calm, start_calm}
use Rattle.live_client.proofs.stepping.begin_run.Goals as goal

pub returns-in-Ok-clause-calm : goal.returns-in-Ok-clause-calm
returns-in-Ok-clause-calm g c = start_calm c.args.table.now c.args.call c.args.pass.now c.start_of.new.pass c.requires.can c.start_of.result c.start_of.ensures.did

pub returns-in-Ok-clause-runs : goal.returns-in-Ok-clause-runs
returns-in-Ok-clause-runs g c = (c.in-Ok.ensures.runs, c.in-Ok.ensures.did.did.chosen)

pub returns-in-Err-NotReady-clause-calm : goal.returns-in-Err-NotReady-clause-calm
returns-in-Err-NotReady-clause-calm g c = start_calm c.args.table.now c.args.call c.args.pass.now c.start_of.new.pass c.requires.can c.start_of.result c.start_of.ensures.did

pub halt-requires-clause-full : goal.halt-requires-clause-full
halt-requires-clause-full g c = λ _.
    start_of_full silent_rule c.args.table.now c.args.pass.now c.start_of.new.pass c.args.call c.start_of.result c.start_of.ensures.did (c.in-Err-JournalFull.is ∙ ap Err c.in-Err-JournalFull.field-0-is)

pub returns-in-Err-JournalFull-clause-calm : goal.returns-in-Err-JournalFull-clause-calm
returns-in-Err-JournalFull-clause-calm g c =
    let r = c.args.table.now in
    let began = start_calm r c.args.call c.args.pass.now c.start_of.new.pass c.requires.can c.start_of.result c.start_of.ensures.did in
    calm_trans r c.args.call is_running c.args.pass.now c.start_of.new.pass c.halt.new.pass began
    (halt_calm r c.args.call c.start_of.new.pass c.halt.new.pass (can_on r c.args.call is_running c.args.pass.now c.start_of.new.pass c.requires.can began.adds) JournalLimit is_running c.halt.ensures.did refl refl (λ _. start_of_full silent_rule r c.args.pass.now c.start_of.new.pass c.args.call c.start_of.result c.start_of.ensures.did (c.in-Err-JournalFull.is ∙ ap Err c.in-Err-JournalFull.field-0-is)) (c.halt.ensures.adds is_running refl))

pub returns-in-Err-Memory-clause-calm : goal.returns-in-Err-Memory-clause-calm
returns-in-Err-Memory-clause-calm g c =
    let r = c.args.table.now in
    let began = start_calm r c.args.call c.args.pass.now c.start_of.new.pass c.requires.can c.start_of.result c.start_of.ensures.did in
    calm_trans r c.args.call is_running c.args.pass.now c.start_of.new.pass c.halt-in-Err-Memory.new.pass began
    (halt_calm r c.args.call c.start_of.new.pass c.halt-in-Err-Memory.new.pass (can_on r c.args.call is_running c.args.pass.now c.start_of.new.pass c.requires.can began.adds) Memory is_running c.halt-in-Err-Memory.ensures.did refl refl (λ is. absurd (cc is)) (c.halt-in-Err-Memory.ensures.adds is_running refl))
