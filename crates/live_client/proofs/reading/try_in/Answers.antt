use Rattle.std.proofs.Common.{Err, refl, ap, ◌∙◌}
use Rattle.live_client.specs.Feeding.{is_feeding}
use Rattle.live_client.specs.Silent.{silent_rule}
use Rattle.rpc_shared.proofs.session.PassLemmas.{adds_trans}
use Rattle.live_client.proofs.FeedLemmas.{arrived_more, feeds, halted_arrivals, input_open, on_err_of, reader_on}
use Rattle.rpc_shared.proofs.session.StepLemmas.{arrive_full, arrive_mine, look_adds, look_halted, look_mine, refused_mine}
use Rattle.rpc_journal.specs.Items.{arrivals}
use Rattle.turn_cell.proofs.Calls.{same_trans}
use Rattle.live_client.proofs.WakeLemmas.{rang_none, rang_once}
use Rattle.live_client.proofs.reading.try_in.Goals as goal

pub arrive-requires-clause-input : goal.arrive-requires-clause-input
arrive-requires-clause-input g c = input_open c.args.table.now c.args.pass.now c.requires.reader

pub returns-in-Ok-clause-reader : goal.returns-in-Ok-clause-reader
returns-in-Ok-clause-reader g c =
    reader_on c.args.table.now c.args.pass.now c.arrive.new.pass c.requires.reader (feeds c.args.table.now c.args.pass.now c.arrive.new.pass c.args.packet.now c.arrive.result c.arrive.ensures.did)

pub returns-in-Ok-clause-arrived : goal.returns-in-Ok-clause-arrived
returns-in-Ok-clause-arrived g c = λ _.
    arrived_more c.args.pass.now c.arrive.new.pass c.args.packet.now c.args.pass.now.view.known.number
    (arrive_mine silent_rule c.args.table.now c.args.pass.now c.arrive.new.pass c.args.packet.now c.arrive.result _ c.arrive.ensures.did c.in-Ok.is)

pub halt-requires-clause-full : goal.halt-requires-clause-full
halt-requires-clause-full g c = λ _.
    arrive_full silent_rule c.args.table.now c.args.pass.now c.arrive.new.pass c.args.packet.now c.arrive.result c.arrive.ensures.did
    (c.in-Err-JournalFull.is ∙ ap Err c.in-Err-JournalFull.field-0-is)

pub returns-in-Err-JournalFull-clause-reader : goal.returns-in-Err-JournalFull-clause-reader
returns-in-Err-JournalFull-clause-reader g c =
    let r = c.args.table.now in
    reader_on r c.args.pass.now c.halt.new.pass c.requires.reader
    (adds_trans silent_rule r is_feeding c.args.pass.now c.arrive.new.pass c.halt.new.pass
    (feeds r c.args.pass.now c.arrive.new.pass c.args.packet.now c.arrive.result c.arrive.ensures.did) (c.halt.ensures.adds is_feeding refl))

pub returns-in-Err-JournalFull-clause-lost : goal.returns-in-Err-JournalFull-clause-lost
returns-in-Err-JournalFull-clause-lost g c =
    halted_arrivals c.arrive.new.pass.view.known.mine c.halt.new.pass.view.known.mine _ _ c.halt.ensures.mine
    ∙ ap arrivals (refused_mine silent_rule c.args.table.now c.args.pass.now c.arrive.new.pass c.args.packet.now c.arrive.result _ c.arrive.ensures.did c.in-Err-JournalFull.is)

pub returns-in-Err-Memory-clause-reader : goal.returns-in-Err-Memory-clause-reader
returns-in-Err-Memory-clause-reader g c =
    let r = c.args.table.now in
    reader_on r c.args.pass.now c.halt-in-Err-Memory.new.pass c.requires.reader
    (adds_trans silent_rule r is_feeding c.args.pass.now c.arrive.new.pass c.halt-in-Err-Memory.new.pass
    (feeds r c.args.pass.now c.arrive.new.pass c.args.packet.now c.arrive.result c.arrive.ensures.did) (c.halt-in-Err-Memory.ensures.adds is_feeding refl))

pub returns-in-Err-Memory-clause-lost : goal.returns-in-Err-Memory-clause-lost
returns-in-Err-Memory-clause-lost g c =
    halted_arrivals c.arrive.new.pass.view.known.mine c.halt-in-Err-Memory.new.pass.view.known.mine _ _ c.halt-in-Err-Memory.ensures.mine
    ∙ ap arrivals (refused_mine silent_rule c.args.table.now c.args.pass.now c.arrive.new.pass c.args.packet.now c.arrive.result _ c.arrive.ensures.did c.in-Err-Memory.is)

pub returns-in-Err-JournalFull-clause-same : goal.returns-in-Err-JournalFull-clause-same
returns-in-Err-JournalFull-clause-same g c = same_trans c.args.pass.now c.arrive.new.pass c.halt.new.pass c.arrive.ensures.did.same (c.halt.ensures.adds is_feeding refl).same

pub returns-in-Err-Memory-clause-same : goal.returns-in-Err-Memory-clause-same
returns-in-Err-Memory-clause-same g c = same_trans c.args.pass.now c.arrive.new.pass c.halt-in-Err-Memory.new.pass c.arrive.ensures.did.same (c.halt-in-Err-Memory.ensures.adds is_feeding refl).same

pub returns-in_err-rest-in-Err-QueueFull-clause-reader : goal.returns-in_err-rest-in-Err-QueueFull-clause-reader
returns-in_err-rest-in-Err-QueueFull-clause-reader g c =
    let r = c.args.table.now in
    reader_on r c.args.pass.now c.look.new.pass c.requires.reader
    (adds_trans silent_rule r is_feeding c.args.pass.now c.arrive.new.pass c.look.new.pass
    (feeds r c.args.pass.now c.arrive.new.pass c.args.packet.now c.arrive.result c.arrive.ensures.did) (look_adds silent_rule r c.arrive.new.pass c.look.new.pass c.look.result c.look.ensures.did is_feeding))

pub returns-in_ok-rest-in-Err-QueueFull-clause-reader : goal.returns-in_ok-rest-in-Err-QueueFull-clause-reader
returns-in_ok-rest-in-Err-QueueFull-clause-reader g c =
    let r = c.args.table.now in
    reader_on r c.args.pass.now c.look.new.pass c.requires.reader
    (adds_trans silent_rule r is_feeding c.args.pass.now c.arrive.new.pass c.look.new.pass
    (feeds r c.args.pass.now c.arrive.new.pass c.args.packet.now c.arrive.result c.arrive.ensures.did) (look_adds silent_rule r c.arrive.new.pass c.look.new.pass c.look.result c.look.ensures.did is_feeding))

pub returns-in_err-rest-in-Err-QueueFull-clause-lost : goal.returns-in_err-rest-in-Err-QueueFull-clause-lost
returns-in_err-rest-in-Err-QueueFull-clause-lost g c =
    on_err_of _ c.from_residual.result
    (ap arrivals (look_mine silent_rule c.args.table.now c.arrive.new.pass c.look.new.pass c.look.result c.look.ensures.did
    ∙ refused_mine silent_rule c.args.table.now c.args.pass.now c.arrive.new.pass c.args.packet.now c.arrive.result _ c.arrive.ensures.did c.in-Err-QueueFull.is))

pub returns-in_ok-rest-in-Err-QueueFull-clause-kept : goal.returns-in_ok-rest-in-Err-QueueFull-clause-kept
returns-in_ok-rest-in-Err-QueueFull-clause-kept g c = λ _.
    ap arrivals (look_mine silent_rule c.args.table.now c.arrive.new.pass c.look.new.pass c.look.result c.look.ensures.did
    ∙ refused_mine silent_rule c.args.table.now c.args.pass.now c.arrive.new.pass c.args.packet.now c.arrive.result _ c.arrive.ensures.did c.in-Err-QueueFull.is)

pub returns-in_err-rest-in-Err-QueueFull-clause-halted : goal.returns-in_err-rest-in-Err-QueueFull-clause-halted
returns-in_err-rest-in-Err-QueueFull-clause-halted g c =
    on_err_of _ c.from_residual.result (look_halted silent_rule c.args.table.now c.arrive.new.pass c.look.new.pass c.look.result c.look.ensures.did c.in_err-rest-in-Err-QueueFull.ensures)

pub returns-in-Ok-clause-rung : goal.returns-in-Ok-clause-rung
returns-in-Ok-clause-rung g c =
    rang_once c.args.bell.now c.call.new.bell c.args.pass.now c.arrive.new.pass c.args.packet.now c.call.ensures
    (arrived_more c.args.pass.now c.arrive.new.pass c.args.packet.now c.args.pass.now.view.known.number
    (arrive_mine silent_rule c.args.table.now c.args.pass.now c.arrive.new.pass c.args.packet.now c.arrive.result _ c.arrive.ensures.did c.in-Ok.is))

pub returns-in-Ok-clause-bell : goal.returns-in-Ok-clause-bell
returns-in-Ok-clause-bell g c = ap (λ b. b.table) c.call.ensures

pub returns-in-Err-JournalFull-clause-rung : goal.returns-in-Err-JournalFull-clause-rung
returns-in-Err-JournalFull-clause-rung g c =
    rang_none c.args.bell.now c.args.pass.now c.halt.new.pass
    (halted_arrivals c.arrive.new.pass.view.known.mine c.halt.new.pass.view.known.mine _ _ c.halt.ensures.mine
    ∙ ap arrivals (refused_mine silent_rule c.args.table.now c.args.pass.now c.arrive.new.pass c.args.packet.now c.arrive.result _ c.arrive.ensures.did c.in-Err-JournalFull.is))

pub returns-in-Err-Memory-clause-rung : goal.returns-in-Err-Memory-clause-rung
returns-in-Err-Memory-clause-rung g c =
    rang_none c.args.bell.now c.args.pass.now c.halt-in-Err-Memory.new.pass
    (halted_arrivals c.arrive.new.pass.view.known.mine c.halt-in-Err-Memory.new.pass.view.known.mine _ _ c.halt-in-Err-Memory.ensures.mine
    ∙ ap arrivals (refused_mine silent_rule c.args.table.now c.args.pass.now c.arrive.new.pass c.args.packet.now c.arrive.result _ c.arrive.ensures.did c.in-Err-Memory.is))

pub returns-in_err-rest-in-Err-QueueFull-clause-rung : goal.returns-in_err-rest-in-Err-QueueFull-clause-rung
returns-in_err-rest-in-Err-QueueFull-clause-rung g c =
    rang_none c.args.bell.now c.args.pass.now c.look.new.pass
    (ap arrivals (look_mine silent_rule c.args.table.now c.arrive.new.pass c.look.new.pass c.look.result c.look.ensures.did
    ∙ refused_mine silent_rule c.args.table.now c.args.pass.now c.arrive.new.pass c.args.packet.now c.arrive.result _ c.arrive.ensures.did c.in-Err-QueueFull.is))

pub returns-in_ok-rest-in-Err-QueueFull-clause-rung : goal.returns-in_ok-rest-in-Err-QueueFull-clause-rung
returns-in_ok-rest-in-Err-QueueFull-clause-rung g c =
    rang_none c.args.bell.now c.args.pass.now c.look.new.pass
    (ap arrivals (look_mine silent_rule c.args.table.now c.arrive.new.pass c.look.new.pass c.look.result c.look.ensures.did
    ∙ refused_mine silent_rule c.args.table.now c.args.pass.now c.arrive.new.pass c.args.packet.now c.arrive.result _ c.arrive.ensures.did c.in-Err-QueueFull.is))
