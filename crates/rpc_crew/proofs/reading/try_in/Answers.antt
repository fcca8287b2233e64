use Rattle.std.proofs.Common.{Err, refl, ap, ◌∙◌}
use Rattle.rpc_shared.specs.session.Crew.{is_feeding}
use Rattle.rpc_shared.proofs.session.PassLemmas.{adds_trans}
use Rattle.rpc_shared.proofs.session.ReaderLemmas.{arrived_more, halted_arrivals, input_open, on_err_of, reader_on, worked_arrivals, worked_feeding}
use Rattle.rpc_shared.proofs.session.StepLemmas.{arrive_adds, arrive_full, arrive_mine, refused_mine}
use Rattle.rpc_journal.specs.Items.{arrivals}
use Rattle.turn_cell.proofs.Calls.{same_trans}
use Rattle.rpc_crew.proofs.reading.try_in.Goals as goal

pub arrive-requires-clause-input : goal.arrive-requires-clause-input
arrive-requires-clause-input g c = input_open g.M.H.Handler.rule c.args.shared.now c.args.pass.now c.requires.reader

pub returns-in-Ok-clause-reader : goal.returns-in-Ok-clause-reader
returns-in-Ok-clause-reader g c =
    let rule = g.M.H.Handler.rule in
    let r = c.args.shared.now in
    reader_on rule r c.args.pass.now c.arrive.new.pass c.requires.reader (arrive_adds rule r c.args.pass.now c.arrive.new.pass c.args.packet.now c.arrive.result c.arrive.ensures.did)

pub returns-in-Ok-clause-arrived : goal.returns-in-Ok-clause-arrived
returns-in-Ok-clause-arrived g c = λ _.
    arrived_more c.args.pass.now c.arrive.new.pass c.args.packet.now c.args.pass.now.view.known.number
    (arrive_mine g.M.H.Handler.rule c.args.shared.now c.args.pass.now c.arrive.new.pass c.args.packet.now c.arrive.result _ c.arrive.ensures.did c.in-Ok.is)

pub returns-in_ok-make_room-in-Err-QueueFull-clause-reader : goal.returns-in_ok-make_room-in-Err-QueueFull-clause-reader
returns-in_ok-make_room-in-Err-QueueFull-clause-reader g c =
    let rule = g.M.H.Handler.rule in
    let r = c.args.shared.now in
    reader_on rule r c.args.pass.now c.make_room.new.pass c.requires.reader
    (adds_trans rule r is_feeding c.args.pass.now c.arrive.new.pass c.make_room.new.pass
    (arrive_adds rule r c.args.pass.now c.arrive.new.pass c.args.packet.now c.arrive.result c.arrive.ensures.did)
    (worked_feeding rule r c.arrive.new.pass c.make_room.new.pass c.make_room.ensures.adds))

pub returns-in_ok-make_room-in-Err-QueueFull-clause-kept : goal.returns-in_ok-make_room-in-Err-QueueFull-clause-kept
returns-in_ok-make_room-in-Err-QueueFull-clause-kept g c = λ _.
    let rule = g.M.H.Handler.rule in
    let r = c.args.shared.now in
    worked_arrivals rule r c.arrive.new.pass c.make_room.new.pass c.make_room.ensures.adds
    ∙ ap arrivals (refused_mine rule r c.args.pass.now c.arrive.new.pass c.args.packet.now c.arrive.result _ c.arrive.ensures.did c.in-Err-QueueFull.is)

pub returns-in_err-make_room-in-Err-QueueFull-clause-reader : goal.returns-in_err-make_room-in-Err-QueueFull-clause-reader
returns-in_err-make_room-in-Err-QueueFull-clause-reader g c =
    let rule = g.M.H.Handler.rule in
    let r = c.args.shared.now in
    reader_on rule r c.args.pass.now c.make_room.new.pass c.requires.reader
    (adds_trans rule r is_feeding c.args.pass.now c.arrive.new.pass c.make_room.new.pass
    (arrive_adds rule r c.args.pass.now c.arrive.new.pass c.args.packet.now c.arrive.result c.arrive.ensures.did)
    (worked_feeding rule r c.arrive.new.pass c.make_room.new.pass c.make_room.ensures.adds))

pub returns-in_err-make_room-in-Err-QueueFull-clause-lost : goal.returns-in_err-make_room-in-Err-QueueFull-clause-lost
returns-in_err-make_room-in-Err-QueueFull-clause-lost g c =
    let rule = g.M.H.Handler.rule in
    let r = c.args.shared.now in
    on_err_of _ c.from_residual.result
    (worked_arrivals rule r c.arrive.new.pass c.make_room.new.pass c.make_room.ensures.adds
    ∙ ap arrivals (refused_mine rule r c.args.pass.now c.arrive.new.pass c.args.packet.now c.arrive.result _ c.arrive.ensures.did c.in-Err-QueueFull.is))

pub returns-in_err-make_room-in-Err-QueueFull-clause-halted : goal.returns-in_err-make_room-in-Err-QueueFull-clause-halted
returns-in_err-make_room-in-Err-QueueFull-clause-halted g c = on_err_of _ c.from_residual.result c.in_err-make_room-in-Err-QueueFull.ensures.halted

pub halt-requires-clause-full : goal.halt-requires-clause-full
halt-requires-clause-full g c = λ _.
    arrive_full g.M.H.Handler.rule c.args.shared.now c.args.pass.now c.arrive.new.pass c.args.packet.now c.arrive.result c.arrive.ensures.did
    (c.in-Err-JournalFull.is ∙ ap Err c.in-Err-JournalFull.field-0-is)

pub returns-in-Err-JournalFull-clause-reader : goal.returns-in-Err-JournalFull-clause-reader
returns-in-Err-JournalFull-clause-reader g c =
    let rule = g.M.H.Handler.rule in
    let r = c.args.shared.now in
    reader_on rule r c.args.pass.now c.halt.new.pass c.requires.reader
    (adds_trans rule r is_feeding c.args.pass.now c.arrive.new.pass c.halt.new.pass
    (arrive_adds rule r c.args.pass.now c.arrive.new.pass c.args.packet.now c.arrive.result c.arrive.ensures.did) (c.halt.ensures.adds is_feeding refl))

pub returns-in-Err-JournalFull-clause-lost : goal.returns-in-Err-JournalFull-clause-lost
returns-in-Err-JournalFull-clause-lost g c =
    halted_arrivals c.arrive.new.pass.view.known.mine c.halt.new.pass.view.known.mine _ _ c.halt.ensures.mine
    ∙ ap arrivals (refused_mine g.M.H.Handler.rule c.args.shared.now c.args.pass.now c.arrive.new.pass c.args.packet.now c.arrive.result _ c.arrive.ensures.did c.in-Err-JournalFull.is)

pub returns-in-Err-Memory-clause-reader : goal.returns-in-Err-Memory-clause-reader
returns-in-Err-Memory-clause-reader g c =
    let rule = g.M.H.Handler.rule in
    let r = c.args.shared.now in
    reader_on rule r c.args.pass.now c.halt-in-Err-Memory.new.pass c.requires.reader
    (adds_trans rule r is_feeding c.args.pass.now c.arrive.new.pass c.halt-in-Err-Memory.new.pass
    (arrive_adds rule r c.args.pass.now c.arrive.new.pass c.args.packet.now c.arrive.result c.arrive.ensures.did) (c.halt-in-Err-Memory.ensures.adds is_feeding refl))

pub returns-in-Err-Memory-clause-lost : goal.returns-in-Err-Memory-clause-lost
returns-in-Err-Memory-clause-lost g c =
    halted_arrivals c.arrive.new.pass.view.known.mine c.halt-in-Err-Memory.new.pass.view.known.mine _ _ c.halt-in-Err-Memory.ensures.mine
    ∙ ap arrivals (refused_mine g.M.H.Handler.rule c.args.shared.now c.args.pass.now c.arrive.new.pass c.args.packet.now c.arrive.result _ c.arrive.ensures.did c.in-Err-Memory.is)

pub returns-in-Err-JournalFull-clause-same : goal.returns-in-Err-JournalFull-clause-same
returns-in-Err-JournalFull-clause-same g c = same_trans c.args.pass.now c.arrive.new.pass c.halt.new.pass c.arrive.ensures.did.same (c.halt.ensures.adds is_feeding refl).same

pub returns-in-Err-Memory-clause-same : goal.returns-in-Err-Memory-clause-same
returns-in-Err-Memory-clause-same g c = same_trans c.args.pass.now c.arrive.new.pass c.halt-in-Err-Memory.new.pass c.arrive.ensures.did.same (c.halt-in-Err-Memory.ensures.adds is_feeding refl).same
