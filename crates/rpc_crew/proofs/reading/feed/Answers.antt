use Rattle.std.proofs.Common.{take, refl}
use Rattle.rpc_shared.specs.session.Crew.{is_feeding}
use Rattle.rpc_shared.proofs.session.ReaderLemmas.{cut_lost, cut_part, fed_part, halted_arrivals, on_err_of, reader_on, take_begins}
use Rattle.rpc_crew.proofs.reading.feed.Goals as goal

pub returns-in_err-take_heard-in-Ok-clause-cut : goal.returns-in_err-take_heard-in-Ok-clause-cut
returns-in_err-take_heard-in-Ok-clause-cut g c =
    on_err_of _ c.from_residual.result
    (λ bytes fed.
    cut_part c.args.listener.now c.listen.new.self c.args.pass.now c.take_heard.new.pass bytes (take c.in-Ok.listened.taken c.args.piece.now) c.in-Ok.listened.packet
    c.args.piece.now (take_begins c.in-Ok.listened.taken c.args.piece.now) fed c.in-Ok.ensures.hears c.in_err-take_heard-in-Ok.ensures.lost)

pub returns-in_ok-take_heard-in-Ok-clause-fed : goal.returns-in_ok-take_heard-in-Ok-clause-fed
returns-in_ok-take_heard-in-Ok-clause-fed g c = λ bytes fed.
    fed_part c.args.listener.now c.listen.new.self c.args.pass.now c.take_heard.new.pass bytes (take c.in-Ok.listened.taken c.args.piece.now) c.in-Ok.listened.packet
    fed c.in-Ok.ensures.hears c.in_ok-take_heard-in-Ok.ensures.arrived

pub returns-in-Err-clause-reader : goal.returns-in-Err-clause-reader
returns-in-Err-clause-reader g c =
    reader_on g.M.H.Handler.rule c.args.shared.now c.args.pass.now c.halt.new.pass c.requires.reader (c.halt.ensures.adds is_feeding refl)

pub returns-in-Err-clause-same : goal.returns-in-Err-clause-same
returns-in-Err-clause-same g c = (c.halt.ensures.adds is_feeding refl).same

pub returns-in-Err-clause-cut : goal.returns-in-Err-clause-cut
returns-in-Err-clause-cut g c = λ bytes fed.
    cut_lost c.args.listener.now c.listen.new.self c.args.pass.now c.halt.new.pass bytes c.args.piece.now c.in-Err.ensures.lost fed
    (halted_arrivals c.args.pass.now.view.known.mine c.halt.new.pass.view.known.mine _ _ c.halt.ensures.mine)
