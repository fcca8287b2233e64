use Rattle.std.proofs.Common.{refl}
use Rattle.rpc_shared.specs.session.Crew.{is_feeding}
use Rattle.rpc_shared.proofs.session.ReaderLemmas.{halted_arrivals, read_none, reader_on}
use Rattle.rpc_crew.proofs.reading.feed_source.Goals as goal

pub returns-then-not-have_begun-clause-reader : goal.returns-then-not-have_begun-clause-reader
returns-then-not-have_begun-clause-reader g c =
    reader_on g.M.H.Handler.rule c.args.shared.now c.args.pass.now c.halt.new.pass c.requires.reader (c.halt.ensures.adds is_feeding refl)

pub returns-then-not-have_begun-clause-same : goal.returns-then-not-have_begun-clause-same
returns-then-not-have_begun-clause-same g c = (c.halt.ensures.adds is_feeding refl).same

pub returns-then-not-have_begun-clause-read : goal.returns-then-not-have_begun-clause-read
returns-then-not-have_begun-clause-read g c =
    read_none c.args.shared.now.base (g.I.Source.left c.args.input.now) c.args.listener.now c.args.pass.now c.halt.new.pass c.requires.fed
    (halted_arrivals c.args.pass.now.view.known.mine c.halt.new.pass.view.known.mine _ _ c.halt.ensures.mine) c.halt.ensures.halted
