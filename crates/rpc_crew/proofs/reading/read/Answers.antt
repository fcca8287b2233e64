use Rattle.rpc_shared.specs.session.Crew.{is_readers}
use Rattle.turn_cell.proofs.Calls.{same_trans}
use Rattle.rpc_shared.proofs.session.ReaderLemmas.{ended_arrivals, input_open, read_on, reader_ended}
use Rattle.rpc_shared.proofs.session.StepLemmas.{end_in_adds}
use Rattle.rpc_crew.proofs.reading.read.Goals as goal

pub end_in-requires-clause-input : goal.end_in-requires-clause-input
end_in-requires-clause-input g c = input_open g.M.H.Handler.rule c.args.shared.now c.feed_source-reading.new.pass c.feed_source-reading.ensures.reader

pub returns-clause-ended : goal.returns-clause-ended
returns-clause-ended g c =
    let rule = g.M.H.Handler.rule in
    let r = c.args.shared.now in
    let mid = c.feed_source-reading.new.pass in
    reader_ended rule r mid c.end_in.new.pass c.feed_source-reading.ensures.reader (end_in_adds rule r mid c.end_in.new.pass c.end_in.ensures.did)

pub returns-clause-same : goal.returns-clause-same
returns-clause-same g c = same_trans c.args.pass.now c.feed_source-reading.new.pass c.end_in.new.pass c.feed_source-reading.ensures.same c.end_in.ensures.did.same

pub returns-clause-read : goal.returns-clause-read
returns-clause-read g c =
    let rule = g.M.H.Handler.rule in
    let r = c.args.shared.now in
    let mid = c.feed_source-reading.new.pass in
    read_on rule r is_readers (g.I.Source.left c.args.input.now) (g.I.Source.left c.feed_source-reading.new.input) c.feed_source-reading.result.ending c.feed_source-reading.result.read
    c.feed_source-reading.new.listener mid c.end_in.new.pass (end_in_adds rule r mid c.end_in.new.pass c.end_in.ensures.did)
    (ended_arrivals mid c.end_in.new.pass mid.view.known.number (c.end_in.ensures.did.mine _ c.end_in.ensures.did.did.adds)) c.feed_source-reading.ensures.read
