use Rattle.std.proofs.Common.{ap, ◌∙◌}
use Rattle.live_client.specs.Feeding.{is_readers}
use Rattle.turn_cell.proofs.Calls.{same_trans}
use Rattle.live_client.proofs.FeedLemmas.{ended_arrivals, ends, input_open, read_on, reader_ended}
use Rattle.live_client.proofs.WakeLemmas.{rang_besides, rang_more}
use Rattle.live_client.proofs.reading.read.Goals as goal

pub end_in-requires-clause-input : goal.end_in-requires-clause-input
end_in-requires-clause-input g c = input_open c.args.table.now c.feed_source-reading.new.pass c.feed_source-reading.ensures.reader

pub returns-clause-ended : goal.returns-clause-ended
returns-clause-ended g c =
    let r = c.args.table.now in
    let mid = c.feed_source-reading.new.pass in
    reader_ended r mid c.end_in.new.pass c.feed_source-reading.ensures.reader (ends r mid c.end_in.new.pass c.end_in.ensures.did)

pub returns-clause-same : goal.returns-clause-same
returns-clause-same g c = same_trans c.args.pass.now c.feed_source-reading.new.pass c.end_in.new.pass c.feed_source-reading.ensures.same c.end_in.ensures.did.same

pub returns-clause-read : goal.returns-clause-read
returns-clause-read g c =
    let r = c.args.table.now in
    let mid = c.feed_source-reading.new.pass in
    read_on r is_readers (g.I.Source.left c.args.input.now) (g.I.Source.left c.feed_source-reading.new.input) c.feed_source-reading.result.ending c.feed_source-reading.result.read
    c.feed_source-reading.new.listener mid c.end_in.new.pass (ends r mid c.end_in.new.pass c.end_in.ensures.did)
    (ended_arrivals mid c.end_in.new.pass mid.view.known.number (c.end_in.ensures.did.mine _ c.end_in.ensures.did.did.adds)) c.feed_source-reading.ensures.read

pub returns-clause-rung : goal.returns-clause-rung
returns-clause-rung g c =
    let r = c.args.table.now in
    let mid = c.feed_source-reading.new.pass in
    rang_more 1 c.args.bell.now c.feed_source-reading.new.bell c.call.new.bell c.args.pass.now mid c.end_in.new.pass c.feed_source-reading.ensures.rung
    (rang_besides c.feed_source-reading.new.bell c.call.new.bell mid c.end_in.new.pass c.call.ensures
    (ended_arrivals mid c.end_in.new.pass mid.view.known.number (c.end_in.ensures.did.mine _ c.end_in.ensures.did.did.adds)))

pub returns-clause-bell : goal.returns-clause-bell
returns-clause-bell g c = ap (λ b. b.table) c.call.ensures ∙ c.feed_source-reading.ensures.bell
