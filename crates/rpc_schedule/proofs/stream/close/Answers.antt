use Rattle.std.proofs.Common.{◌∙◌}
use Rattle.std.proofs.lemmas.Result.{on_ok_weaker}
use Rattle.rpc_schedule.proofs.StreamLemmas.{on_ok_and}
use Rattle.rpc_schedule.proofs.InputLemmas.{done_after, done_items, end_full, end_steps, end_store, ended_after}
use Rattle.rpc_schedule.proofs.stream.close.Goals as goal

pub settle-requires-clause-orderly : goal.settle-requires-clause-orderly
settle-requires-clause-orderly g c =
    (end_steps g.T.Serves.rule (g.T.Serves.seen c.args.server.now) (g.T.Serves.seen c.end_in.new.self) c.requires.calm c.end_in.ensures.step).0

pub returns-clause-done : goal.returns-clause-done
returns-clause-done g c =
    let seen = g.T.Serves.seen in
    on_ok_weaker c.settle.result
    (done_after g.T.Serves.rule (seen c.args.server.now) (seen c.end_in.new.self) (seen c.settle.new.server) c.requires.calm c.end_in.ensures.step)
    c.settle.ensures.ok

pub returns-clause-items : goal.returns-clause-items
returns-clause-items g c =
    let seen = g.T.Serves.seen in
    on_ok_and c.settle.result
    (λ settles items. items ∙ done_items g.T.Serves.rule (seen c.end_in.new.self) (seen c.settle.new.server) settles)
    c.settle.ensures.ok c.settle.ensures.items

pub returns-clause-full : goal.returns-clause-full
returns-clause-full g c = λ journal.
    let seen = g.T.Serves.seen in
    end_full g.T.Serves.rule (seen c.args.server.now) (seen c.end_in.new.self) (seen c.settle.new.server) c.requires.calm c.end_in.ensures.step
    (c.settle.ensures.full journal)

pub returns-clause-full_ended : goal.returns-clause-full_ended
returns-clause-full_ended g c = λ journal.
    let seen = g.T.Serves.seen in
    ended_after (seen c.args.server.now) (seen c.end_in.new.self) (seen c.settle.new.server) c.end_in.ensures.step (c.settle.ensures.full journal).stays

pub returns-clause-fails : goal.returns-clause-fails
returns-clause-fails g c = λ failed.
    let seen = g.T.Serves.seen in
    end_store g.T.Serves.rule (seen c.args.server.now) (seen c.end_in.new.self) (seen c.settle.new.server) c.settle.new.items.items c.requires.calm
    c.end_in.ensures.step (c.settle.ensures.fails failed)

pub returns-clause-fails_ended : goal.returns-clause-fails_ended
returns-clause-fails_ended g c = λ failed.
    let seen = g.T.Serves.seen in
    ended_after (seen c.args.server.now) (seen c.end_in.new.self) (seen c.settle.new.server) c.end_in.ensures.step (c.settle.ensures.fails failed).stays
