use Rattle.pw_run.proofs.WritesLemmas.{nothing_did, replay_did}
use Rattle.pw_run.proofs.replay.replay.Goals as goal

pub returns-in-Ok-clause-did : goal.returns-in-Ok-clause-did
returns-in-Ok-clause-did g c =
    let left = g.I.Source.left in
    let written = g.O.Sink.written in
    let holds = g.S.Store.holds in
    replay_did c.args.form c.in-Ok.shelf (left c.args.input.now) (left c.serve.new.input) (written c.args.output.now) (written c.serve.new.output)
    (holds c.args.store.now) (holds c.list.new.self) (holds c.serve.new.store) c.serve.result c.in-Ok.ensures.lists c.in-Ok.ensures.kept c.serve.ensures.did

pub returns-in-Err-Failed-clause-did : goal.returns-in-Err-Failed-clause-did
returns-in-Err-Failed-clause-did g c =
    let left = g.I.Source.left in
    let written = g.O.Sink.written in
    let holds = g.S.Store.holds in
    nothing_did c.args.form (left c.args.input.now) (written c.args.output.now) (written c.write_nothing.new.output) (holds c.args.store.now)
    (holds c.list.new.self) c.write_nothing.result c.list.ensures.kept c.write_nothing.ensures.writes
