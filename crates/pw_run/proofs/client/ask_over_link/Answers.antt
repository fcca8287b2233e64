use Rattle.pw_run.proofs.ClientLemmas.{client_ran, does_asked}
use Rattle.pw_run.proofs.client.ask_over_link.Goals as goal

pub returns-in-Ok-done-clause-did : goal.returns-in-Ok-done-clause-did
returns-in-Ok-done-clause-did g c left =
    let written = g.O.Sink.written in
    let holds = g.S.Store.holds in
    let links = g.N.Linker.links in
    let last = g.C.Clock.last in
    let ends = c.in-Ok.ensures in
    let done = c.in-Ok-done.done in
    let did = c.in-Ok-done.ensures in
    let link_in = c.live-done.new.link_in in
    let link_out = c.live-done.new.link_out in
    client_ran c.args.reported c.args.ask left (written c.args.output.now) (written c.write_client.new.output) (g.O.Sink.faults c.args.output.now)
    (g.O.Sink.faults c.write_client.new.output) (holds c.args.store.now) (holds c.live-done.new.store)
    (links c.args.net.now) (links c.connect.new.self) (links c.back.new.self) (last c.args.clock.now) (last c.live-done.new.clock)
    (g.N.In.Source.left c.in-Ok.link_in) (g.N.Out.Sink.written c.in-Ok.link_out) (g.N.In.Source.left link_in) (g.N.Out.Sink.written link_out)
    (g.N.In.Source.faults c.in-Ok.link_in) (g.N.In.Source.faults link_in) (g.N.Out.Sink.faults c.in-Ok.link_out) (g.N.Out.Sink.faults link_out)
    done c.write_client.result ends.handed c.connect.ensures.cause.later c.back.ensures ends.counts.0 ends.counts.1
    (does_asked c.args.ask _ _ done did.history did.begins did.explains did.ran did.ended did.at_end did.at_limit did.below did.full)
    did.source did.sink c.write_client.ensures.writes
