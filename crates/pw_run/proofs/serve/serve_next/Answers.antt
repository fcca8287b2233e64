use Rattle.pw_run.proofs.ServeLemmas.{connection_ran}
use Rattle.pw_run.proofs.serve.serve_next.Goals as goal

pub returns-in-Ok-served-clause-did : goal.returns-in-Ok-served-clause-did
returns-in-Ok-served-clause-did g c left =
    let written = g.O.Sink.written in
    let holds = g.S.Store.holds in
    let links = g.N.Linker.links in
    let last = g.C.Clock.last in
    let ends = c.in-Ok.ensures in
    let served = c.in-Ok-served.served in
    let link_in = c.serve_by-served.new.link_in in
    let link_out = c.serve_by-served.new.link_out in
    connection_ran c.args.way c.args.workers c.args.number left (written c.args.output.now) (written c.write_lines.new.output) (g.O.Sink.faults c.args.output.now)
    (g.O.Sink.faults c.write_lines.new.output)
    (holds c.args.store.now) (holds c.serve_by-served.new.store) (links c.args.net.now) (links c.accept.new.self) (links c.back.new.self)
    (last c.args.clock.now) (last c.serve_by-served.new.clock)
    (g.N.In.Source.left c.in-Ok.link_in) (g.N.Out.Sink.written c.in-Ok.link_out) (g.N.In.Source.left link_in) (g.N.Out.Sink.written link_out)
    (g.N.In.Source.faults c.in-Ok.link_in) (g.N.In.Source.faults link_in) (g.N.Out.Sink.faults c.in-Ok.link_out) (g.N.Out.Sink.faults link_out)
    served.why served.counts served.calls served.items.items c.write_lines.result
    ends.handed c.accept.ensures.cause.later c.back.ensures ends.counts.0 ends.counts.1
    c.in-Ok-served.ensures.serves c.in-Ok-served.ensures.source c.in-Ok-served.ensures.sink c.write_lines.ensures.writes
