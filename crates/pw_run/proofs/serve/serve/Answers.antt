use Rattle.std.proofs.Common.{refl, inl}
use Rattle.pw_run.specs.Devices.{devices}
use Rattle.pw_run.proofs.serve.serve.Goals as goal

pub returns-in-Ok-clause-did : goal.returns-in-Ok-clause-did
returns-in-Ok-clause-did g c left =
    inl (record {
      listening = devices left (g.O.Sink.written c.args.output.now) (g.O.Sink.faults c.args.output.now) (g.S.Store.holds c.args.store.now) (g.N.Linker.links c.listen.new.self) (g.C.Clock.last c.args.clock.now);
      listened = record { listens = c.in-Ok.ensures.listens; kept = c.listen.ensures.kept; later = c.listen.ensures.cause.later; same = refl };
      serves = c.serve_all.ensures.serves left;
    })
