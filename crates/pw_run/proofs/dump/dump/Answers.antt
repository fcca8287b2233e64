use Rattle.std.proofs.Common.{subst, ◌∙◌}
use Rattle.stream_dump.specs.Dumps.{Dumps}
use Rattle.pw_run.proofs.dump.dump.Goals as goal

pub returns-clause-did : goal.returns-clause-did
returns-clause-did g c =
    let left = g.I.Source.left in
    let written = g.O.Sink.written in
    record {
      why = c.dump.result;
      own = c.of_session.ensures;
      ending = c.dump.ensures.endings;
      dumps =
          subst (λ names. Dumps names (left c.args.input.now) (left c.dump.new.input) (written c.args.output.now) (written c.dump.new.output) c.dump.result)
          (c.as_slice.ensures ∙ c.add_known.ensures) c.dump.ensures.dumps;
    }
