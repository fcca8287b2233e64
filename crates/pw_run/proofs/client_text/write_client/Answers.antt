use Rattle.std.proofs.Common.{List, ℕ, ◌∙◌, subst, inl, rules}
use Rattle.std.specs.Io.KnownBytes.{Appends}
use Rattle.pw_run.proofs.ClientLemmas.{client_wrote}
use Rattle.pw_run.proofs.client_text.write_client.Goals as goal

pub returns-in-Ok-write_out-clause-writes : goal.returns-in-Ok-write_out-clause-writes
returns-in-Ok-write_out-clause-writes g c =
    let done = c.args.done.now in
    let old = g.O.Sink.written c.args.output.now in
    let new = g.O.Sink.written c.write_out.new.output in
    client_wrote c.args.reported done old new (g.O.Sink.faults c.args.output.now) (g.O.Sink.faults c.write_out.new.output) c.outcome_of.result (search rules)
    (inl (
      c.outcome_of.ensures,
      subst (λ (text : List ℕ). Appends old new text) (c.as_bytes.ensures.value ∙ c.in-Ok.ensures) c.in-Ok-write_out.ensures.whole,
    ))
