use Rattle.std.proofs.Common.{ℕ, List, ◌∙◌, subst}
use Rattle.pw_run.specs.declared.outcome.Outcome.TheVariants.{InputLimit}
use Rattle.pw_run.specs.Writes.{Writes}
use Rattle.pw_run.proofs.WritesLemmas.{limit_told}
use Rattle.pw_run.proofs.telling.write_limit.Goals as goal

pub returns-in-Ok-clause-writes : goal.returns-in-Ok-clause-writes
returns-in-Ok-clause-writes g c =
    let old = g.O.Sink.written c.args.output.now in
    let new = g.O.Sink.written c.write_text.new.output in
    limit_told c.args.limit old new c.write_text.result
    (subst (λ (text : List ℕ). Writes old new text InputLimit c.write_text.result) (c.as_bytes.ensures.value ∙ c.in-Ok.ensures) c.write_text.ensures.writes)
