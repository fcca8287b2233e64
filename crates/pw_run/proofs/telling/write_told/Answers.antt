use Rattle.std.proofs.Common.{ℕ, List, subst}
use Rattle.pw_run.specs.declared.outcome.Outcome.{Outcome}
use Rattle.pw_run.specs.Writes.{Writes}
use Rattle.pw_run.proofs.WritesLemmas.{all_told}
use Rattle.pw_run.proofs.telling.write_told.Goals as goal

pub returns-in-Ok-clause-writes : goal.returns-in-Ok-clause-writes
returns-in-Ok-clause-writes g c =
    let old = g.O.Sink.written c.args.output.now in
    let new = g.O.Sink.written c.write_text.new.output in
    let told = c.in-Ok.told in
    all_told c.args.command c.args.text.now told.text.items told.found old new c.write_text.result c.in-Ok.ensures
    (subst (λ (own : Outcome). Writes old new told.text.items own c.write_text.result) c.outcome_on.ensures.value
    (subst (λ (text : List ℕ). Writes old new text c.outcome_on.result c.write_text.result) c.deref.ensures.value c.write_text.ensures.writes))
