use Rattle.std.proofs.Common.{ℕ, ◌∙◌, subst}
use Rattle.pw_run.specs.Texts.{WritesLimit}
use Rattle.pw_run.proofs.WritesLemmas.{limit_did}
use Rattle.pw_run.proofs.telling.tell.Goals as goal

pub returns-in-AtLimit-clause-did : goal.returns-in-AtLimit-clause-did
returns-in-AtLimit-clause-did g c =
    let left = g.I.Source.left in
    let old = g.O.Sink.written c.args.output.now in
    let new = g.O.Sink.written c.write_limit.new.output in
    limit_did c.args.command (left c.args.input.now) (left c.read_to_limit.new.source) old new c.write_limit.result c.in-Ok.taken.bytes.items
    c.in-Ok.ensures.bytes (c.in-Ok.ensures.at_limit c.in-AtLimit.is ∙ c.limit-limit.ensures.value)
    (subst (λ (limit : ℕ). WritesLimit limit old new c.write_limit.result) c.limit-limit.ensures.value c.write_limit.ensures.writes)
