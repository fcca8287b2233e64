use Rattle.std.proofs.Common.{◌∙◌, Some, None, ap, sym}
use Rattle.rpc_journal.specs.Kinds.{is_unary}
use Rattle.rpc_journal.proofs.table.KnownStates.{unary_known}
use Rattle.rpc_calls.specs.declared.call_place.CallFacts.{CallFacts}
use Rattle.rpc_calls.proofs.FactSteps.{facts_none, facts_row}
use Rattle.rpc_calls.proofs.indexed_states.IndexedStates.is_unary.Goals as goal

pub returns-in-Some : goal.returns-in-Some
returns-in-Some g c = λ ds agrees.
    let row = facts_row _ c.in-Some.facts (sym c.in-Some.is ∙ c.facts.ensures) in
    c.is_unary.ensures ∙ ap (λ (f : CallFacts). is_unary f.method.kind) row.are ∙ sym (unary_known ds _ c.args.call (Some row.it) agrees.calls row.there)

pub returns-in-None : goal.returns-in-None
returns-in-None g c = λ ds agrees. sym (unary_known ds _ c.args.call None agrees.calls (facts_none _ (sym c.in-None.is ∙ c.facts.ensures)))
