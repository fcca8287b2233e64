use Rattle.std.proofs.Common.{◌∙◌, Some, None, ap, sym}
use Rattle.rpc_journal.specs.Kinds.{streams_out}
use Rattle.rpc_journal.proofs.table.KnownStates.{stream_known}
use Rattle.rpc_calls.specs.declared.call_place.CallFacts.{CallFacts}
use Rattle.rpc_calls.proofs.FactSteps.{facts_none, facts_row}
use Rattle.rpc_calls.proofs.indexed_states.IndexedStates.has_stream.Goals as goal

pub returns-in-Some : goal.returns-in-Some
returns-in-Some g c = λ ds agrees.
    let row = facts_row _ c.in-Some.facts (sym c.in-Some.is ∙ c.facts.ensures) in
    c.streams_out.ensures ∙ ap (λ (f : CallFacts). streams_out c.args.role f.method.kind) row.are ∙ sym (stream_known c.args.role ds _ c.args.call (Some row.it) agrees.calls row.there)

pub returns-in-None : goal.returns-in-None
returns-in-None g c = λ ds agrees. sym (stream_known c.args.role ds _ c.args.call None agrees.calls (facts_none _ (sym c.in-None.is ∙ c.facts.ensures)))
