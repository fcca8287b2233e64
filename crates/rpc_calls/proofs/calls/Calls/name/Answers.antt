use Rattle.std.proofs.Common.{◌≡◌, ◌∙◌, ◌<◌, Some, IsSome, option_map, refl, ap, subst, sym, arith}
use Rattle.rpc_journal.specs.Calls.{call_at, call_count}
use Rattle.rpc_journal.specs.CallTable.{past}
use Rattle.rpc_journal.proofs.PlaceLemmas.{get_some}
use Rattle.rpc_calls.specs.declared.call_place.CallFacts.{CallFacts}
use Rattle.rpc_calls.specs.Facts.{facts_of}
use Rattle.rpc_calls.proofs.FactSteps.{facts_row}
use Rattle.rpc_calls.proofs.Openings.{name_is}
use Rattle.rpc_calls.proofs.calls.Calls.name.Goals as goal

pub unwrap-requires : goal.unwrap-requires
unwrap-requires g c =
    let below = subst (λ t. c.args.call < call_count (past t)) (sym c.self.view_is) c.requires.below in
    let row = get_some c.self.inside.calls.states.calls.items c.args.call (omega (arith, below, c.self.invariant.stands.agrees.calls.many)) in
    subst IsSome (sym (c.facts.ensures ∙ ap (option_map facts_of) row.1)) refl

pub returns : goal.returns
returns g c =
    let calls = c.self.invariant.stands.agrees.calls in
    let row = facts_row _ c.unwrap.result (sym c.unwrap.ensures ∙ c.facts.ensures) in
    subst (λ t. option_map (λ o. o.name) (call_at (past t) c.args.call) ≡ Some c.unwrap.result.name) c.self.view_is
    (name_is _ _ _ (calls.each _ _ row.there) ∙ ap (λ (f : CallFacts). Some f.name) (sym row.are))
