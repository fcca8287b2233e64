use Rattle.std.proofs.Common.{◌≡◌, ◌∙◌, Some, slice_get, sym, subst}
use Rattle.rpc_calls.proofs.FactSteps.{if_none_weaker, if_some_weaker}
use Rattle.rpc_calls.proofs.indexed_states.IndexedStates.next_in_use.Goals as goal

pub returns-clause-first : goal.returns-clause-first
returns-clause-first g c = if_some_weaker c.next.result
    (λ n first k r from below is.
    c.len.ensures.left k r (subst (λ t. slice_get t.states.calls.items k ≡ Some r) (sym c.self.view_is) is) (sym (c.self.invariant.kept.each k) ∙ first k from below))
    c.next.ensures.first

pub returns-clause-none : goal.returns-clause-none
returns-clause-none g c = if_none_weaker c.next.result
    (λ none k r from is.
    c.len.ensures.left k r (subst (λ t. slice_get t.states.calls.items k ≡ Some r) (sym c.self.view_is) is) (sym (c.self.invariant.kept.each k) ∙ none k from))
    c.next.ensures.none
