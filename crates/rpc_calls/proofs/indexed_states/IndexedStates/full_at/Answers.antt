use Rattle.std.proofs.Common.{◌≡◌, ◌∙◌, Some, not, count_by, slice_get, refl, ap, sym}
use Rattle.std.proofs.lemmas.Bool.{le-leb, lt-leb}
use Rattle.rpc_journal.specs.declared.table.call_state.CallState.{CallState}
use Rattle.rpc_journal.specs.Queues.{is_ended, messages_waiting}
use Rattle.rpc_journal.proofs.table.KnownStates.{messages_known}
use Rattle.rpc_calls.proofs.FactSteps.{none_told}
use Rattle.rpc_calls.proofs.indexed_states.IndexedStates.full_at.Goals as goal

pub returns-then-messages-ge-MAX_WAITING : goal.returns-then-messages-ge-MAX_WAITING
returns-then-messages-ge-MAX_WAITING g c = λ ds agrees.
    let many : messages_waiting ds c.args.call ≡ c.messages.result =
    messages_known ds _ c.args.call (Some c.in-Some.state.now) agrees.calls c.in-Some.ensures.state ∙ sym c.messages.ensures in
    rw (many, le-leb 64 c.messages.result c.if-messages-ge-MAX_WAITING.true) refl

pub returns-else-messages-ge-MAX_WAITING : goal.returns-else-messages-ge-MAX_WAITING
returns-else-messages-ge-MAX_WAITING g c = λ ds agrees.
    let many : messages_waiting ds c.args.call ≡ c.messages.result =
    messages_known ds _ c.args.call (Some c.in-Some.state.now) agrees.calls c.in-Some.ensures.state ∙ sym c.messages.ensures in
    rw (many, lt-leb 64 c.messages.result c.if-messages-ge-MAX_WAITING.false) refl

pub returns-in-None : goal.returns-in-None
returns-in-None g c = λ ds agrees.
    rw (messages_known ds _ c.args.call _ agrees.calls refl
    ∙ none_told 0 (λ (r : CallState). count_by (λ w. not (is_ended w.event)) r.waiting.items) (slice_get c.args.self.now.states.calls.items c.args.call)
    (λ r is. ap (count_by (λ w. not (is_ended w.event))) (c.in-None.ensures.left r is).empty)) refl
