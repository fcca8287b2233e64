use Rattle.std.proofs.Common.{◌≡◌, Some, None, refl, sym, ◌∙◌}
use Rattle.std.proofs.lemmas.Bool.{le-leb, lt-leb}
use Rattle.rpc_journal.specs.Queues.{messages_waiting}
use Rattle.rpc_journal.proofs.table.KnownStates.{messages_known}
use Rattle.rpc_journal.proofs.table.call_states.CallStates.full_at.Goals as goal

pub returns-then-messages-ge-MAX_WAITING : goal.returns-then-messages-ge-MAX_WAITING
returns-then-messages-ge-MAX_WAITING c = λ ds agrees.
    let many : messages_waiting ds c.args.call ≡ c.messages.result =
    messages_known ds _ c.args.call (Some c.in-Some.state.now) agrees.calls (sym c.in-Some.ensures) ∙ sym c.messages.ensures in
    rw (many, le-leb 64 c.messages.result c.if-messages-ge-MAX_WAITING.true) refl

pub returns-else-messages-ge-MAX_WAITING : goal.returns-else-messages-ge-MAX_WAITING
returns-else-messages-ge-MAX_WAITING c = λ ds agrees.
    let many : messages_waiting ds c.args.call ≡ c.messages.result =
    messages_known ds _ c.args.call (Some c.in-Some.state.now) agrees.calls (sym c.in-Some.ensures) ∙ sym c.messages.ensures in
    rw (many, lt-leb 64 c.messages.result c.if-messages-ge-MAX_WAITING.false) refl

pub returns-in-None : goal.returns-in-None
returns-in-None c = λ ds agrees. rw (messages_known ds _ c.args.call None agrees.calls (sym c.in-None.ensures)) refl
