use Rattle.std.proofs.Common.{◌≡◌, ◌∙◌, ◌<◌, ◌≤◌, length, reverse, ap, sym, subst, arith}
use Rattle.rpc_journal.specs.Calls.{call_count}
use Rattle.rpc_journal.specs.Queues.{waiting_of}
use Rattle.rpc_journal.specs.CallTable.{past}
use Rattle.rpc_journal.proofs.PlaceLemmas.{get_some}
use Rattle.rpc_journal.proofs.WaitLemmas.{few_waiting}
use Rattle.rpc_calls.proofs.calls.Calls.waiting.Goals as goal

pub count_waiting-requires : goal.count_waiting-requires
count_waiting-requires g c =
    subst (λ ws. length ws ≤ 65)
    (c.self.invariant.stands.agrees.calls.each _ _ c.in-Some.ensures.state).waiting
    (few_waiting c.self.inside.setting (reverse c.self.inside.journal.entries) c.args.call c.self.invariant.legal.lawful.allowed)

pub returns-in-Some : goal.returns-in-Some
returns-in-Some g c =
    subst (λ t. c.count_waiting.result ≡ length (waiting_of (past t) c.args.call)) c.self.view_is
    (c.count_waiting.ensures ∙ ap length (sym (c.self.invariant.stands.agrees.calls.each _ _ c.in-Some.ensures.state).waiting))

pub returns-in-None : goal.returns-in-None
returns-in-None g c =
    let below = subst (λ t. c.args.call < call_count (past t)) (sym c.self.view_is) c.requires.below in
    let row = get_some c.self.inside.calls.states.calls.items c.args.call (omega (arith, below, c.self.invariant.stands.agrees.calls.many)) in
    subst (λ t. 0 ≡ length (waiting_of (past t) c.args.call)) c.self.view_is
    (sym (ap length ((c.self.invariant.stands.agrees.calls.each _ _ row.1).waiting ∙ (c.in-None.ensures.left row.0 row.1).empty)))
