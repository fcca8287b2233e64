use Rattle.std.proofs.Common.{◌≡◌, ◌∙◌, ◌&&◌, reverse, ap, sym, subst}
use Rattle.rpc_journal.specs.Calls.{call_count}
use Rattle.rpc_journal.specs.Items.{input_ended}
use Rattle.rpc_journal.specs.Kinds.{is_empty}
use Rattle.rpc_journal.specs.Queues.{waiting_of}
use Rattle.rpc_journal.specs.Quiet.{all_below, is_settled, none_runs}
use Rattle.rpc_journal.specs.CallTable.{past}
use Rattle.rpc_calls.proofs.StillLemmas.{settled_is}
use Rattle.rpc_calls.proofs.calls.Calls.settled.Goals as goal

pub returns : goal.returns
returns g c =
    subst (λ t. c.is_settled.result ≡ is_settled (past t)) c.self.view_is
    (c.is_settled.ensures ∙ ap (λ b. b && c.is_empty-flushed.result) (subst (λ t. c.idle-idle.result ≡ (input_ended (past t) && none_runs (past t) && all_below (call_count (past t)) (λ k. is_empty (waiting_of (past t) k)))) (sym c.self.view_is) c.idle-idle.ensures)
    ∙ settled_is g.H.Acts.now g.H.Acts.can_act g.H.Handler.rule c.self.inside.setting (reverse c.self.inside.journal.entries) c.self.inside.calls.states c.self.inside.calls.handlers c.self.inside.items.items _ _
    c.self.invariant.legal.lawful.allowed c.self.invariant.stands c.self.inside.items.ok.0 c.is_empty-flushed.ensures)
