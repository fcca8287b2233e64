use Rattle.std.proofs.Common.{reverse, sym, subst}
use Rattle.rpc_journal.specs.History.{history}
use Rattle.rpc_journal.specs.Items.{items_sent}
use Rattle.rpc_journal.specs.Lawful.{IsLawful, IsLegal}
use Rattle.rpc_journal.specs.Laws.{SaysNoMoreOf}
use Rattle.rpc_journal.proofs.EndLemmas.{ends_once}
use Rattle.rpc_journal.proofs.PacketLemmas.{no_packet_after_end}
use Rattle.rpc_journal.proofs.Push.{beginning_is_legal}
use Rattle.rpc_calls.proofs.calls.Calls.into_journal.Goals as goal

pub returns-clause-beginnings : goal.returns-clause-beginnings
returns-clause-beginnings g c = λ h begins.
    beginning_is_legal g.H.Handler.rule c.args.self.setting h c.args.self.entries begins
    (subst (λ t. IsLegal g.H.Handler.rule t.setting t.entries) c.self.view_is c.self.invariant.legal)

pub returns-clause-once : goal.returns-clause-once
returns-clause-once g c = λ call. ends_once c.args.self.setting (reverse c.args.self.entries) call

pub returns-clause-silent : goal.returns-clause-silent
returns-clause-silent g c = λ h more call same ended.
    let legal = subst (λ t. IsLegal g.H.Handler.rule t.setting t.entries) c.self.view_is c.self.invariant.legal in
    subst (λ es. SaysNoMoreOf call (items_sent (history c.args.self.setting h)) (items_sent (history c.args.self.setting es))) same
    (no_packet_after_end c.args.self.setting h more call (subst (IsLawful c.args.self.setting) (sym same) legal.lawful) ended)
