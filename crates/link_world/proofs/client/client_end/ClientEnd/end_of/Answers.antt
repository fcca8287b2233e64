use Rattle.std.proofs.Common.{◌≡◌, ◌∙◌, ap, arith}
use Rattle.rpc_journal.specs.Calls.{call_count}
use Rattle.rpc_journal.specs.CallTable.{Table, past}
use Rattle.link_world.specs.client.ClientSide.{ClientState}
use Rattle.link_world.proofs.client.EndLemmas.{end_none}
use Rattle.link_world.proofs.client.client_end.ClientEnd.end_of.Goals as goal

pub returns-else-call-count : goal.returns-else-call-count
returns-else-call-count c =
    let count : c.count.result ≡ call_count (past c.args.self.now.end.serving.table) = c.count.ensures ∙ ap (λ (t : Table). call_count (past t)) c.calls-calls.ensures.table
    ∙ ap (λ (s : ClientState). call_count (past s.end.serving.table)) c.self.view_is in
    end_none c.args.self.now.end.serving.table.setting c.args.self.now.end.serving.table.entries c.args.call (λ below. absurd (omega (arith, below, count, c.if-call-count.false)))
