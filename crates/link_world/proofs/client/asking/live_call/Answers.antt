use Rattle.std.proofs.Common.{◌≡◌, ◌<◌, ◌∙◌, ◌==◌, ◌&&◌, not, [], ◌∷◌, ◌++◌, Some, is_none, if◌then◌else◌, option_map, length, take, ap, sym, subst, arith, append-nil}
use Rattle.demo_services.specs.Methods.{transfer_id}
use Rattle.rpc_packet.specs.declared.call_name.CallName.{CallName}
use Rattle.rpc_journal.specs.Calls.{call_at, calls, end_of, ends_of, has_end}
use Rattle.rpc_journal.specs.CallTable.{Table, past}
use Rattle.rpc_journal.specs.Effect.{Opening}
use Rattle.rpc_journal.specs.Entries.{made_from}
use Rattle.rpc_journal.proofs.PlaceLemmas.{some_same}
use Rattle.rpc_schedule.specs.Serving.{deeds}
use Rattle.link_laws.specs.world.Starts.{is_transfer_by}
use Rattle.link_world.proofs.server.MadeLemmas.{first_of_all, made_all, made_more, stands_at}
use Rattle.link_world.proofs.client.AskLemmas.{live_is}
use Rattle.link_world.proofs.client.asking.live_call.Goals as goal

pub returns-then-is_open_transfer-clause-first : goal.returns-then-is_open_transfer-clause-first
returns-then-is_open_transfer-clause-first c =
    let ds = deeds c.args.client.now.serving in
    let cs = calls ds in
    let i = c.calls.call in
    let tab : c.calls-calls.result.now ≡ c.args.client.now.serving.table = c.calls-calls.ensures.table in
    let within : i < length cs = omega (arith, c.calls-test.true, c.count-call-end.ensures, ap (λ (t : Table). length (calls (past t))) tab) in
    let s = stands_at cs i within in
    let named : s.here.name ≡ c.name.result =
    some_same _ _ (ap (option_map (λ (o : Opening). o.name)) (sym s.at) ∙ subst (λ (t : Table). option_map (λ (o : Opening). o.name) (call_at (past t) i) ≡ Some c.name.result) tab c.name.ensures) in
    let live : is_none c.status.result ≡ not (has_end ds i) = ap is_none (c.status.ensures ∙ ap (λ (t : Table). end_of (past t) i) tab) ∙ live_is (ends_of ds i) in
    let is : c.is_open_transfer.result ≡ (is_transfer_by c.args.method s.here && not (has_end ds i)) =
    c.is_open_transfer.ensures ∙ (ap (λ (nm : CallName). ((nm.service == transfer_id) && (nm.method == c.args.method)) && is_none c.status.result) (sym named)
    ∙ ap (λ b. is_transfer_by c.args.method s.here && b) live) in
    sym (first_of_all _ _ _ i (made_all (λ k o. is_transfer_by c.args.method o && not (has_end ds k)) cs i within s.here s.at (sym is ∙ c.if-is_open_transfer.true)) c.calls.invariant)

pub calls-preserved : goal.calls-preserved
calls-preserved c =
    let ds = deeds c.args.client.now.serving in
    let cs = calls ds in
    let i = c.calls.call in
    let tab : c.calls-calls.result.now ≡ c.args.client.now.serving.table = c.calls-calls.ensures.table in
    let within : i < length cs = omega (arith, c.calls-test.true, c.count-call-end.ensures, ap (λ (t : Table). length (calls (past t))) tab) in
    let s = stands_at cs i within in
    let named : s.here.name ≡ c.name.result =
    some_same _ _ (ap (option_map (λ (o : Opening). o.name)) (sym s.at) ∙ subst (λ (t : Table). option_map (λ (o : Opening). o.name) (call_at (past t) i) ≡ Some c.name.result) tab c.name.ensures) in
    let live : is_none c.status.result ≡ not (has_end ds i) = ap is_none (c.status.ensures ∙ ap (λ (t : Table). end_of (past t) i) tab) ∙ live_is (ends_of ds i) in
    let is : c.is_open_transfer.result ≡ (is_transfer_by c.args.method s.here && not (has_end ds i)) =
    c.is_open_transfer.ensures ∙ (ap (λ (nm : CallName). ((nm.service == transfer_id) && (nm.method == c.args.method)) && is_none c.status.result) (sym named)
    ∙ ap (λ b. is_transfer_by c.args.method s.here && b) live) in
    made_more (λ k o. is_transfer_by c.args.method o && not (has_end ds k)) cs i within s.here s.at
    ∙ (ap (λ b. made_from 0 (λ k o. is_transfer_by c.args.method o && not (has_end ds k)) (λ k o. k) (take i cs) ++ (if b then i ∷ [] else [])) (sym is ∙ c.if-is_open_transfer.false)
    ∙ (append-nil (made_from 0 (λ k o. is_transfer_by c.args.method o && not (has_end ds k)) (λ k o. k) (take i cs)) ∙ c.calls.invariant))
