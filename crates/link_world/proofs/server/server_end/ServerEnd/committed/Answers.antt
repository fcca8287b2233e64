use Rattle.std.proofs.Common.{◌≡◌, ◌<◌, ◌∙◌, Some, None, if◌then◌else◌, option_map, length, ap, sym, subst, arith}
use Rattle.rpc_journal.specs.Calls.{call_at, calls, same_name}
use Rattle.rpc_journal.specs.CallTable.{Table, past}
use Rattle.rpc_journal.specs.Effect.{Opening}
use Rattle.rpc_journal.proofs.PlaceLemmas.{some_same}
use Rattle.rpc_schedule.specs.Serving.{deeds}
use Rattle.link_laws.specs.world.Committed.{committed}
use Rattle.link_world.specs.server.ServerSide.{ServerState}
use Rattle.link_world.proofs.server.MadeLemmas.{found_first, found_none, stands_at}
use Rattle.link_world.proofs.server.server_end.ServerEnd.committed.Goals as goal

pub returns-in-Some : goal.returns-in-Some
returns-in-Some c =
    let cs = calls (deeds c.args.self.now.end.serving) in
    let i = c.calls.call in
    let tab : c.calls-calls.result.now ≡ c.args.self.now.end.serving.table = c.calls-calls.ensures.table ∙ ap (λ (s : ServerState). s.end.serving.table) c.self.view_is in
    let within : i < length cs = omega (arith, c.calls-test.true, c.count-call-end.ensures, ap (λ (t : Table). length (calls (past t))) tab) in
    let s = stands_at cs i within in
    let named : s.here.name ≡ c.name.result =
    some_same _ _ (ap (option_map (λ (o : Opening). o.name)) (sym s.at) ∙ subst (λ (t : Table). option_map (λ (o : Opening). o.name) (call_at (past t) i) ≡ Some c.name.result) tab c.name.ensures) in
    let items = c.as_slice.ensures.value ∙ ap (λ (s : ServerState). s.items) c.self.view_is in
    let is = subst (λ xs. c.committed_as.result ≡ (if same_name c.name.result c.args.name then committed xs c.args.session i else None)) items c.committed_as.ensures in
    let here = subst (λ own. c.committed_as.result ≡ (if same_name own c.args.name then committed c.args.self.now.items c.args.session i else None)) (sym named) is in
    sym (found_first (committed c.args.self.now.items c.args.session) (λ k o. same_name o.name c.args.name) cs i within s.here s.at c.calls.invariant c.in-Some.length (sym here ∙ c.in-Some.is))

pub calls-preserved : goal.calls-preserved
calls-preserved c =
    let cs = calls (deeds c.args.self.now.end.serving) in
    let i = c.calls.call in
    let tab : c.calls-calls.result.now ≡ c.args.self.now.end.serving.table = c.calls-calls.ensures.table ∙ ap (λ (s : ServerState). s.end.serving.table) c.self.view_is in
    let within : i < length cs = omega (arith, c.calls-test.true, c.count-call-end.ensures, ap (λ (t : Table). length (calls (past t))) tab) in
    let s = stands_at cs i within in
    let named : s.here.name ≡ c.name.result =
    some_same _ _ (ap (option_map (λ (o : Opening). o.name)) (sym s.at) ∙ subst (λ (t : Table). option_map (λ (o : Opening). o.name) (call_at (past t) i) ≡ Some c.name.result) tab c.name.ensures) in
    let items = c.as_slice.ensures.value ∙ ap (λ (s : ServerState). s.items) c.self.view_is in
    let is = subst (λ xs. c.committed_as.result ≡ (if same_name c.name.result c.args.name then committed xs c.args.session i else None)) items c.committed_as.ensures in
    let here = subst (λ own. c.committed_as.result ≡ (if same_name own c.args.name then committed c.args.self.now.items c.args.session i else None)) (sym named) is in
    found_none (committed c.args.self.now.items c.args.session) (λ k o. same_name o.name c.args.name) cs i within s.here s.at c.calls.invariant (sym here ∙ c.in-None.is)
