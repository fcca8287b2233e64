use Rattle.std.proofs.Common.{◌≡◌, ◌<◌, ◌∙◌, ◌+◌, length, refl, ap, sym, subst, arith}
use Rattle.std.proofs.lemmas.Bool.{le-leb}
use Rattle.rpc_packet.specs.declared.call_name.CallName.{CallName}
use Rattle.rpc_handlers.specs.HandlerRule.{empty_memo}
use Rattle.rpc_journal.specs.declared.entry.EntryKind.TheVariants.{Invoke}
use Rattle.rpc_journal.specs.Calls.{call_count}
use Rattle.rpc_journal.specs.CallTable.{Table, past}
use Rattle.rpc_journal.specs.History.{adding}
use Rattle.rpc_schedule.specs.Schedule.{run_seat}
use Rattle.rpc_schedule.specs.Serving.{Serving, deeds}
use Rattle.link_laws.specs.world.Starts.{request}
use Rattle.link_world.proofs.server.RestLemmas.{entered_is}
use Rattle.link_world.specs.client.Asking.{ClientAdds}
use Rattle.link_world.proofs.client.AskLemmas.{adds_one, invoke_full, invoked_there}
use Rattle.link_world.proofs.RoomLemmas.{invoked_unfull}
use Rattle.rpc_journal.specs.Rows.{method_named}
use Rattle.link_world.proofs.client.NumberLemmas.{calls_within, invoke_cause, invoked_opens}
use Rattle.link_world.proofs.client.IdleLemmas.{invoke_says}
use Rattle.std.proofs.Common.{[], ◌∷◌}
use Rattle.link_laws.specs.world.Starts.{opens_with}
use Rattle.link_world.proofs.client.AskLemmas.{few_added}
use Rattle.std.proofs.Common.{List}
use Rattle.rpc_journal.specs.declared.entry.Entry.{Entry}
use Rattle.rpc_journal.specs.declared.setting.Setting.{Setting}
use Rattle.rpc_journal.specs.History.{history}
use Rattle.link_laws.specs.one_run.Speaking.{IsSpeaking, opening_by}
use Rattle.link_laws.specs.world.Starts.{next_name}
use Rattle.link_laws.proofs.one_run.Speaking.{opened_speaks}
use Rattle.link_world.proofs.client.asking.open.Goals as goal

pub returns-in-Ok-clause-there : goal.returns-in-Ok-clause-there
returns-in-Ok-clause-there c =
    let old = c.args.client.now in
    let name : CallName = record { channel = 1; service = c.args.service; method = c.args.method; call = c.in-Some.id } in
    let is = entered_is old c.invoke.new.self run_seat (Invoke (request name c.args.payload) empty_memo) c.in-Ok.ensures.aside c.in-Ok.ensures.did.adds in
    subst (λ n. n < call_count (deeds c.invoke.new.self.serving)) (sym c.in-Ok.ensures.did.answer)
    (subst (λ (s : Serving). call_count (deeds old.serving) < call_count (deeds s)) (sym is)
    (invoked_there old.serving.table.setting old.serving.table.entries (request name c.args.payload) empty_memo c.in-Ok.ensures.did.unrefused))

pub returns-in-Ok-clause-adds : goal.returns-in-Ok-clause-adds
returns-in-Ok-clause-adds c =
    let old = c.args.client.now in
    let id : c.in-Some.id ≡ call_count (deeds old.serving) + 1 =
    c.in-Some.ensures.1 ∙ ap (λ n. n + 1) (c.count.ensures ∙ ap (λ (t : Table). call_count (past t)) c.calls.ensures.table) in
    subst (λ n. ClientAdds old.serving (adding old.serving.table.entries run_seat (Invoke (request (record { channel = 1; service = c.args.service; method = c.args.method; call = n }) c.args.payload) empty_memo)) c.invoke.new.self.serving) id
    (adds_one old c.invoke.new.self (Invoke (request (record { channel = 1; service = c.args.service; method = c.args.method; call = c.in-Some.id }) c.args.payload) empty_memo)
    c.in-Ok.ensures.aside c.in-Ok.ensures.did.adds c.requires.orderly
    (invoked_unfull old.serving.table.setting old.serving.table.entries (record { channel = 1; service = c.args.service; method = c.args.method; call = c.in-Some.id }) c.in-Ok.ensures.did.unrefused) (λ k. refl) (λ k. refl) (λ k. refl) refl refl refl (invoke_says old.serving.table.setting (deeds old.serving) (request (record { channel = 1; service = c.args.service; method = c.args.method; call = c.in-Some.id }) c.args.payload) empty_memo) refl
    (invoked_opens (deeds old.serving) (request (record { channel = 1; service = c.args.service; method = c.args.method; call = c.in-Some.id }) c.args.payload) empty_memo
    (method_named old.serving.table.setting (record { channel = 1; service = c.args.service; method = c.args.method; call = c.in-Some.id })) id))

pub returns-in-JournalFull-clause-full : goal.returns-in-JournalFull-clause-full
returns-in-JournalFull-clause-full c = λ same.
    invoke_full c.args.client.now.serving.table.setting c.args.client.now.serving.table.entries
    (record { channel = 1; service = c.args.service; method = c.args.method; call = c.in-Some.id }) c.in-Err.refused
    c.in-JournalFull.is c.in-Err.ensures.did.cause

pub returns-in_default-clause-full : goal.returns-in_default-clause-full
returns-in_default-clause-full c = λ same.
    let set = c.args.client.now.serving.table.setting in
    let h = c.args.client.now.serving.table.entries in
    let count = c.count.ensures ∙ ap (λ (t : Table). call_count (past t)) c.calls.ensures.table in
    le-leb 1000000 (length h) (omega (arith, c.in_default.ensures, count, calls_within set h))

pub unreachable-requires : goal.unreachable-requires
unreachable-requires c =
    let old = c.args.client.now.serving in
    let name : CallName = record { channel = 1; service = c.args.service; method = c.args.method; call = c.in-Some.id } in
    let id : c.in-Some.id ≡ call_count (deeds old) + 1 =
    c.in-Some.ensures.1 ∙ ap (λ n. n + 1) (c.count.ensures ∙ ap (λ (t : Table). call_count (past t)) c.calls.ensures.table) in
    invoke_cause old.table.setting old.table.entries name c.in-Err.refused c.requires.setting c.requires.numbered c.requires.known refl id
    c.in-Err.ensures.did.cause c.in_default-refused.not-Memory c.in_default-refused.not-JournalFull

pub returns-in-Ok-clause-few : goal.returns-in-Ok-clause-few
returns-in-Ok-clause-few c =
    let old = c.args.client.now.serving in
    let kind = opens_with c.args.service c.args.method c.args.payload (deeds old) in
    few_added old c.invoke.new.self.serving (kind ∷ []) (returns-in-Ok-clause-adds c)

pub returns-in-Ok-clause-speaks : goal.returns-in-Ok-clause-speaks
returns-in-Ok-clause-speaks c = λ m is.
    let old = c.args.client.now.serving in
    let new = c.invoke.new.self.serving in
    let set = old.table.setting in
    let h = old.table.entries in
    let adds = returns-in-Ok-clause-adds c in
    let p = request (next_name c.args.service c.args.method (deeds old)) c.args.payload in
    let o = opening_by p m empty_memo in
    subst (λ n. IsSpeaking (deeds new) n o) (sym c.in-Ok.ensures.did.answer)
    (subst (λ (s : Setting). IsSpeaking (history s new.table.entries) (call_count (history set h)) o) (sym adds.setting)
    (subst (λ (entries : List Entry). IsSpeaking (history set entries) (call_count (history set h)) o) (sym adds.added)
    (opened_speaks set h run_seat p empty_memo m is refl)))
