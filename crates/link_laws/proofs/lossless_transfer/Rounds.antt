-- The calls behind a round of the server, and behind the client's work.
use Rattle.std.proofs.Common.{◌≡◌, ℕ, zero, suc, List, [], ◌∷◌, ◌++◌, replicate, option_to_list, ap, sym, ◌∙◌, append_assoc}
use Rattle.std.proofs.lemmas.List.{append-nil}
use Rattle.rpc_ids.specs.declared.method.MethodRef.{MethodRef}
use Rattle.rpc_packet.specs.declared.owned.Packet.{Packet}
use Rattle.rpc_handlers.specs.declared.event.Event.{Event}
use Rattle.rpc_handlers.specs.declared.event.Event.TheVariants.{Message, Request as Asked}
use Rattle.rpc_handlers.specs.declared.event.Memo.{Memo}
use Rattle.rpc_handlers.specs.HandlerRule.{HandlerRule}
use Rattle.rpc_journal.specs.declared.entry.Entry.{Entry}
use Rattle.rpc_journal.specs.declared.entry.EntryKind.TheVariants.{Arrive, Flush}
use Rattle.rpc_journal.specs.declared.setting.Setting.{Setting}
use Rattle.rpc_journal.specs.Calls.{call_count, calls}
use Rattle.rpc_journal.specs.Effect.{Effect, Opening}
use Rattle.rpc_journal.specs.History.{adding, entry_by, history}
use Rattle.rpc_journal.proofs.Push.{history-push}
use Rattle.rpc_schedule.specs.Schedule.{flush_seat, input_seat}
use Rattle.history_laws.specs.rounds.Rounds.{ComesToOpen, ComesToStream, opened_by, with_round}
use Rattle.history_laws.proofs.rounds.PutLemmas.{message_puts, request_opens}
use Rattle.history_laws.proofs.rounds.RoundLemmas.{Puts, message_is_put, ran, ran_deeds, request_is_put}

-- flushes open no call
flush_calls : (set : Setting) (n : ℕ) (h : List Entry) → calls (history set (h ++ replicate n (entry_by flush_seat Flush))) ≡ calls (history set h)
flush_calls set zero h = ap (λ (l : List Entry). calls (history set l)) (append-nil h)
flush_calls set (suc n) h =
    ap (λ (l : List Entry). calls (history set l)) (sym (append_assoc h (entry_by flush_seat Flush ∷ []) (replicate n (entry_by flush_seat Flush))))
    ∙ (flush_calls set n (adding h flush_seat Flush)
    ∙ (ap calls (history-push set h (entry_by flush_seat Flush)) ∙ append-nil (calls (history set h))))

-- a round opens no call but that which its packet opens
round_calls : (rule : HandlerRule) (set : Setting) (h : List Entry) (p : Packet) (c : ℕ) (o : Opening) (m : Memo) (event : Event) (puts : Puts rule set h p c o m event) (n : ℕ)
    → calls (history set (with_round h p c (rule.answer m event) n)) ≡ calls (history set (adding h input_seat (Arrive p)))
round_calls rule set h p c o m event puts n =
    let opened : List Opening = calls (history set h) ++ option_to_list puts.opens in
    flush_calls set n (ran rule set h p c o m event puts)
    ∙ (ap calls (ran_deeds rule set h p c o m event puts)
    ∙ (append-nil (opened ++ []) ∙ (append-nil opened ∙ sym (ap calls puts.deeds))))

-- a message opens none
pub message_calls : (rule : HandlerRule) (set : Setting) (h : List Entry) (c : ℕ) (o : Opening) (m : Memo) (p : Packet) (n : ℕ) → ComesToStream rule set h c o m p
    → calls (history set (with_round h p c (rule.answer m (Message p.payload)) n)) ≡ calls (history set h)
message_calls rule set h c o m p n comes =
    round_calls rule set h p c o m (Message p.payload) (message_is_put rule set h c o m p comes) n
    ∙ (ap calls (history-push set h (entry_by input_seat (Arrive p)))
    ∙ (ap (λ (e : Effect). calls (history set h) ++ option_to_list e.opens) (message_puts rule set (history set h) c o m p comes.stream comes.named comes.type)
    ∙ append-nil (calls (history set h))))

-- a request opens one
pub request_calls : (rule : HandlerRule) (set : Setting) (h : List Entry) (method : MethodRef) (p : Packet) (n : ℕ) → ComesToOpen rule set h method p
    → calls (history set (with_round h p (call_count (history set h)) (rule.answer (rule.first set.seed method) (Asked p.payload)) n)) ≡ calls (history set h) ++ opened_by p method ∷ []
request_calls rule set h method p n comes =
    round_calls rule set h p (call_count (history set h)) (opened_by p method) (rule.first set.seed method) (Asked p.payload) (request_is_put rule set h method p comes) n
    ∙ (ap calls (history-push set h (entry_by input_seat (Arrive p)))
    ∙ ap (λ (e : Effect). calls (history set h) ++ option_to_list e.opens) (request_opens rule set h method p comes))
