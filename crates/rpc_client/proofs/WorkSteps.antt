-- What the work of a client leaves, and what it hands on.
use Rattle.std.proofs.Common.{◌≡◌, ℕ, Option, Some, None, Result, Ok, Err, IfSome, List, sym, ap, ◌∙◌, subst, inl, inr}
use Rattle.rpc_ids.specs.declared.method.Role.TheVariants.{Client}
use Rattle.rpc_packet.specs.declared.owned.Packet.{Packet}
use Rattle.rpc_handlers.specs.declared.event.Event.{Event}
use Rattle.rpc_handlers.specs.declared.event.Memo.{Memo}
use Rattle.rpc_handlers.specs.HandlerRule.{HandlerRule}
use Rattle.rpc_journal.specs.declared.answers.StartRefused.{StartRefused}
use Rattle.rpc_journal.specs.declared.answers.StartRefused.TheVariants.{JournalFull, Memory}
use Rattle.rpc_journal.specs.declared.entry.EntryKind.TheVariants.{Finish}
use Rattle.rpc_journal.specs.History.{adding}
use Rattle.rpc_journal.specs.Queues.{taken_event}
use Rattle.rpc_journal.specs.Runs.{IsAnswerOf}
use Rattle.rpc_journal.specs.CallTable.{Table, past}
use Rattle.rpc_journal.specs.Ran.{Ran}
use Rattle.rpc_schedule.specs.Serving.{HasHeard, Serving}
use Rattle.rpc_schedule.specs.ends.EndHolds.{IsEnd, IsKept, kept_call}
use Rattle.rpc_schedule.proofs.ends.CallSteps.{ended}
use Rattle.rpc_schedule.proofs.ends.FedLemmas.{began_heard, ended_heard}
use Rattle.rpc_client.specs.Working.{HandsOn, WorksOn}

-- the call and the event of the run that ended are handed on
pub handed : (rule : HandlerRule) (seed : Memo) (t u : Table) (refused : Option StartRefused) (kept left : Option Ran) (r x : Ran) (call : ℕ) (event : Event)
    → kept ≡ Some r → left ≡ None → Some x ≡ Some (record r { answer = Some r.gives }) → IsEnd Client rule seed t kept refused → IsAnswerOf rule r.run r.gives
    → u.setting ≡ t.setting → u.entries ≡ adding t.entries x.run.seat (Finish x.run.call x.gives) → call ≡ r.run.call → event ≡ r.run.event
    → HandsOn rule (record { table = t; kept = kept_call kept; refused = refused }) (call, event) (record { table = u; kept = kept_call left; refused = refused })
handed rule seed t u refused kept left r x call event some none same is fits set adds call_is event_is =
    let on : IsKept rule t r = subst (λ k. IfSome k (IsKept rule t)) some is.kept_on in
    record {
      ends = ended Client rule seed t u refused kept left r x some none same is fits set adds;
      call = ap kept_call some ∙ ap Some (sym call_is);
      event = ap (λ n. taken_event (past t) n) call_is ∙ on.on.took ∙ ap Some (sym event_is);
    }

-- no packet arrives while a client works
pub works_on_heard : (rule : HandlerRule) (packets : List Packet) (old new : Serving) (result : Result (Option (ℕ × Event)) StartRefused) → WorksOn rule old result new
    → HasHeard packets old → HasHeard packets new
works_on_heard rule packets old new (Ok (Some handed)) (inl run) heard = ended_heard rule packets old new run.ends heard
works_on_heard rule packets old new (Ok (Some handed)) (inr run) heard =
    ended_heard rule packets run.0 new run.2.ends (began_heard packets old run.0 run.1 heard)
works_on_heard rule packets old new (Ok None) none heard = subst (HasHeard packets) (sym none.same) heard
works_on_heard rule packets old new (Err JournalFull) full heard = subst (HasHeard packets) (sym full.same) heard
works_on_heard rule packets old new (Err Memory) (inl same) heard = subst (HasHeard packets) (sym same) heard
works_on_heard rule packets old new (Err Memory) (inr began) heard = began_heard packets old new began heard
