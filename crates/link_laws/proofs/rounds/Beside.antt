-- What the client's work leaves of its streams.
use Rattle.std.proofs.Common.{ℕ, zero, suc, Bool, true, false, List, [], ◌∷◌, drop, Option, Some, None, is_none, if◌then◌else◌, refl, ap, sym, ◌∙◌, subst}
use Rattle.std.proofs.lemmas.List.{append-nil}
use Rattle.rpc_handlers.specs.declared.answer.Out.{Out}
use Rattle.rpc_handlers.specs.declared.event.Memo.{Memo}
use Rattle.rpc_journal.specs.declared.entry.Entry.{Entry}
use Rattle.rpc_journal.specs.declared.entry.EntryKind.TheVariants.{Say}
use Rattle.rpc_journal.specs.declared.item.Item.{Item}
use Rattle.rpc_journal.specs.declared.setting.Setting.{Setting}
use Rattle.rpc_journal.specs.Calls.{call_at}
use Rattle.rpc_journal.specs.Effect.{Deed, Opening}
use Rattle.rpc_journal.specs.Entries.{out_item, with_call}
use Rattle.rpc_journal.specs.History.{adding, entry_by, history}
use Rattle.rpc_journal.specs.Queues.{puts_since, starts_since}
use Rattle.rpc_journal.specs.Refusals.{out_refusal}
use Rattle.rpc_journal.specs.Rows.{says_item}
use Rattle.rpc_journal.proofs.Push.{history-push}
use Rattle.rpc_schedule.specs.Schedule.{run_seat}
use Rattle.history_laws.proofs.rounds.AsideLemmas.{Aside, flushed_aside, run_aside}
use Rattle.history_laws.proofs.rounds.StreamLemmas.{plain_deed, plain-call_at, plain_stream}
use Rattle.link_laws.specs.world.Setup.{quiet_rule}
use Rattle.link_laws.specs.world.World.{Tasked}
use Rattle.link_laws.specs.world.Client.{FlushesTo, RunsTo, all_said_in, said_in, task_said, task_says}
use Rattle.link_laws.specs.rounds.Polls.{StreamsStay}

module _ (set : Setting) (k : ℕ) (o : Opening) (m : Memo) where
  abbrev Stays : List Deed → Type 0
  Stays = Aside quiet_rule set k o m

  says_aside : (ds : List Deed) (c : ℕ) (out : Out) (says : List Item) → Stays ds → Stays (plain_deed (entry_by run_seat (Say c out)) None [] says ∷ ds)
  says_aside ds c out says x = record {
    waits = ap (drop (starts_since ds k)) (append-nil (puts_since ds k)) ∙ x.waits;
    stream = plain_stream ds (entry_by run_seat (Say c out)) None [] says quiet_rule set k o m m x.stream (plain-call_at ds (entry_by run_seat (Say c out)) [] says k) refl refl refl refl x.stream.state;
  }

  call_says : (ds : List Deed) (c : ℕ) (out : Out) (there : Option Opening) → Stays ds
      → Stays (record { entry = entry_by run_seat (Say c out); does = with_call there (λ x. says_item (out_item set.role c x.name out)) } ∷ ds)
  call_says ds c out None x = says_aside ds c out [] x
  call_says ds c out (Some other) x = says_aside ds c out (out_item set.role c other.name out ∷ []) x

  said_aside : (h : List Entry) (c : ℕ) (out : Out) → Stays (history set h) → Stays (history set (said_in set c h out))
  said_aside h c out x = at (is_none (out_refusal set (history set h) c out))
    where
      at : (b : Bool) → Stays (history set (if b then adding h run_seat (Say c out) else h))
      at true = subst Stays (sym (history-push set h (entry_by run_seat (Say c out)))) (call_says (history set h) c out (call_at (history set h) c) x)
      at false = x

  all_said_aside : (outs : List Out) (h : List Entry) (c : ℕ) → Stays (history set h) → Stays (history set (all_said_in set c outs h))
  all_said_aside [] h c x = x
  all_said_aside (out ∷ outs) h c x = all_said_aside outs (said_in set c h out) c (said_aside h c out x)

  task_aside : (now : ℕ) (before ran : List Entry) (task : Option Tasked) → Stays (history set ran) → Stays (history set (task_said set now before ran task))
  task_aside now before ran None x = x
  task_aside now before ran (Some t) x = all_said_aside (task_says set now before ran t) ran t.call x

  runs_aside : (n : ℕ) (h after : List Entry) → RunsTo quiet_rule set n h after → Stays (history set h) → Stays (history set after)
  runs_aside zero h after same x = subst (λ l. Stays (history set l)) (sym same) x
  runs_aside (suc n) h after runs x = runs_aside n runs.0 after runs.2 (run_aside quiet_rule set k o m h runs.0 runs.1 x)

  flushes_aside : (n : ℕ) (h after : List Entry) → FlushesTo set n h after → Stays (history set h) → Stays (history set after)
  flushes_aside zero h after same x = subst (λ l. Stays (history set l)) (sym same) x
  flushes_aside (suc n) h after flushes x = flushes_aside n flushes.0 after flushes.2 (flushed_aside quiet_rule set k o m h flushes.0 flushes.1 x)

pub streams_stay : StreamsStay
streams_stay set now before after task next k o m waits stream s =
    let ran = runs_aside set k o m s.run_count before s.ran s.runs (record { waits = waits; stream = stream }) in
    let said = task_aside set k o m now before s.ran task ran in
    let x = flushes_aside set k o m s.flush_count (task_said set now before s.ran task) after s.flushes said in
    x.stream
