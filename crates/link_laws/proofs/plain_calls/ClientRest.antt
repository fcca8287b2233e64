-- A client that has done its work is at rest.
use Rattle.std.proofs.Common.{◌≡◌, ◌⊎◌, ℕ, zero, suc, ◌-◌, ◌<◌, Bool, true, false, not, ◌&&◌, List, [], ◌∷◌, ◌++◌, drop, length, reverse, Option, Some, None, is_none, option_and_then, option_map, if◌then◌else◌, refl, ap, sym, ◌∙◌, subst, inl, inr, arith}
use Rattle.std.proofs.lemmas.Bool.{lt-ltb}
use Rattle.std.proofs.lemmas.List.{append-nil, length-drop}
use Rattle.rpc_handlers.specs.declared.answer.Answer.{Answer}
use Rattle.rpc_handlers.specs.declared.answer.Out.{Out}
use Rattle.rpc_handlers.specs.declared.event.Event.{Event}
use Rattle.rpc_handlers.specs.declared.event.Memo.{Memo}
use Rattle.rpc_ids.specs.declared.method.Kind.{Kind}
use Rattle.rpc_ids.specs.declared.method.Role.{Role}
use Rattle.rpc_ids.specs.declared.method.Role.TheVariants.{Server, Client}
use Rattle.rpc_packet.specs.declared.call_name.CallName.{CallName}
use Rattle.rpc_journal.specs.declared.entry.Entry.{Entry}
use Rattle.rpc_journal.specs.declared.entry.EntryKind.TheVariants.{Finish, Flush, Say, Start}
use Rattle.rpc_journal.specs.declared.setting.Setting.{Setting}
use Rattle.rpc_journal.specs.Calls.{call_at, is_cancelled, runner_of}
use Rattle.rpc_journal.specs.Effect.{Deed, Opening}
use Rattle.rpc_journal.specs.Entries.{end_effect, finish_effect, is_heard, out_item, with_call}
use Rattle.rpc_journal.specs.History.{adding, deeds_with, entry_by, history}
use Rattle.rpc_journal.specs.Items.{flush_count, halt_reason, is_done, is_ready, items_sent, items_waiting}
use Rattle.rpc_journal.specs.Kinds.{is_empty}
use Rattle.rpc_journal.specs.Lawful.{IsLawful}
use Rattle.rpc_journal.specs.Queues.{puts_since, starts_since, taken_event, waiting_of}
use Rattle.rpc_journal.specs.Refusals.{out_refusal}
use Rattle.rpc_journal.specs.Rows.{no_effect, says_item}
use Rattle.rpc_journal.specs.States.{state_before_run}
use Rattle.rpc_journal.proofs.EndedLemmas.{cancelled_waits_none}
use Rattle.rpc_journal.proofs.PlaceLemmas.{get_none, some_same}
use Rattle.rpc_journal.proofs.Push.{history-push}
use Rattle.rpc_journal.proofs.RunLemmas.{ready_uncancelled}
use Rattle.rpc_schedule.specs.Schedule.{Ran, flush_seat, run_seat}
use Rattle.rpc_schedule.specs.Schedule.Stage.{running}
use Rattle.rpc_schedule.proofs.ServingLemmas.{run_history}
use Rattle.history_laws.specs.rounds.Streams.{IsAtRest}
use Rattle.history_laws.proofs.rounds.RestLemmas.{IsEven, IsIdle, lawful_even, no_event, turn_idle}
use Rattle.history_laws.proofs.rounds.RunLemmas.{none_left, none_ready}
use Rattle.demo_services.specs.Answers.{empty_answer}
use Rattle.link_laws.specs.world.Client.{ClientSettles, FlushesTo, RunsTo, all_said_in, said_in, task_said, task_says}
use Rattle.link_laws.specs.world.Setup.{quiet_rule}
use Rattle.link_laws.specs.world.World.{Tasked}
use Rattle.link_laws.proofs.rounds.Polling.{stays}

module _ (set : Setting) where
  -- A run of a client's call says nothing.
  by_rule : (state : Option Memo) (event : Option Event) (a : Answer) → option_and_then (λ m. option_map (quiet_rule.answer m) event) state ≡ Some a → a ≡ empty_answer
  by_rule None event a is = absurd cc
  by_rule (Some m) None a is = absurd cc
  by_rule (Some m) (Some event) a is = some_same a empty_answer (sym is)

  ends_nothing : (role : Role) (c : ℕ) (name : CallName) (kind : Kind) (done heard : Bool)
      → (if heard then end_effect role c name kind done None else no_effect).says ≡ []
  ends_nothing role c name kind done false = refl
  ends_nothing Server c name kind done true = refl
  ends_nothing Client c name kind done true = refl

  finish_says : (ds : List Deed) (c : ℕ) (there : Option Opening) → is_cancelled ds c ≡ false → (finish_effect set ds c empty_answer there).says ≡ []
  finish_says ds c None uncut = refl
  finish_says ds c (Some o) uncut = rw uncut (ends_nothing set.role c o.name o.method.kind (is_done ds c) (is_heard ds c))

  -- as many items wait after a run as before
  run_waiting : (h after : List Entry) → Ran quiet_rule set h after → items_waiting (history set after) ≡ items_waiting (history set h)
  run_waiting h after ran =
      let ds : List Deed = history set h in
      let c : ℕ = ran.call in
      let begun : List Deed = deeds_with set ds (entry_by run_seat (Start c)) in
      let empty : ran.answer ≡ empty_answer = by_rule (state_before_run quiet_rule set (history set (adding h run_seat (Start c))) c) (taken_event (history set (adding h run_seat (Start c))) c) ran.answer (ran.by_rule refl) in
      let silent : (finish_effect set begun c ran.answer (call_at begun c)).says ≡ [] =
      ap (λ a. (finish_effect set begun c a (call_at begun c)).says) empty ∙ finish_says begun c (call_at begun c) (ready_uncancelled ds c ran.first.ready) in
      let deeds : history set after ≡ deeds_with set begun (entry_by run_seat (Finish c ran.answer)) = ap (history set) ran.adds ∙ run_history set h c ran.answer in
      ap items_waiting deeds
      ∙ (ap (λ says. length ((items_sent ds ++ []) ++ says) - flush_count ds) silent
      ∙ ap (λ items. length items - flush_count ds) (append-nil (items_sent ds ++ []) ∙ append-nil (items_sent ds)))

  runs_waiting : (n : ℕ) (h after : List Entry) → RunsTo quiet_rule set n h after → items_waiting (history set after) ≡ items_waiting (history set h)
  runs_waiting zero h after same = ap (λ l. items_waiting (history set l)) same
  runs_waiting (suc n) h after runs = runs_waiting n runs.0 after runs.2 ∙ run_waiting h runs.0 runs.1

  runs_idle : (n : ℕ) (h after : List Entry) → RunsTo quiet_rule set n h after → IsIdle (history set h) → IsIdle (history set after)
  runs_idle zero h after same x = subst (λ l. IsIdle (history set l)) (sym same) x
  runs_idle (suc n) h after runs x = runs_idle n runs.0 after runs.2 (turn_idle quiet_rule set (running h) (running runs.0) runs.1 x)

  -- what its calls take and put is as it was
  record IsAsBefore (a b : List Deed) : Type 0 where
    starts : (c : ℕ) → starts_since b c ≡ starts_since a c
    puts : (c : ℕ) → puts_since b c ≡ puts_since a c
    cut : (c : ℕ) → is_cancelled b c ≡ is_cancelled a c
    runner : (c : ℕ) → runner_of b c ≡ runner_of a c
    halted : halt_reason b ≡ halt_reason a

  as_it_was : (a : List Deed) → IsAsBefore a a
  as_it_was a = record { starts = λ c. refl; puts = λ c. refl; cut = λ c. refl; runner = λ c. refl; halted = refl }

  as_before_then : (a b c : List Deed) → IsAsBefore a b → IsAsBefore b c → IsAsBefore a c
  as_before_then a b c first next = record {
    starts = λ k. next.starts k ∙ first.starts k;
    puts = λ k. next.puts k ∙ first.puts k;
    cut = λ k. next.cut k ∙ first.cut k;
    runner = λ k. next.runner k ∙ first.runner k;
    halted = next.halted ∙ first.halted;
  }

  say_deed : (ds : List Deed) (c : ℕ) (out : Out) (there : Option Opening)
      → IsAsBefore ds (record { entry = entry_by run_seat (Say c out); does = with_call there (λ o. says_item (out_item set.role c o.name out)) } ∷ ds)
  say_deed ds c out None = record { starts = λ k. refl; puts = λ k. append-nil (puts_since ds k); cut = λ k. refl; runner = λ k. refl; halted = refl }
  say_deed ds c out (Some o) = record { starts = λ k. refl; puts = λ k. append-nil (puts_since ds k); cut = λ k. refl; runner = λ k. refl; halted = refl }

  said_as : (h : List Entry) (c : ℕ) (out : Out) → IsAsBefore (history set h) (history set (said_in set c h out))
  said_as h c out = at (is_none (out_refusal set (history set h) c out))
    where
      at : (b : Bool) → IsAsBefore (history set h) (history set (if b then adding h run_seat (Say c out) else h))
      at true = subst (IsAsBefore (history set h)) (sym (history-push set h (entry_by run_seat (Say c out)))) (say_deed (history set h) c out (call_at (history set h) c))
      at false = as_it_was (history set h)

  all_said_as : (c : ℕ) (outs : List Out) (h : List Entry) → IsAsBefore (history set h) (history set (all_said_in set c outs h))
  all_said_as c [] h = as_it_was (history set h)
  all_said_as c (out ∷ outs) h =
      as_before_then (history set h) (history set (said_in set c h out)) (history set (all_said_in set c outs (said_in set c h out))) (said_as h c out) (all_said_as c outs (said_in set c h out))

  task_as : (now : ℕ) (before ran : List Entry) (task : Option Tasked) → IsAsBefore (history set ran) (history set (task_said set now before ran task))
  task_as now before ran None = as_it_was (history set ran)
  task_as now before ran (Some t) = all_said_as t.call (task_says set now before ran t) ran

  flush_as : (ds : List Deed) → IsAsBefore ds (deeds_with set ds (entry_by flush_seat Flush))
  flush_as ds = record { starts = λ k. refl; puts = λ k. append-nil (puts_since ds k); cut = λ k. refl; runner = λ k. refl; halted = refl }

  flushes_as : (n : ℕ) (h after : List Entry) → FlushesTo set n h after → IsAsBefore (history set h) (history set after)
  flushes_as zero h after same = subst (λ l. IsAsBefore (history set h) (history set l)) (sym same) (as_it_was (history set h))
  flushes_as (suc n) h after flushes =
      as_before_then (history set h) (history set flushes.0) (history set after)
      (subst (λ l. IsAsBefore (history set h) (history set l)) (sym flushes.1.adds) (subst (IsAsBefore (history set h)) (sym (history-push set h (entry_by flush_seat Flush))) (flush_as (history set h))))
      (flushes_as n flushes.0 after flushes.2)

  -- The client can do its work: no run is on, nothing was halted, and all that was put is taken or few items wait.
  pub record CanWork (ds : List Deed) : Type 0 where
    pub idle : (c : ℕ) → runner_of ds c ≡ None
    pub unhalted : halt_reason ds ≡ None
    pub room : ((c : ℕ) → starts_since ds c ≡ length (puts_since ds c)) ⊎ (items_waiting ds < 65536)

  pub client_rests : (now : ℕ) (before : List Entry) (task : Option Tasked) (after : List Entry) (next : Option Tasked) → ClientSettles set now before task after next
      → CanWork (history set before) → IsLawful set after → IsAtRest (history set after)
  client_rests now before task after next s can lawful = record {
    taken = taken;
    idle = λ c. kept.runner c ∙ idle.idle c;
    flushed = omega (arith, even.within, get_none (items_sent (history set after)) (flush_count (history set after)) s.none_waits);
    unhalted = kept.halted ∙ idle.unhalted;
  }
    where
      ran : List Deed
      ran = history set s.ran

      idle : IsIdle ran
      idle = runs_idle s.run_count before s.ran s.runs (record { idle = can.idle; unhalted = can.unhalted })

      kept : IsAsBefore ran (history set after)
      kept =
          as_before_then ran (history set (task_said set now before s.ran task)) (history set after) (task_as now before s.ran task)
          (flushes_as s.flush_count (task_said set now before s.ran task) after s.flushes)

      even : IsEven (history set after)
      even = lawful_even set (reverse after) lawful.allowed

      -- once few items wait nothing waits for a call
      unready_waits : items_waiting ran < 65536 → (c : ℕ) → (b : Bool) → is_cancelled (history set after) c ≡ b → waiting_of (history set after) c ≡ []
      unready_waits few c true cut = cancelled_waits_none set (reverse after) c lawful.allowed cut
      unready_waits few c false going =
          let uncut : is_cancelled ran c ≡ false = sym (kept.cut c) ∙ going in
          let ready : is_ready ran c ≡ (not (is_empty (waiting_of ran c)) && true && true && true && true) =
          rw (idle.idle c, uncut, lt-ltb (items_waiting ran) 65536 few, idle.unhalted) refl in
          let none : waiting_of ran c ≡ [] = no_event (waiting_of ran c) (sym ready ∙ s.none_ready c) in
          ap (λ n. drop n (puts_since (history set after) c)) (kept.starts c) ∙ (ap (drop (starts_since ran c)) (kept.puts c) ∙ none)

      all_taken : ((c : ℕ) → starts_since (history set before) c ≡ length (puts_since (history set before) c)) → s.ran ≡ before
      all_taken each = stays set s.run_count before s.ran (λ c. none_ready (history set before) c (none_left (history set before) c (each c))) s.runs

      by_room : ((c : ℕ) → starts_since (history set before) c ≡ length (puts_since (history set before) c)) ⊎ (items_waiting (history set before) < 65536)
          → (c : ℕ) → starts_since (history set after) c ≡ length (puts_since (history set after) c)
      by_room (inl each) c =
          kept.starts c ∙ (ap (λ l. starts_since (history set l) c) (all_taken each) ∙ (each c
          ∙ (ap (λ l. length (puts_since (history set l) c)) (sym (all_taken each)) ∙ ap length (sym (kept.puts c)))))
      by_room (inr few) c =
          let little : items_waiting ran < 65536 = omega (arith, few, runs_waiting s.run_count before s.ran s.runs) in
          omega (arith, even.tells.even c, ap length (unready_waits little c (is_cancelled (history set after) c) refl), length-drop (starts_since (history set after) c) (puts_since (history set after) c))

      taken : (c : ℕ) → starts_since (history set after) c ≡ length (puts_since (history set after) c)
      taken c = by_room can.room c
