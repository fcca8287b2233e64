-- The runs of a client whose handlers answer nothing.
use Rattle.std.proofs.Common.{◌≡◌, ℕ, suc, ◌-◌, Bool, true, false, ◌&&◌, ◌==◌, List, [], ◌∷◌, ◌++◌, length, Option, Some, None, map, slice_get, option_to_list, option_map, if◌then◌else◌, Result, Ok, Err, refl, ap, sym, ◌∙◌, subst, inl, inr, append_assoc, append-nil}
use Rattle.std.specs.Prelude.{option_and_then, OnOk, IfErr}
use Rattle.std.proofs.lemmas.Bool.{and_parts, eq-eqb, eqb-true, not-true}
use Rattle.demo_services.specs.Answers.{empty_answer}
use Rattle.rpc_ids.specs.declared.method.Role.{Role}
use Rattle.rpc_handlers.specs.declared.answer.Answer.{Answer}
use Rattle.rpc_handlers.specs.declared.event.Event.{Event}
use Rattle.rpc_handlers.specs.declared.event.Memo.{Memo}
use Rattle.rpc_journal.specs.declared.answers.StartRefused.{StartRefused}
use Rattle.rpc_journal.specs.declared.answers.StartRefused.TheVariants.{JournalFull}
use Rattle.rpc_journal.specs.declared.entry.Entry.{Entry}
use Rattle.rpc_journal.specs.declared.entry.EntryKind.TheVariants.{Start, Finish}
use Rattle.rpc_journal.specs.declared.setting.Setting.{Setting}
use Rattle.rpc_journal.specs.Calls.{call_at, calls, is_cancelled, of_call}
use Rattle.rpc_journal.specs.Choice.{SomeReady}
use Rattle.rpc_journal.specs.Effect.{Deed, Opening}
use Rattle.rpc_journal.specs.Entries.{answered, end_effect, finish_effect, is_heard, leave_item}
use Rattle.rpc_journal.specs.History.{adding, deeds_with, entry_by, history}
use Rattle.rpc_journal.specs.Items.{flush_count, is_done, is_ready, items_flushed, items_sent, items_waiting}
use Rattle.rpc_journal.specs.Queues.{taken_event, waiting_of}
use Rattle.rpc_journal.specs.Rows.{both_effects, is_closed, no_effect, says_item}
use Rattle.rpc_journal.specs.States.{finished_since}
use Rattle.rpc_journal.proofs.PlaceLemmas.{some_same}
use Rattle.rpc_journal.proofs.Push.{history-push}
use Rattle.rpc_schedule.specs.Schedule.{run_seat}
use Rattle.rpc_schedule.specs.Serving.{Begins, Serving, deeds, with_entry}
use Rattle.rpc_schedule.specs.Settling.{IsOrderly, Stays}
use Rattle.rpc_schedule.proofs.LoopLemmas.{stays_itself, stays_then}
use Rattle.rpc_schedule.proofs.ServingLemmas.{StepsRun, run_history, run_steps}
use Rattle.rpc_client.specs.Working.{HandsOn, WorksOn}
use Rattle.rpc_client.specs.Settling.{HandsOnAll, HandsOnUntil, WorksUntilIdle}
use Rattle.link_laws.specs.world.Client.{RunsTo}
use Rattle.link_laws.specs.world.Setup.{quiet_rule}
use Rattle.link_world.specs.client.Working.{ClientRuns, ClientRunsFull}

-- a run that gave the empty answer does nothing, where its call isn't cancelled
heard_none : (role : Role) (c : ℕ) (o : Opening) (heard done : Bool) → (if heard then end_effect role c o.name o.method.kind done None else no_effect) ≡ no_effect
heard_none role c o true done = refl
heard_none role c o false done = refl

finish_silent : (set : Setting) (ds : List Deed) (c : ℕ) (o : Option Opening) → is_cancelled ds c ≡ false → finish_effect set ds c empty_answer o ≡ no_effect
finish_silent set ds c None kept = refl
finish_silent set ds c (Some o) kept =
    ap (λ b. if b then says_item (leave_item c) else answered set.role c o (is_heard ds c) (is_done ds c) empty_answer) kept
    ∙ ap (both_effects no_effect) (heard_none set.role c o (is_heard ds c) (is_done ds c))

-- the handlers give the empty answer
gives_empty : (state : Option Memo) (event : Option Event) (a : Answer)
    → option_and_then (λ m. option_map (quiet_rule.answer m) event) state ≡ Some a → a ≡ empty_answer
gives_empty None event a is = absurd cc
gives_empty (Some m) None a is = absurd cc
gives_empty (Some m) (Some event) a is = some_same _ _ (sym is)

-- a call that is ready isn't cancelled
ready_kept : (set : Setting) (h : List Entry) (c : ℕ) → is_ready (history set h) c ≡ true → is_cancelled (history set h) c ≡ false
ready_kept set h c ready = not-true _ (and_parts _ _ (and_parts _ _ (and_parts _ _ ready).0).0).1

-- one run, and the event that it took
record OneRun (old : Serving) (handed : ℕ × Event) (new : Serving) : Type 0 where
  steps : StepsRun quiet_rule old new
  calls : calls (deeds new) ≡ calls (deeds old)
  closed : is_closed (deeds new) 1 ≡ is_closed (deeds old) 1
  waiting : items_waiting (deeds new) ≡ items_waiting (deeds old)
  took : (c : ℕ) → finished_since (deeds new) c ≡ finished_since (deeds old) c ++ of_call c (handed ∷ [])

took_by : (same : Bool) (before : List Event) (event : Event) (taken : Option Event) → taken ≡ Some event
    → (if same && same then before ++ option_to_list taken else before) ≡ before ++ (if same then event ∷ [] else [])
took_by true before event taken is = ap (λ t. before ++ option_to_list t) is
took_by false before event taken is = sym (append-nil before)

-- a Start and a Finish without effect
module _ (set : Setting) (ds : List Deed) (c : ℕ) (event : Event) (a : Answer) where
  start : List Deed
  start = deeds_with set ds (entry_by run_seat (Start c))

  done : List Deed
  done = record { entry = entry_by run_seat (Finish c a); does = no_effect } ∷ start

  oldest : List Deed → ℕ → Option Event
  oldest before k = slice_get (map (λ w. w.event) (waiting_of before k)) 0

  start_took : taken_event start c ≡ oldest ds c
  unfolding start oldest
  start_took = ap (λ b. if b then slice_get (map (λ w. w.event) (waiting_of ds c)) 0 else taken_event ds c) (eq-eqb c c refl)

  done_took : oldest ds c ≡ Some event → (k : ℕ) → finished_since done k ≡ finished_since ds k ++ of_call k ((c, event) ∷ [])
  unfolding start done oldest
  done_took taken k = at (c == k) refl
    where
      at : (b : Bool) → (c == k) ≡ b → finished_since done k ≡ finished_since ds k ++ of_call k ((c, event) ∷ [])
      at true same =
          rw same (ap (λ t. finished_since ds k ++ option_to_list t) (subst (λ x. slice_get (map (λ w. w.event) (waiting_of ds x)) 0 ≡ Some event) (eqb-true c k same) taken))
      at false other = rw other (sym (append-nil (finished_since ds k)))

  done_calls : calls done ≡ calls ds
  unfolding start done
  done_calls = append-nil (calls ds ++ []) ∙ append-nil (calls ds)

  done_closed : is_closed done 1 ≡ is_closed ds 1
  unfolding start done
  done_closed = refl

  done_waiting : items_waiting done ≡ items_waiting ds
  unfolding start done
  done_waiting = ap (λ items. length items - flush_count ds) (append-nil (items_sent ds ++ []) ∙ append-nil (items_sent ds))

-- the deeds behind a run that gave the empty answer
run_deeds : (set : Setting) (h : List Entry) (c : ℕ) (event : Event) (a : Answer) → a ≡ empty_answer → is_cancelled (history set h) c ≡ false
    → history set (adding (adding h run_seat (Start c)) run_seat (Finish c a)) ≡ done set (history set h) c event a
unfolding start done
run_deeds set h c event a empty kept =
    run_history set h c a
    ∙ ap (λ does. record { entry = entry_by run_seat (Finish c a); does = does } ∷ deeds_with set (history set h) (entry_by run_seat (Start c)))
    (ap (λ x. finish_effect set (deeds_with set (history set h) (entry_by run_seat (Start c))) c x (call_at (deeds_with set (history set h) (entry_by run_seat (Start c))) c)) empty
    ∙ finish_silent set (deeds_with set (history set h) (entry_by run_seat (Start c))) c (call_at (deeds_with set (history set h) (entry_by run_seat (Start c))) c) kept)

one_run : (old begun new : Serving) (handed : ℕ × Event) → IsOrderly old → Begins old begun → HandsOn quiet_rule begun handed new → OneRun old handed new
unfolding start oldest
one_run old begun new handed orderly begins on =
    at (subst (λ s. HandsOn quiet_rule s handed new) begins.adds on)
  where
    at : HandsOn quiet_rule (record (with_entry old run_seat (Start begins.call)) { kept = Some begins.call }) handed new → OneRun old handed new
    at o =
        let steps = run_steps quiet_rule old begun new orderly begins on.ends in
        let mine : handed.0 ≡ begins.call = some_same _ _ (sym o.call) in
        let same : o.ends.call ≡ begins.call = some_same _ _ (sym o.ends.kept) in
        let empty : o.ends.answer ≡ empty_answer = gives_empty _ _ o.ends.answer (o.ends.by_rule refl) in
        let kept = ready_kept old.table.setting old.table.entries begins.call begins.first.ready in
        let deeds_are : deeds new ≡ done old.table.setting (history old.table.setting old.table.entries) begins.call handed.1 o.ends.answer =
        ap deeds o.ends.adds ∙ (ap (λ k. history old.table.setting (adding (adding old.table.entries run_seat (Start begins.call)) run_seat (Finish k o.ends.answer))) same
        ∙ run_deeds old.table.setting old.table.entries begins.call handed.1 o.ends.answer empty kept) in
        let begun_deeds = history-push old.table.setting old.table.entries (entry_by run_seat (Start begins.call)) in
        let taken = subst (λ k. taken_event (history old.table.setting (adding old.table.entries run_seat (Start begins.call))) k ≡ Some handed.1) mine o.event in
        let first = sym (start_took old.table.setting (deeds old) begins.call handed.1 o.ends.answer) ∙ (ap (λ ds. taken_event ds begins.call) (sym begun_deeds) ∙ taken) in
        record {
          steps = steps;
          calls = ap calls deeds_are ∙ done_calls old.table.setting (deeds old) begins.call handed.1 o.ends.answer;
          closed = ap (λ ds. is_closed ds 1) deeds_are ∙ done_closed old.table.setting (deeds old) begins.call handed.1 o.ends.answer;
          waiting = ap items_waiting deeds_are ∙ done_waiting old.table.setting (deeds old) begins.call handed.1 o.ends.answer;
          took = λ k. ap (λ ds. finished_since ds k) deeds_are
              ∙ (done_took old.table.setting (deeds old) begins.call handed.1 o.ends.answer first k
              ∙ ap (λ x. finished_since (deeds old) k ++ of_call k ((x, handed.1) ∷ [])) (sym mine));
        }

handed_run : (old new : Serving) (handed : ℕ × Event) → IsOrderly old → WorksOn quiet_rule old (Ok (Some handed)) new → OneRun old handed new
handed_run old new handed orderly (inl on) = absurd (kept_none on.call orderly.unkept)
  where
    kept_none : {A : Type 0} {o : Option A} {x : A} → o ≡ Some x → o ≡ None → ⊥
    kept_none some none = absurd cc
handed_run old new handed orderly (inr ran) = one_run old ran.0 new handed orderly ran.1 ran.2

-- runs one after another
record RanSo (old : Serving) (handed : List (ℕ × Event)) (new : Serving) : Type 0 where
  stays : Stays old new
  orderly : IsOrderly new
  calls : calls (deeds new) ≡ calls (deeds old)
  closed : is_closed (deeds new) 1 ≡ is_closed (deeds old) 1
  count : ℕ
  runs : RunsTo quiet_rule old.table.setting count old.table.entries new.table.entries
  same_items : items_flushed (deeds new) ≡ items_flushed (deeds old)
  waiting : items_waiting (deeds new) ≡ items_waiting (deeds old)
  took : (c : ℕ) → finished_since (deeds new) c ≡ finished_since (deeds old) c ++ of_call c handed

of_call_push : (c : ℕ) (x : ℕ × Event) (xs : List (ℕ × Event)) → of_call c (x ∷ []) ++ of_call c xs ≡ of_call c (x ∷ xs)
of_call_push c x xs = at (x.0 == c)
  where
    at : (b : Bool) → (if b then x.1 ∷ [] else []) ++ of_call c xs ≡ (if b then x.1 ∷ of_call c xs else of_call c xs)
    at true = refl
    at false = refl

ran_none : (s : Serving) → IsOrderly s → RanSo s [] s
ran_none s orderly = record {
  stays = stays_itself s;
  orderly = orderly;
  calls = refl;
  closed = refl;
  count = 0;
  runs = refl;
  same_items = refl;
  waiting = refl;
  took = λ c. sym (append-nil (finished_since (deeds s) c));
}

all_run : (handed : List (ℕ × Event)) (old new : Serving) → IsOrderly old → HandsOnAll quiet_rule old handed new → RanSo old handed new
all_run [] old new orderly same = subst (RanSo old []) (sym same) (ran_none old orderly)
all_run (x ∷ handed) old new orderly all =
    let one = handed_run old all.0 x orderly all.1 in
    let rest = all_run handed all.0 new one.steps.orderly all.2 in
    record {
      stays = stays_then old all.0 new one.steps.stays rest.stays;
      orderly = rest.orderly;
      calls = rest.calls ∙ one.calls;
      closed = rest.closed ∙ one.closed;
      count = suc rest.count;
      runs = (all.0.table.entries, one.steps.ran, subst (λ set. RunsTo quiet_rule set rest.count all.0.table.entries new.table.entries) one.steps.stays.setting rest.runs);
      same_items = rest.same_items ∙ one.steps.same_items;
      waiting = rest.waiting ∙ one.waiting;
      took = λ c. rest.took c ∙ (ap (λ events. events ++ of_call c handed) (one.took c)
          ∙ (append_assoc (finished_since (deeds old) c) (of_call c (x ∷ [])) (of_call c handed)
          ∙ ap (λ events. finished_since (deeds old) c ++ events) (of_call_push c x handed)));
    }

-- all ready calls ran
pub client_runs : (old : Serving) (before : List (ℕ × Event)) (new : Serving) (after : List (ℕ × Event)) → IsOrderly old
    → HandsOnUntil quiet_rule (Ok None) old before new after → ClientRuns old before new after
client_runs old before new after orderly u =
    subst (λ s. ClientRuns old before s after) (sym u.stops.same) (at (all_run u.handed old u.now orderly u.all))
  where
    at : RanSo old u.handed u.now → ClientRuns old before u.now after
    at ran = record {
      stays = ran.stays;
      orderly = ran.orderly;
      calls = ran.calls;
      closed = ran.closed;
      run_count = ran.count;
      runs = ran.runs;
      none_ready = u.stops.none_ready;
      same_items = ran.same_items;
      same_waiting = ran.waiting;
      more = u.handed;
      events = u.list;
      took = ran.took;
    }

-- calls ran until one had no room
pub client_runs_full : (old : Serving) (before : List (ℕ × Event)) (new : Serving) (after : List (ℕ × Event)) → IsOrderly old
    → HandsOnUntil quiet_rule (Err JournalFull) old before new after → ClientRunsFull old new
client_runs_full old before new after orderly u =
    subst (ClientRunsFull old) (sym u.stops.same) (at (all_run u.handed old u.now orderly u.all))
  where
    at : RanSo old u.handed u.now → ClientRunsFull old u.now
    at ran = record {
      run_count = ran.count;
      runs = ran.runs;
      stops = record {
        some_ready = subst (λ set. SomeReady (history set u.now.table.entries)) ran.stays.setting u.stops.some_ready;
        full = u.stops.full;
      };
    }

-- what the loop leaves, by how it ended
pub runs_ok : (old : Serving) (before : List (ℕ × Event)) (result : Result (Unit {0}) StartRefused) (new : Serving) (after : List (ℕ × Event)) → IsOrderly old
    → WorksUntilIdle quiet_rule old before result new after → OnOk result (ClientRuns old before new after)
runs_ok old before (Ok _) new after orderly u = client_runs old before new after orderly u
runs_ok old before (Err why) new after orderly u = tt

pub runs_full : (old : Serving) (before : List (ℕ × Event)) (result : Result (Unit {0}) StartRefused) (new : Serving) (after : List (ℕ × Event)) → IsOrderly old
    → WorksUntilIdle quiet_rule old before result new after → IfErr result (λ why. why ≡ JournalFull → ClientRunsFull old new)
runs_full old before (Ok _) new after orderly u = tt
runs_full old before (Err why) new after orderly u = λ is.
    client_runs_full old before new after orderly (subst (λ w. HandsOnUntil quiet_rule (Err w) old before new after) is u)
