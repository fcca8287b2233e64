-- What a step of a server does to its history, as a turn of the schedule.
use Rattle.std.proofs.Common.{◌≡◌, ℕ, ◌+◌, ◌-◌, ◌<◌, ◌≤◌, Bool, true, false, ◌==◌, List, [], ◌∷◌, ◌++◌, length, take, Some, None, if◌then◌else◌, refl, ap, sym, ◌∙◌, subst, arith, length-append}
use Rattle.std.proofs.lemmas.Bool.{true≢false, false≢true, leb-false}
use Rattle.std.proofs.lemmas.List.{append-nil, take-append-le}
use Rattle.std.proofs.lemmas.Option.{slice_get_within}
use Rattle.rpc_handlers.specs.declared.answer.Answer.{Answer}
use Rattle.rpc_handlers.specs.HandlerRule.{HandlerRule}
use Rattle.rpc_journal.specs.declared.entry.Entry.{Entry}
use Rattle.rpc_journal.specs.declared.entry.TheConstants.{MAX_ENTRIES}
use Rattle.rpc_journal.specs.declared.entry.EntryKind.{EntryKind}
use Rattle.rpc_journal.specs.declared.entry.EntryKind.TheVariants.{Start, Finish, Flush}
use Rattle.rpc_journal.specs.declared.item.Item.{Item}
use Rattle.rpc_journal.specs.declared.setting.Setting.{Setting}
use Rattle.rpc_journal.specs.Calls.{runner_of, is_start_of, is_finish_of}
use Rattle.rpc_journal.specs.Choice.{IsFirstReady}
use Rattle.rpc_journal.specs.Effect.{Deed}
use Rattle.rpc_journal.specs.Entries.{effect_of}
use Rattle.rpc_journal.specs.History.{history, adding, entry_by, deeds_with}
use Rattle.rpc_journal.specs.Items.{arrivals, flush_count, input_ended, is_flush, items_flushed, items_sent, items_waiting}
use Rattle.rpc_journal.specs.Refusals.{is_full}
use Rattle.rpc_journal.proofs.Push.{history-push}
use Rattle.rpc_journal.proofs.VerdictLemmas.{take_next}
use Rattle.rpc_journal.proofs.PlaceLemmas.{some_same}
use Rattle.rpc_schedule.specs.OneThread.{takes_room}
use Rattle.rpc_schedule.specs.Schedule.{Flushed, IsByRule, Ran, flush_seat, input_seat, next_item, run_seat}
use Rattle.rpc_schedule.specs.Serving.{Begins, Ends, Gives, Serving, deeds, with_entry}
use Rattle.rpc_schedule.specs.Settling.{IsOrderly, Stays}
use Rattle.rpc_schedule.proofs.EntryLemmas.{arrivals-push, length-push, room-push}

-- one run of a call, as a step
pub record StepsRun (rule : HandlerRule) (old new : Serving) : Type 0 where
  pub stays : Stays old new
  pub orderly : IsOrderly new
  pub same_items : items_flushed (deeds new) ≡ items_flushed (deeds old)
  pub ran : Ran rule old.table.setting old.table.entries new.table.entries
  pub below : length old.table.entries < MAX_ENTRIES
  pub grows : length old.table.entries < length new.table.entries

-- one flush, as a step
pub record StepsFlush (item : Item) (old new : Serving) : Type 0 where
  pub stays : Stays old new
  pub orderly : IsOrderly new
  pub flushed : Flushed old.table.setting old.table.entries new.table.entries
  pub items : items_flushed (deeds new) ≡ items_flushed (deeds old) ++ item ∷ []
  pub fewer : items_waiting (deeds new) < items_waiting (deeds old)

-- the server after a run of c
after_run : Serving → ℕ → Answer → Serving
after_run s c a = record (with_entry (record (with_entry s run_seat (Start c)) { kept = Some c }) run_seat (Finish c a)) { kept = None }

abbrev run_entries : List Entry → ℕ → Answer → List Entry
run_entries h c a = adding (adding h run_seat (Start c)) run_seat (Finish c a)

pub run_history : (set : Setting) (h : List Entry) (c : ℕ) (a : Answer)
    → history set (run_entries h c a) ≡ deeds_with set (deeds_with set (history set h) (entry_by run_seat (Start c))) (entry_by run_seat (Finish c a))
run_history set h c a =
    history-push set (adding h run_seat (Start c)) (entry_by run_seat (Finish c a))
    ∙ ap (λ ds. deeds_with set ds (entry_by run_seat (Finish c a))) (history-push set h (entry_by run_seat (Start c)))

pub run_arrivals : (h : List Entry) (c : ℕ) (a : Answer) → arrivals (run_entries h c a) ≡ arrivals h
run_arrivals h c a =
    arrivals-push (adding h run_seat (Start c)) (entry_by run_seat (Finish c a))
    ∙ (append-nil (arrivals (adding h run_seat (Start c))) ∙ (arrivals-push h (entry_by run_seat (Start c)) ∙ append-nil (arrivals h)))

run_length : (h : List Entry) (c : ℕ) (a : Answer) → length (run_entries h c a) ≡ length h + 2
run_length h c a = omega (arith, length-push (adding h run_seat (Start c)) (entry_by run_seat (Finish c a)), length-push h (entry_by run_seat (Start c)))

run_runs_none : (set : Setting) (ds : List Deed) (c : ℕ) (a : Answer) → ((k : ℕ) → runner_of ds k ≡ None)
    → (k : ℕ) → runner_of (deeds_with set (deeds_with set ds (entry_by run_seat (Start c))) (entry_by run_seat (Finish c a))) k ≡ None
run_runs_none set ds c a none k = at (c == k)
  where
    at : (b : Bool) → (if false then Some run_seat else if b then None else if b then Some run_seat else if false then None else runner_of ds k) ≡ None
    at true = refl
    at false = none k

more_within : {A : Type 0} (n : ℕ) (xs ys : List A) → n ≤ length xs → n ≤ length (xs ++ ys)
more_within n xs ys within = omega (arith, within, length-append xs ys)

pub below_full : (h : List Entry) → is_full h ≡ false → length h < MAX_ENTRIES
below_full h room = leb-false MAX_ENTRIES (length h) room

-- call c runs
step_run : (rule : HandlerRule) (old : Serving) (c : ℕ) (a : Answer) → IsOrderly old → is_full old.table.entries ≡ false → IsFirstReady (deeds old) c
    → IsByRule rule old.table.setting (adding old.table.entries run_seat (Start c)) c a → StepsRun rule old (after_run old c a)
unfolding after_run
step_run rule old c a orderly room first by_rule =
    let set = old.table.setting in
    let h = old.table.entries in
    let ds : List Deed = history set h in
    let says : List Item = (effect_of set (deeds_with set ds (entry_by run_seat (Start c))) (Finish c a)).says in
    let is = run_history set h c a in
    let below = below_full h room in
    let sent : items_sent ds ++ [] ≡ items_sent ds = append-nil (items_sent ds) in
    record {
      stays = record {
        setting = refl;
        refused = refl;
        arrived = run_arrivals h c a;
        input = ap input_ended is;
        longer = omega (arith, run_length h c a);
      };
      orderly = record {
        unkept = refl;
        none_runs = λ k. subst (λ now. runner_of now k ≡ None) (sym is) (run_runs_none set ds c a orderly.none_runs k);
        within = subst (λ now. flush_count now ≤ length (items_sent now)) (sym is)
            (subst (λ items. flush_count ds ≤ length (items ++ says)) (sym sent) (more_within (flush_count ds) (items_sent ds) says orderly.within));
        room = room-push (adding h run_seat (Start c)) (entry_by run_seat (Finish c a)) (room-push h (entry_by run_seat (Start c)) orderly.room (λ takes. below)) (λ takes. absurd (false≢true takes));
      };
      same_items = ap items_flushed is ∙ (ap (λ items. take (flush_count ds) (items ++ says)) sent ∙ take-append-le (flush_count ds) (items_sent ds) says orderly.within);
      ran = record { call = c; answer = a; first = first; by_rule = by_rule; adds = refl };
      below = below;
      grows = omega (arith, run_length h c a);
    }

-- a run that began ends
pub run_steps : (rule : HandlerRule) (old begun new : Serving) → IsOrderly old → Begins old begun → Ends rule begun new → StepsRun rule old new
unfolding after_run
run_steps rule old begun new orderly begins ends = at (subst (λ s. Ends rule s new) begins.adds ends)
  where
    at : Ends rule (record (with_entry old run_seat (Start begins.call)) { kept = Some begins.call }) new → StepsRun rule old new
    at e =
        let same : e.call ≡ begins.call = sym (some_same _ _ e.kept) in
        subst (StepsRun rule old) (sym (e.adds ∙ ap (λ k. record (with_entry (record (with_entry old run_seat (Start begins.call)) { kept = Some begins.call }) run_seat (Finish k e.answer)) { kept = None }) same))
        (step_run rule old begins.call e.answer orderly begins.room begins.first
        (subst (λ k. IsByRule rule old.table.setting (adding old.table.entries run_seat (Start begins.call)) k e.answer) same e.by_rule))

flush_history : (set : Setting) (h : List Entry) → history set (adding h flush_seat Flush) ≡ deeds_with set (history set h) (entry_by flush_seat Flush)
flush_history set h = history-push set h (entry_by flush_seat Flush)

-- the first item that waits is flushed
step_flush : (old : Serving) (item : Item) → IsOrderly old → next_item (deeds old) ≡ Some item → StepsFlush item old (with_entry old flush_seat Flush)
step_flush old item orderly waits =
    let set = old.table.setting in
    let h = old.table.entries in
    let ds : List Deed = history set h in
    let is = flush_history set h in
    let sent : items_sent ds ++ [] ≡ items_sent ds = append-nil (items_sent ds) in
    let below : flush_count ds < length (items_sent ds) = slice_get_within (items_sent ds) (flush_count ds) item waits in
    record {
      stays = record {
        setting = refl;
        refused = refl;
        arrived = arrivals-push h (entry_by flush_seat Flush) ∙ append-nil (arrivals h);
        input = ap input_ended is;
        longer = omega (arith, length-push h (entry_by flush_seat Flush));
      };
      orderly = record {
        unkept = orderly.unkept;
        none_runs = λ k. subst (λ now. runner_of now k ≡ None) (sym is) (orderly.none_runs k);
        within = subst (λ now. flush_count now ≤ length (items_sent now)) (sym is)
            (subst (λ items. flush_count ds + 1 ≤ length items) (sym sent) (omega (arith, below)));
        room = room-push h (entry_by flush_seat Flush) orderly.room (λ takes. absurd (false≢true takes));
      };
      flushed = record { item = item; waits = waits; adds = refl };
      items = ap items_flushed is ∙ (ap (take (flush_count ds + 1)) sent ∙ take_next (items_sent ds) (flush_count ds) item waits);
      fewer = subst (λ now. items_waiting now < items_waiting ds) (sym is)
          (subst (λ items. length items - (flush_count ds + 1) < length (items_sent ds) - flush_count ds) (sym sent) (omega (arith, below)));
    }

pub flush_steps : (old new : Serving) (item : Item) → IsOrderly old → Gives old (Some item) new → StepsFlush item old new
flush_steps old new item orderly gives = subst (StepsFlush item old) (sym gives.1) (step_flush old item orderly gives.0)

-- what an entry of the input does
pub record StepsInput (kind : EntryKind) (old new : Serving) : Type 0 where
  pub orderly : IsOrderly new
  pub same_items : items_flushed (deeds new) ≡ items_flushed (deeds old)

pub input_steps : (old : Serving) (kind : EntryKind) → IsOrderly old → ((k : ℕ) → is_start_of k kind ≡ false) → ((k : ℕ) → is_finish_of k kind ≡ false)
    → is_flush kind ≡ false → (takes_room kind ≡ true → length old.table.entries < MAX_ENTRIES) → StepsInput kind old (with_entry old input_seat kind)
input_steps old kind orderly not_start not_finish not_flush room =
    let set = old.table.setting in
    let h = old.table.entries in
    let ds : List Deed = history set h in
    let e = entry_by input_seat kind in
    let says : List Item = (effect_of set ds kind).says in
    let is = history-push set h e in
    let count : flush_count (deeds_with set ds e) ≡ flush_count ds = ap (λ b. if b then flush_count ds + 1 else flush_count ds) not_flush in
    record {
      orderly = record {
        unkept = orderly.unkept;
        none_runs = λ k. subst (λ now. runner_of now k ≡ None) (sym is) (at (is_start_of k kind) (is_finish_of k kind) k (not_start k) (not_finish k));
        within = subst (λ now. flush_count now ≤ length (items_sent now)) (sym is)
            (subst (λ n. n ≤ length (items_sent ds ++ says)) (sym count) (more_within (flush_count ds) (items_sent ds) says orderly.within));
        room = room-push h e orderly.room room;
      };
      same_items = ap items_flushed is ∙ (ap (λ n. take n (items_sent ds ++ says)) count ∙ take-append-le (flush_count ds) (items_sent ds) says orderly.within);
    }
  where
    at : (b f : Bool) (k : ℕ) → b ≡ false → f ≡ false
        → (if b then Some input_seat else if f then None else runner_of (history old.table.setting old.table.entries) k) ≡ None
    at true f k start finish = absurd (true≢false start)
    at false true k start finish = absurd (true≢false finish)
    at false false k start finish = orderly.none_runs k
