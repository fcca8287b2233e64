-- A call that is ready can run, and an event fewer waits then.
use Rattle.std.proofs.Common.{◌≡◌, ℕ, suc, ◌+◌, ◌<◌, ◌≤◌, Bool, true, false, ◌&&◌, ◌==◌, List, [], ◌∷◌, ◌++◌, length, map, fold, slice_get, Option, Some, None, is_some, option_map, option_to_list, reverse, if◌then◌else◌, refl, ap, sym, ◌∙◌, subst, arith, length-append}
use Rattle.std.proofs.lemmas.Bool.{true≢false, false≢true, eqb-true, eq-eqb, eqb-false}
use Rattle.std.specs.List.{list_any}
use Rattle.rpc_handlers.specs.declared.answer.Answer.{Answer}
use Rattle.rpc_handlers.specs.declared.event.Event.{Event}
use Rattle.rpc_handlers.specs.declared.event.Memo.{Memo}
use Rattle.rpc_handlers.specs.HandlerRule.{HandlerRule}
use Rattle.rpc_journal.specs.declared.entry.Entry.{Entry}
use Rattle.rpc_journal.specs.declared.entry.EntryKind.{EntryKind}
use Rattle.rpc_journal.specs.declared.entry.EntryKind.TheVariants.{Start, Finish, Replace}
use Rattle.rpc_journal.specs.declared.setting.Setting.{Setting}
use Rattle.rpc_journal.specs.declared.waiting.Waiting.{Waiting}
use Rattle.rpc_journal.specs.Calls.{call_at, call_count, calls, is_replace_of, is_start_of, of_call}
use Rattle.rpc_journal.specs.Choice.{IsFirstReady}
use Rattle.rpc_journal.specs.Effect.{Deed, Effect, Opening}
use Rattle.rpc_journal.specs.Entries.{finish_effect}
use Rattle.rpc_journal.specs.History.{adding, entry_by, history, deeds_with}
use Rattle.rpc_journal.specs.Items.{flush_count, is_ready, items_sent}
use Rattle.rpc_journal.specs.Kinds.{is_empty}
use Rattle.rpc_journal.specs.Queues.{taken_event, waiting_of}
use Rattle.rpc_journal.specs.Rows.{no_effect}
use Rattle.rpc_journal.specs.States.{finished_since, opened_state, replacing_state, state_before_run, state_set}
use Rattle.rpc_journal.proofs.KnownLemmas.{ready_known, finish-puts}
use Rattle.rpc_journal.proofs.Push.{history-push}
use Rattle.rpc_schedule.specs.Schedule.{Ran, answer_by_rule, run_seat}
use Rattle.rpc_schedule.proofs.ServingLemmas.{run_history}
use Rattle.rpc_schedule.proofs.PendingLemmas.{Pending, begun, pending_after, pending_step, some_waits, taking, without}

-- A call that is there has a state.
module _ (rule : HandlerRule) (set : Setting) where
  replaced_state : (c : ℕ) (kind : EntryKind) → is_replace_of c kind ≡ true → (m : Memo) × (replacing_state kind ≡ Some m)
  replaced_state c (Replace x m) is = (m, refl)
  replaced_state c _ is = absurd (false≢true is)

  opened_or_earlier : (ds : List Deed) (c : ℕ) (o : Option Opening) → c < length (calls ds ++ option_to_list o)
      → (c < call_count ds → (m : Memo) × (state_set rule set ds c ≡ Some m))
      → (m : Memo) × ((if is_some o && (call_count ds == c) then option_map (opened_state rule set) o else state_set rule set ds c) ≡ Some m)
  opened_or_earlier ds c None within earlier = earlier (omega (arith, within, length-append (calls ds) []))
  opened_or_earlier ds c (Some o) within earlier = at (call_count ds == c) refl
    where
      at : (b : Bool) → (call_count ds == c) ≡ b
          → (m : Memo) × ((if b then option_map (opened_state rule set) (Some o) else state_set rule set ds c) ≡ Some m)
      at true same = (opened_state rule set o, refl)
      at false apart = earlier (omega (arith, within, length-append (calls ds) (o ∷ []), eqb-false (call_count ds) c apart))

  state_known : (ds : List Deed) (c : ℕ) → c < call_count ds → (m : Memo) × (state_set rule set ds c ≡ Some m)
  state_known [] c below = absurd (omega (arith, below))
  state_known (d ∷ ds) c below = at (is_replace_of c d.entry.kind) refl (opened_or_earlier ds c d.does.opens below (state_known ds c))
    where
      at : (b : Bool) → is_replace_of c d.entry.kind ≡ b
          → (m : Memo) × ((if is_some d.does.opens && (call_count ds == c) then option_map (opened_state rule set) d.does.opens else state_set rule set ds c) ≡ Some m)
          → (m : Memo) × ((if b then replacing_state d.entry.kind
          else if is_some d.does.opens && (call_count ds == c) then option_map (opened_state rule set) d.does.opens else state_set rule set ds c) ≡ Some m)
      at true is other = replaced_state c d.entry.kind is
      at false is other = other

-- an event that waits is there
first_waits : (ws : List Waiting) → is_empty ws ≡ false → (event : Event) × (slice_get (map (λ (w : Waiting). w.event) ws) 0 ≡ Some event)
first_waits [] some = absurd (true≢false some)
first_waits (w ∷ ws) some = (w.event, refl)

-- what the rule answers to the run of a ready call
pub can_answer : (rule : HandlerRule) (set : Setting) (h : List Entry) (c : ℕ) → is_ready (history set h) c ≡ true
    → (answer : Answer) × (answer_by_rule rule set (deeds_with set (history set h) (entry_by run_seat (Start c))) c ≡ Some answer)
can_answer rule set h c ready =
    let ds : List Deed = history set h in
    let start : List Deed = deeds_with set ds (entry_by run_seat (Start c)) in
    let own : (c == c) ≡ true = eq-eqb c c refl in
    let state = state_known rule set ds c (ready_known_here ready) in
    let event = first_waits (waiting_of ds c) (some_waits ds c ready) in
    let now : Memo = fold rule.next state.0 (finished_since ds c) in
    let before : state_before_run rule set start c ≡ Some now = rw own (ap (option_map (λ m. fold rule.next m (finished_since ds c))) state.1) in
    let took : taken_event start c ≡ Some event.0 = rw own event.1 in
    (rule.answer now event.0, rw (before, took) refl)
  where
    ready_known_here : is_ready (history set h) c ≡ true → c < call_count (history set h)
    ready_known_here is = ready_known set (reverse h) c is

-- the oldest event of c is taken
taking_fewer : (c : ℕ) (event : Event) (xs : List (ℕ × Event)) → slice_get (of_call c xs) 0 ≡ Some event → length (taking c xs) + 1 ≡ length xs
taking_fewer c event [] first = absurd cc
taking_fewer c event (x ∷ xs) first = at (x.0 == c) first (taking_fewer c event xs)
  where
    at : (b : Bool) → slice_get (if b then x.1 ∷ of_call c xs else of_call c xs) 0 ≡ Some event
        → (slice_get (of_call c xs) 0 ≡ Some event → length (taking c xs) + 1 ≡ length xs)
        → length (if b then xs else x ∷ taking c xs) + 1 ≡ suc (length xs)
    at true is rest = omega arith
    at false is rest = omega (arith, rest is)

without_fewer : (drops : List ℕ) (xs : List (ℕ × Event)) → length (without drops xs) ≤ length xs
without_fewer drops [] = omega arith
without_fewer drops (x ∷ xs) = at (list_any (λ c. c == x.0) drops) (without_fewer drops xs)
  where
    at : (b : Bool) → length (without drops xs) ≤ length xs → length (if b then without drops xs else x ∷ without drops xs) ≤ suc (length xs)
    at true rest = omega (arith, rest)
    at false rest = omega (arith, rest)

-- these events wait, and no more items were flushed than there are
pub record Stands (ds : List Deed) : Type 0 where
  pub waiting : List (ℕ × Event)
  pub tells : Pending ds waiting
  pub flushed : flush_count ds ≤ length (items_sent ds)

-- a deed that is no Start, and neither drops nor puts an event
pub stands_still : (ds : List Deed) (d : Deed) (w : Stands ds) → ((c : ℕ) → is_start_of c d.entry.kind ≡ false) → d.does.puts ≡ [] → begun d.entry.kind w.waiting ≡ w.waiting
    → flush_count (d ∷ ds) ≤ length (items_sent (d ∷ ds)) → (after : Stands (d ∷ ds)) × (length after.waiting ≤ length w.waiting)
stands_still ds d w not_start none same flushed = (
  record {
    waiting = pending_after d w.waiting;
    tells = pending_step ds d w.waiting w.tells (λ c starts. absurd (false≢true (sym (not_start c) ∙ starts)));
    flushed = flushed;
  },
  rw (none, same) (omega (arith, length-append (without d.does.drops w.waiting) [], without_fewer d.does.drops w.waiting)),
)

-- call c runs
run_stands : (set : Setting) (ds : List Deed) (w : Stands ds) (c : ℕ) (a : Answer) → is_ready ds c ≡ true
    → (after : Stands (deeds_with set (deeds_with set ds (entry_by run_seat (Start c))) (entry_by run_seat (Finish c a)))) × (length after.waiting < length w.waiting)
run_stands set ds w c a ready =
    let start : Deed = record { entry = entry_by run_seat (Start c); does = no_effect } in
    let middle : List Deed = start ∷ ds in
    let effect : Effect = finish_effect set middle c a (call_at middle c) in
    let finish : Deed = record { entry = entry_by run_seat (Finish c a); does = effect } in
    let xs : List (ℕ × Event) = pending_after start w.waiting in
    let event = first_waits (waiting_of ds c) (some_waits ds c ready) in
    let first : slice_get (of_call c w.waiting) 0 ≡ Some event.0 = ap (λ es. slice_get es 0) (w.tells.same c) ∙ event.1 in
    let started : length xs ≤ length (taking c w.waiting) =
    omega (arith, length-append (without [] (taking c w.waiting)) [], without_fewer [] (taking c w.waiting)) in
    let fewer : length xs < length w.waiting = omega (arith, started, taking_fewer c event.0 w.waiting first) in
    let after = stands_still middle finish
    (record {
      waiting = xs;
      tells = pending_step ds start w.waiting w.tells (λ k starts. subst (λ x. is_empty (waiting_of ds x) ≡ false) (eqb-true c k starts) (some_waits ds c ready));
      flushed = omega (arith, w.flushed, length-append (items_sent ds) []);
    })
    (λ k. refl) (finish-puts set middle c a (call_at middle c)) refl
    (omega (arith, w.flushed, length-append (items_sent ds ++ []) effect.says, length-append (items_sent ds) [])) in
    (after.0, omega (arith, after.1, fewer))

-- a call that is first ready runs
pub record RunsOnce (rule : HandlerRule) (set : Setting) (h : List Entry) (w : Stands (history set h)) : Type 0 where
  pub now : List Entry
  pub ran : Ran rule set h now
  pub after : Stands (history set now)
  pub fewer : length after.waiting < length w.waiting

pub run_once : (rule : HandlerRule) (set : Setting) (h : List Entry) (w : Stands (history set h)) (c : ℕ) → IsFirstReady (history set h) c → RunsOnce rule set h w
run_once rule set h w c first =
    let can = can_answer rule set h c first.ready in
    let stands = run_stands set (history set h) w c can.0 first.ready in
    let there = moved (run_history set h c can.0) stands in
    record {
      now = adding (adding h run_seat (Start c)) run_seat (Finish c can.0);
      ran = record {
        call = c;
        answer = can.0;
        first = first;
        by_rule = λ ruled. subst (λ ds. answer_by_rule rule set ds c ≡ Some can.0) (sym (history-push set h (entry_by run_seat (Start c)))) can.1;
        adds = refl;
      };
      after = there.0;
      fewer = there.1;
    }
  where
    moved : {ds now : List Deed} → now ≡ ds → (after : Stands ds) × (length after.waiting < length w.waiting) → (after : Stands now) × (length after.waiting < length w.waiting)
    moved {ds} same there = subst (λ x. (after : Stands x) × (length after.waiting < length w.waiting)) (sym same) there
