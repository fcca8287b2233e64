-- A table over a Finish.
use Rattle.std.proofs.Common.{◌≡◌, ◌≢◌, ℕ, ◌+◌, ◌<◌, ◌≤◌, Bool, true, false, ◌&&◌, ◌||◌, ◌==◌, List, ◌∷◌, ◌++◌, length, reverse, drop, slice_get, nat_lt, Option, Some, None, is_some, IfSome, IsTrue, if◌then◌else◌, refl, ap, sym, ◌∙◌, subst, arith, eq-eqb, length-append, length-drop}
use Rattle.std.proofs.lemmas.Bool.{true≢false, ltb-false}
use Rattle.std.proofs.lemmas.Option.{slice_get_within}
use Rattle.rpc_channel.specs.Rising.{has_id}
use Rattle.rpc_ids.specs.declared.method.Role.{Role}
use Rattle.rpc_handlers.specs.declared.answer.Answer.{Answer}
use Rattle.rpc_handlers.specs.declared.answer.End.{End}
use Rattle.rpc_handlers.specs.declared.answer.Out.{Out}
use Rattle.rpc_handlers.specs.declared.event.Event.{Event}
use Rattle.rpc_handlers.specs.declared.event.Memo.{Memo}
use Rattle.std.specs.List.{list_any}
use Rattle.rpc_handlers.specs.Limits.{is_long_out, is_long_end}
use Rattle.rpc_handlers.specs.HandlerRule.{HandlerRule}
use Rattle.rpc_journal.specs.declared.table.call_state.CallState.{CallState}
use Rattle.rpc_journal.specs.declared.table.call_states.CallStates.{CallStates}
use Rattle.rpc_journal.specs.declared.entry.EntryKind.TheVariants.{Finish}
use Rattle.rpc_journal.specs.declared.item.Item.{Item}
use Rattle.rpc_journal.specs.declared.setting.Setting.{Setting}
use Rattle.rpc_journal.specs.Calls.{call_count, call_at, runner_of}
use Rattle.rpc_journal.specs.ChangeLaws.{KeepsLegal}
use Rattle.rpc_journal.specs.Changes.{FinishDid, is_spent}
use Rattle.rpc_journal.specs.Effect.{Deed}
use Rattle.rpc_journal.specs.Entries.{finish_effect}
use Rattle.rpc_journal.specs.History.{history, deeds_with, entry_by, adding}
use Rattle.rpc_journal.specs.Items.{flush_count, items_sent}
use Rattle.rpc_journal.specs.Queues.{taken_event}
use Rattle.rpc_journal.specs.Recorded.{Recorded}
use Rattle.rpc_journal.specs.Runs.{Run, IsRunning, IsAnswerOf}
use Rattle.rpc_journal.specs.States.{state_before_run}
use Rattle.rpc_journal.specs.table.Agrees.{AgreesOn}
use Rattle.rpc_journal.specs.table.Touch.{finishing_so, hears_answer, completes_given, end_given, items_given}
use Rattle.rpc_journal.proofs.table.FinishLemmas.{finish_so, finish_touches}
use Rattle.rpc_journal.proofs.KnownLemmas.{run_known}
use Rattle.rpc_journal.proofs.LegalLemmas.{keeps_legal}
use Rattle.rpc_journal.proofs.table.NewestLemmas.{newest_kept}
use Rattle.rpc_journal.proofs.PlaceLemmas.{get_some, some_same}
use Rattle.rpc_journal.proofs.Push.{history-push}
use Rattle.rpc_calls.specs.AnswerItems.{answer_items}
use Rattle.rpc_calls.specs.Handlers.{over_state, Keeps}
use Rattle.rpc_calls.specs.Places.{ChangesAt}
use Rattle.rpc_calls.specs.TableHolds.{StandsFor, IsTable}
use Rattle.rpc_journal.specs.table.Turns.{Turns}
use Rattle.rpc_calls.proofs.CalmSteps.{table_after, queue_grows}
use Rattle.rpc_calls.proofs.FinishSteps.{touches_one, finish_says, few_items, spent_is, room_finished, run_room, keeps_finished}
use Rattle.rpc_calls.proofs.KeepLemmas.{replaced_is}
use Rattle.rpc_calls.proofs.OneStep.{TouchesOne, agrees_one, keeps_one}
use Rattle.rpc_calls.proofs.StateLemmas.{FinishesHandler}
use Rattle.rpc_calls.proofs.StepLemmas.{over_is}

finish_one : (set : Setting) (ds : List Deed) (seat c : ℕ) (a : Answer) (r : CallState) → AgreesOn ds c r
    → TouchesOne (record { entry = entry_by seat (Finish c a); does = finish_effect set ds c a (call_at ds c) }) c (finishing_so (end_given set.role r a.end) (completes_given set.role r a.end))
finish_one set ds seat c a r agrees =
    touches_one _ c _ (finish_touches seat c a (end_given set.role r a.end) (completes_given set.role r a.end) (items_given set.role r a) (finish_effect set ds c a (call_at ds c)) (finish_so set.role set ds c r a agrees refl))

-- the states and items of a table change as the Finish says
pub record EndsRun (role : Role) (c : ℕ) (outs : List Out) (end : Option End) (states after : CallStates) (items items' : List Item) : Type 0 where
  pub says : (r : CallState) → slice_get states.calls.items c ≡ Some r → items' ≡ items ++ answer_items role c r outs end
  pub change : (at : ℕ) (r : CallState) → slice_get states.calls.items c ≡ Some r → ChangesAt c (Turns at (finishing_so (end_given role r end) (completes_given role r end))) states.calls.items after.calls.items
  pub newest : after.newest ≡ states.newest
  pub unflushed : after.unflushed ≡ length items'
  pub input : after.input_ended ≡ states.input_ended
  pub halt : after.halted ≡ states.halted
  pub closed : after.closed.items ≡ states.closed.items

-- and the handlers: that of c comes back, but where c is over or has another one
pub record PutsBack {H : Type 0} (c : ℕ) (h : H) (over : Bool) (handlers later : List (Option H)) (result : Option H) : Type 0 where
  pub many : length later ≡ length handlers
  pub others : (k : ℕ) → k ≢ c → slice_get later k ≡ slice_get handlers k
  pub back : (slot : Option H) → slice_get handlers c ≡ Some slot → is_some result ≡ (over || is_some slot)
  pub it : IfSome result (λ x. x ≡ h)
  pub kept : (slot : Option H) → slice_get handlers c ≡ Some slot → slice_get later c ≡ Some (if over || is_some slot then slot else Some h)

first_false : (a b c : Bool) → (a || b || c) ≡ false → a ≡ false
first_false true b c is = absurd (true≢false is)
first_false false b c is = refl

pub short : (n : ℕ) (b c : Bool) → (nat_lt 512 n || b || c) ≡ false → n ≤ 512
short n b c is = ltb-false 512 n (first_false (nat_lt 512 n) b c is)

module _ {H : Type 0} (now : H → Memo) (can_act : H → Type 0) (rule : HandlerRule) (set : Setting) where
  pub stands_finished : (ds : List Deed) (seat c : ℕ) (a : Answer) (event : Event) (m : Memo) (h : H) (states after : CallStates) (handlers later : List (Option H)) (items items' : List Item) (r x : CallState) (over : Bool) (result : Option H)
      → StandsFor now can_act rule set ds states handlers items → slice_get states.calls.items c ≡ Some r → slice_get after.calls.items c ≡ Some x
      → runner_of ds c ≡ Some seat → taken_event ds c ≡ Some event → (IsTrue rule.ruled → state_before_run rule set ds c ≡ Some m)
      → can_act h → (IsTrue rule.ruled → now h ≡ rule.next m event) → EndsRun set.role c a.items a.end states after items items' → over ≡ over_state x
      → PutsBack c h over handlers later result
      → StandsFor now can_act rule set (deeds_with set ds (entry_by seat (Finish c a))) after later items'
  stands_finished ds seat c a event m h states after handlers later items items' r x over result stands is its runs took had able moved ends same puts =
      let d : Deed = record { entry = entry_by seat (Finish c a); does = finish_effect set ds c a (call_at ds c) } in
      let agrees = stands.agrees.calls.each c r is in
      let one = finish_one set ds seat c a r agrees in
      let changes = ends.change (length ds) r is in
      let there : c < length states.calls.items = slice_get_within _ _ _ is in
      let calls = agrees_one ds d states.calls.items after.calls.items c _ stands.agrees.calls one changes there in
      let own : (c == c) ≡ true = eq-eqb c c refl in
      let says : items_sent (d ∷ ds) ≡ items_sent ds ++ answer_items set.role c r a.items a.end =
      ap (λ xs. items_sent ds ++ xs) (finish_says set ds c r a agrees) in
      let within : flush_count ds ≤ length (items_sent ds) = omega (arith, stands.agrees.items) in
      let queue : items' ≡ drop (flush_count ds) (items_sent (d ∷ ds)) =
      ends.says r is ∙ queue_grows items (items_sent ds) _ (flush_count ds) within stands.queue ∙ ap (drop (flush_count ds)) (sym says) in
      let more : length (items_sent ds) ≤ length (items_sent (d ∷ ds)) =
      omega (arith, ap length says, length-append (items_sent ds) (answer_items set.role c r a.items a.end)) in
      let finishes : FinishesHandler ds d c = record { start = refl; finish = own; replace = refl; opens = ap (λ o. is_some o && (call_count ds == c)) one.unopened } in
      let idle : runner_of (d ∷ ds) c ≡ None = rw own refl in
      record {
        agrees = record {
          calls = calls;
          newest = newest_kept ds d states.newest after.newest stands.agrees.newest one.unopened ends.newest;
          items = omega (arith, ends.unflushed, ap length queue, length-drop (flush_count ds) (items_sent (d ∷ ds)), within, more);
          input = ends.input ∙ stands.agrees.input;
          closed = λ x. ap (λ xs. has_id xs x) ends.closed ∙ stands.agrees.closed x;
          halt = ends.halt ∙ stands.agrees.halt;
        };
        keeps = keeps_one now can_act rule set ds d states.calls.items after.calls.items c _ handlers later stands.agrees.calls calls one changes (λ k apart. refl)
            stands.keeps puts.many puts.others
            (λ slot' there'.
            let slot = get_some handlers c (omega (arith, there, stands.agrees.calls.many, stands.keeps.many)) in
            let same' : (if over || is_some slot.0 then slot.0 else Some h) ≡ slot' = some_same _ slot' (sym (puts.kept slot.0 slot.1) ∙ there') in
            let before = subst (λ o. Keeps now can_act rule set ds c o slot.0) runs (stands.keeps.each c slot.0 slot.1) in
            subst (λ s. Keeps now can_act rule set (d ∷ ds) c (runner_of (d ∷ ds) c) s) same'
            (subst (λ o. Keeps now can_act rule set (d ∷ ds) c o (if over || is_some slot.0 then slot.0 else Some h)) (sym idle)
            (keeps_finished now can_act rule set ds d c seat event m h slot.0 over finishes before took had able moved
            (over_is (d ∷ ds) c x (calls.each c x its) ∙ sym same))));
        queue = queue;
      }

  pub record Finishes (recorded after : Recorded) (run : Run) (a : Answer) (h : H) (states later : CallStates) (left : List (Option H)) (items' : List Item) (capacity : ℕ) (result : Option H) : Type 0 where
    pub table : IsTable now can_act rule set after later left items' capacity
    pub did : FinishDid set run a h result recorded.entries after.entries

  pub table_finished : (recorded after : Recorded) (run : Run) (a : Answer) (h : H) (states later : CallStates) (handlers left : List (Option H)) (items items' : List Item) (capacity capacity' : ℕ) (over : Bool) (result : Option H)
      → IsTable now can_act rule set recorded states handlers items capacity → IsRunning rule set recorded.entries run → IsAnswerOf rule run a
      → can_act h → (IsTrue rule.ruled → now h ≡ rule.next run.state run.event) → EndsRun set.role run.call a.items a.end states later items items'
      → ((x : CallState) → slice_get later.calls.items run.call ≡ Some x → over ≡ over_state x) → PutsBack run.call h over handlers left result
      → capacity' ≡ capacity → after.entries ≡ adding recorded.entries run.seat (Finish run.call a) → after.spare + 1 ≡ recorded.spare
      → Finishes recorded after run a h states later left items' capacity' result
  table_finished recorded after run a h states later handlers left items items' capacity capacity' over result is on answers able moved ends overs puts same adds spent =
      let ds : List Deed = history set recorded.entries in
      let c : ℕ = run.call in
      let below = run_known set (reverse recorded.entries) c run.seat is.legal.lawful.allowed on.unfinished in
      let row = get_some states.calls.items c (omega (arith, below, is.stands.agrees.calls.many)) in
      let changes = ends.change (length ds) row.0 row.1 in
      let it = get_some later.calls.items c (omega (arith, slice_get_within states.calls.items c row.0 row.1, changes.many)) in
      let agrees = is.stands.agrees.calls.each c row.0 row.1 in
      let runs : row.0.run ≡ Some run.seat = sym agrees.run ∙ on.unfinished in
      let stands = stands_finished ds run.seat c a run.event run.state h states later handlers left items items' row.0 it.0 over result is.stands row.1 it.1 on.unfinished on.took on.had able moved ends (overs it.0 it.1) puts in
      let grown : history set after.entries ≡ deeds_with set ds (entry_by run.seat (Finish c a)) = ap (history set) adds ∙ history-push set recorded.entries (entry_by run.seat (Finish c a)) in
      let slot = get_some handlers c (omega (arith, below, is.stands.keeps.many)) in
      let replaced = replaced_is now can_act rule set ds c run.seat slot.0 (subst (λ o. Keeps now can_act rule set ds c o slot.0) on.unfinished (is.stands.keeps.each c slot.0 slot.1)) in
      let did : FinishDid set run a h result recorded.entries after.entries = record {
        adds = adds;
        gives_back = puts.back slot.0 slot.1 ∙ ap (λ b. b || is_some slot.0) (overs it.0 it.1)
            ∙ sym (subst (λ es. is_spent ds es c ≡ (over_state it.0 || is_some slot.0)) (sym grown)
            (spent_is ds _ c (is_some slot.0) it.0 (stands.agrees.calls.each c it.0 it.1) replaced));
        the_one = puts.it;
      } in
      let laws : KeepsLegal H (Unit {0}) = keeps_legal in
      let few : length items' ≤ length items + 513 =
      omega (
        arith,
        ap length (ends.says row.0 row.1),
        length-append items (answer_items set.role c row.0 a.items a.end),
        few_items set.role c row.0.name row.0.method.kind row.0.cancelled (hears_answer row.0) row.0.done a.items a.end,
        short (length a.items) (list_any is_long_out a.items) (is_long_end a.end) answers.limits,
      ) in
      record {
        table = subst (λ n. IsTable now can_act rule set after later left items' n) (sym same)
            (table_after now can_act rule set recorded after run.seat (Finish c a) later left items' capacity adds
            (laws.finish rule set run a h result recorded.entries after.entries is.legal on answers did) stands
            (room_finished (length ds) c _ _ states later items items' row.0 run.seat recorded.spare after.spare capacity is.room (slice_get_within states.calls.items c row.0 row.1) row.1 runs changes ends.input ends.halt few spent));
        did = did;
      }

  -- what the code knows of a run is what the run is
  pub record IsOf (run : Run) (a : Answer) (call seat : ℕ) (answer : Answer) (outs : List Out) (end : Option End) : Type 0 where
    pub call_is : call ≡ run.call
    pub seat_is : seat ≡ run.seat
    pub answer_is : answer ≡ a
    pub outs_is : outs ≡ a.items
    pub end_is : end ≡ a.end

  pub run_finished : (recorded after : Recorded) (run : Run) (a : Answer) (call seat : ℕ) (answer : Answer) (outs : List Out) (end : Option End) (h : H) (states later : CallStates) (handlers left : List (Option H)) (items items' : List Item) (capacity capacity' : ℕ) (over : Bool) (result : Option H)
      → IsTable now can_act rule set recorded states handlers items capacity → IsRunning rule set recorded.entries run → IsAnswerOf rule run a
      → IsOf run a call seat answer outs end
      → can_act h → (IsTrue rule.ruled → now h ≡ rule.next run.state run.event) → EndsRun set.role call outs end states later items items'
      → ((x : CallState) → slice_get later.calls.items call ≡ Some x → over ≡ over_state x) → PutsBack call h over handlers left result
      → capacity' ≡ capacity → after.entries ≡ adding recorded.entries seat (Finish call answer) → after.spare + 1 ≡ recorded.spare
      → Finishes recorded after run a h states later left items' capacity' result
  run_finished recorded after run a call seat answer outs end h states later handlers left items items' capacity capacity' over result is on answers of able moved ends overs puts same adds spent =
      table_finished recorded after run a h states later handlers left items items' capacity capacity' over result is on answers able moved
      (subst (λ n. EndsRun set.role n a.items a.end states later items items') of.call_is
      (subst (λ xs. EndsRun set.role call xs a.end states later items items') of.outs_is (subst (λ e. EndsRun set.role call outs e states later items items') of.end_is ends)))
      (subst (λ n. (x : CallState) → slice_get later.calls.items n ≡ Some x → over ≡ over_state x) of.call_is overs)
      (subst (λ n. PutsBack n h over handlers left result) of.call_is puts)
      same
      (adds ∙ ap (λ n. adding recorded.entries n (Finish call answer)) of.seat_is ∙ ap (λ n. adding recorded.entries run.seat (Finish n answer)) of.call_is
      ∙ ap (λ x. adding recorded.entries run.seat (Finish run.call x)) of.answer_is)
      spent

  -- a run has the room for its answer
  pub finish_room : (recorded : Recorded) (run : Run) (a : Answer) (outs : List Out) (states : CallStates) (handlers : List (Option H)) (items : List Item) (capacity : ℕ)
      → IsTable now can_act rule set recorded states handlers items capacity → IsRunning rule set recorded.entries run → IsAnswerOf rule run a → outs ≡ a.items
      → (length items + length outs < capacity) × (1 ≤ recorded.spare)
  finish_room recorded run a outs states handlers items capacity is on answers same =
      let below = run_known set (reverse recorded.entries) run.call run.seat is.legal.lawful.allowed on.unfinished in
      let row = get_some states.calls.items run.call (omega (arith, below, is.stands.agrees.calls.many)) in
      let runs : row.0.run ≡ Some run.seat = sym (is.stands.agrees.calls.each run.call row.0 row.1).run ∙ on.unfinished in
      let room = run_room states items run.call run.seat row.0 recorded.spare capacity is.room row.1 runs in
      (omega (arith, room.0, ap length same, short (length a.items) (list_any is_long_out a.items) (is_long_end a.end) answers.limits), room.1)
