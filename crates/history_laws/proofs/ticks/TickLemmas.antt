-- A Tick at a server at rest, and what follows from it.
use Rattle.std.proofs.Common.{◌≡◌, ℕ, zero, suc, ◌+◌, ◌<◌, Bool, true, false, not, nat_le, nat_lt, List, [], ◌∷◌, ◌++◌, length, flat_map, slice_get, reverse, Option, Some, None, option_and_then, option_map, unwrap_or, if◌then◌else◌, refl, ap, sym, ◌∙◌, subst, inr, arith, append_assoc, length-append}
use Rattle.std.proofs.lemmas.Bool.{true≢false, eq-eqb, lt-leb, lt-ltb, leb-true}
use Rattle.std.proofs.lemmas.List.{append-nil}
use Rattle.std.proofs.lemmas.Option.{slice_get_within}
use Rattle.rpc_ids.specs.declared.status.Status.{Status}
use Rattle.rpc_ids.specs.declared.method.Role.TheVariants.{Server}
use Rattle.rpc_handlers.specs.declared.answer.Answer.{Answer}
use Rattle.rpc_handlers.specs.declared.event.Event.{Event}
use Rattle.rpc_handlers.specs.declared.event.Event.TheVariants.{Tick as Ticked}
use Rattle.rpc_handlers.specs.declared.event.Memo.{Memo}
use Rattle.rpc_handlers.specs.HandlerRule.{HandlerRule}
use Rattle.rpc_journal.specs.declared.entry.Entry.{Entry}
use Rattle.rpc_journal.specs.declared.entry.EntryKind.TheVariants.{Finish, Start, Tick}
use Rattle.rpc_journal.specs.declared.item.Item.{Item}
use Rattle.rpc_journal.specs.declared.setting.Setting.{Setting}
use Rattle.rpc_journal.specs.Calls.{call_at, call_count, calls, has_end, is_cancelled, of_call}
use Rattle.rpc_journal.specs.Choice.{GoesBefore, IsFirstReady, first_place, oldest_place}
use Rattle.rpc_journal.specs.Effect.{Deed, Opening}
use Rattle.rpc_journal.specs.Entries.{answer_item, each_from, made_from, messages_go}
use Rattle.rpc_journal.specs.History.{adding, deeds_with, entry_by, history}
use Rattle.rpc_journal.specs.Items.{flush_count, is_done, is_ready, items_sent, items_waiting}
use Rattle.rpc_journal.specs.Kinds.{is_empty}
use Rattle.rpc_journal.specs.Queues.{put_at, puts_since, starts_since, taken_event, waiting_of}
use Rattle.rpc_journal.specs.Rows.{no_effect}
use Rattle.rpc_journal.specs.States.{opened_state, state_before_run, state_of}
use Rattle.rpc_journal.proofs.EndedLemmas.{cancelled_ends}
use Rattle.rpc_journal.proofs.Push.{history-push}
use Rattle.rpc_schedule.specs.Schedule.{Ran, Reaches, Settles, answer_by_rule, flush_seat, run_seat}
use Rattle.rpc_schedule.specs.Schedule.Stage.{running, flushing}
use Rattle.rpc_schedule.proofs.RunOnce.{can_answer}
use Rattle.rpc_schedule.proofs.ScheduleLemmas.{reaches_itself, reaches_then, reaches_turn, settles_same}
use Rattle.history_laws.specs.rounds.Streams.{HasStream, IsAtRest, items_of}
use Rattle.history_laws.proofs.rounds.RunLemmas.{after_flushes, finish_deed, flush_deed, flushes_rest, flushes_sent, flushes_stream, none_ready, start_deed}
use Rattle.history_laws.specs.ticks.Ticks.{IsTicked, LiveCallsAreUncut, TicksAreThere, TicksAtRest, TicksSettle, all_tick_items, all_tick_runs, handler_state, is_ticking, tick_answer, tick_items, tick_run, ticked_state, ticking_calls, with_tick}
use Rattle.history_laws.proofs.rounds.Flushing.{flushed_history, flushes_reach, rest_is_over}
use Rattle.history_laws.proofs.ticks.Halfway.{IsHalfway, halfway_first, halfway_passed, halfway_run, own_state_now, own_waits, the_tick, tick_deed, tick_waiting, waits_past, will_run}
use Rattle.history_laws.proofs.ticks.OwnRun.{own_event, own_state, run_says}
use Rattle.history_laws.proofs.ticks.PutLemmas.{ticks_are_put}

-- at a server what an answer says hangs on the answer alone
same_items : (set : Setting) (a b : List Deed) (c : ℕ) (o : Opening) (answer : Answer) → set.role ≡ Server → items_of set a c o answer ≡ items_of set b c o answer
same_items set a b c o answer server =
    ap (λ role. flat_map (answer_item set.role c o.name (messages_go role o.method.kind true (is_done a c))) answer.items) server
    ∙ sym (ap (λ role. flat_map (answer_item set.role c o.name (messages_go role o.method.kind true (is_done b c))) answer.items) server)

-- a call that is ready has a state
some_state : (rule : HandlerRule) (set : Setting) (h : List Entry) (c : ℕ) → is_ready (history set h) c ≡ true
    → (m : Memo) × (state_of rule set (history set h) c ≡ Some m)
some_state rule set h c ready =
    let can = can_answer rule set h c ready in
    at (state_of rule set (history set h) c) (sym (ap (λ state. option_and_then (λ m. option_map (rule.answer m) (taken_event (start_deed c ∷ history set h) c)) state) (before c)) ∙ can.1)
  where
    before : (k : ℕ) → state_before_run rule set (start_deed k ∷ history set h) k ≡ state_of rule set (history set h) k
    before k = rw (eq-eqb k k refl) refl

    at : {a : Answer} (state : Option Memo) → option_and_then (λ m. option_map (rule.answer m) (taken_event (start_deed c ∷ history set h) c)) state ≡ Some a
        → (m : Memo) × (state ≡ Some m)
    at None is = absurd cc
    at (Some m) is = (m, refl)

-- a call for which the Tick waits, before all that have a higher number
module _ (rule : HandlerRule) (set : Setting) (h : List Entry) (t : ℕ) (ticks : TicksAtRest rule set h t) where
  abbrev ds : List Deed
  ds = history set h

  -- the entries that stand so
  module _ (e : List Entry) (n : ℕ) (said : List Item) (half : IsHalfway rule set ds t n (history set e) said) (few : length said < 65536) where
    abbrev now : List Deed
    now = history set e

    few_waiting : nat_lt (items_waiting now) 65536 ≡ true
    few_waiting = lt-ltb (items_waiting now) 65536 (omega (arith, few, half.flushed, ap length half.sent, length-append (items_sent ds) said))

    module _ (o : Opening) (there : call_at ds n ≡ Some o) (is : is_ticking ds n o ≡ true) where
      abbrev cut : is_cancelled ds n ≡ false
      cut = ticks.uncut n o there is

      waits : waiting_of now n ≡ the_tick ds t ∷ []
      waits = own_waits rule set ds t n now said half o there is cut

      ready : is_ready now n ≡ true
      ready = rw (waits, half.idle n, half.same_cut n ∙ cut, few_waiting, half.unhalted) refl

      -- what waits for other calls was put with it
      place : (k : ℕ) (events : List Event) → put_at (length ds) events ≡ waiting_of now k → is_ready now k ≡ true → oldest_place now k ≡ length ds
      place k [] none readies = absurd (true≢false (sym readies ∙ none_ready now k (sym none)))
      place k (event ∷ events) some readies = ap first_place (sym some)

      goes_before : (k : ℕ) → is_ready now k ≡ true → GoesBefore now n k
      goes_before k readies = at (nat_le n k) refl
        where
          at : (b : Bool) → nat_le n k ≡ b → GoesBefore now n k
          at true later =
              inr (
                ap first_place waits
                    ∙ sym (place k (of_call k (each_from 0 (is_ticking ds) (Ticked t) (calls ds))) (sym (half.waits k ∙ ap (λ b. if b then tick_waiting ds t k else []) later)) readies),
                leb-true n k later,
              )
          at false earlier =
              absurd (true≢false (sym readies ∙ none_ready now k (half.waits k ∙ ap (λ b. if b then tick_waiting ds t k else []) earlier)))

      first : IsFirstReady now n
      first = record { ready = ready; first = goes_before }

      -- it answers by its rule and the state before the Tick
      abbrev answer : Answer
      answer = tick_answer rule set ds t (n, o)

      state : state_of rule set now n ≡ Some (handler_state rule set ds n o)
      state =
          let known = some_state rule set e n ready in
          let before : state_of rule set ds n ≡ Some known.0 = sym (own_state_now rule set ds t n now said half o there is cut) ∙ known.1 in
          known.1 ∙ ap Some (sym (ap (λ state. unwrap_or state (opened_state rule set o)) before))

      answers : answer_by_rule rule set (start_deed n ∷ now) n ≡ Some answer
      answers =
          ap (λ state. option_and_then (λ m. option_map (rule.answer m) (taken_event (start_deed n ∷ now) n)) state)
          (own_state now n o (the_tick ds t) (will_run rule set ds t n now said half o there is cut) rule set ∙ state)
          ∙ ap (option_map (rule.answer (handler_state rule set ds n o))) (own_event now n o (the_tick ds t) (will_run rule set ds t n now said half o there is cut))

      abbrev begun : List Entry
      begun = adding e run_seat (Start n)

      abbrev after : List Entry
      after = adding begun run_seat (Finish n answer)

      begun_deeds : history set begun ≡ start_deed n ∷ now
      begun_deeds = history-push set e (entry_by run_seat (Start n))

      after_deeds : history set after ≡ finish_deed n answer (tick_items rule set ds t (n, o)) ∷ start_deed n ∷ now
      after_deeds =
          history-push set begun (entry_by run_seat (Finish n answer))
          ∙ (ap (λ x. deeds_with set x (entry_by run_seat (Finish n answer))) begun_deeds
          ∙ ap (λ effect. record { entry = entry_by run_seat (Finish n answer); does = effect } ∷ start_deed n ∷ now)
          (run_says now n o (the_tick ds t) (will_run rule set ds t n now said half o there is cut) set ticks.role refl answer (ticks.endless n o there is)
          ∙ ap (λ items. record no_effect { says = items }) (same_items set now ds n o answer ticks.role)))

      runs : Ran rule set e after
      runs = record {
        call = n;
        answer = answer;
        first = first;
        by_rule = λ ruled. subst (λ x. answer_by_rule rule set x n ≡ Some answer) (sym begun_deeds) answers;
        adds = refl;
      }

      half_after : IsHalfway rule set ds t (n + 1) (history set after) (said ++ tick_items rule set ds t (n, o))
      half_after =
          subst (λ x. IsHalfway rule set ds t (n + 1) x (said ++ tick_items rule set ds t (n, o))) (sym after_deeds)
          (halfway_run rule set ds t n now said half o there is cut answer (tick_items rule set ds t (n, o)))

  abbrev calls_from : ℕ → List Opening → List (ℕ × Opening)
  calls_from n os = made_from n (is_ticking ds) (λ c o. (c, o)) os

  abbrev runs_of : List (ℕ × Opening) → List Entry
  runs_of xs = flat_map (tick_run rule set ds t) xs

  abbrev items_by : List (ℕ × Opening) → List Item
  items_by xs = flat_map (tick_items rule set ds t) xs

  -- from these entries on these calls run
  record RunsAll (e : List Entry) (said : List Item) (xs : List (ℕ × Opening)) : Type 0 where
    reach : Reaches rule set (running e) (running (e ++ runs_of xs))
    half : IsHalfway rule set ds t (call_count ds) (history set (e ++ runs_of xs)) (said ++ items_by xs)

  none_run : (e : List Entry) (n : ℕ) (said : List Item) → IsHalfway rule set ds t n (history set e) said → n ≡ call_count ds → RunsAll e said []
  none_run e n said half all = record {
    reach = subst (λ x. Reaches rule set (running e) (running x)) (sym (append-nil e)) (reaches_itself rule set (running e));
    half = subst (λ x. IsHalfway rule set ds t (call_count ds) (history set x) (said ++ [])) (sym (append-nil e))
        (subst (λ x. IsHalfway rule set ds t (call_count ds) (history set e) x) (sym (append-nil said))
        (subst (λ x. IsHalfway rule set ds t x (history set e) said) all half));
  }

  -- the first of them has run, and then the others do
  run_first : (e : List Entry) (n : ℕ) (o : Opening) (said : List Item) (xs : List (ℕ × Opening))
      → Ran rule set e (adding (adding e run_seat (Start n)) run_seat (Finish n (tick_answer rule set ds t (n, o))))
      → RunsAll (adding (adding e run_seat (Start n)) run_seat (Finish n (tick_answer rule set ds t (n, o)))) (said ++ tick_items rule set ds t (n, o)) xs
      → RunsAll e said ((n, o) ∷ xs)
  run_first e n o said xs ran rest = record {
    reach = subst (λ x. Reaches rule set (running e) (running x)) same
        (reaches_then rule set (running e) (running after) (running (after ++ runs_of xs))
        (reaches_turn rule set (running e) (running e) (running after) (reaches_itself rule set (running e)) ran) rest.reach);
    half = subst (λ x. IsHalfway rule set ds t (call_count ds) (history set x) (said ++ items_by ((n, o) ∷ xs))) same
        (subst (λ x. IsHalfway rule set ds t (call_count ds) (history set (after ++ runs_of xs)) x) (append_assoc said (tick_items rule set ds t (n, o)) (items_by xs)) rest.half);
  }
    where
      after : List Entry
      after = adding (adding e run_seat (Start n)) run_seat (Finish n (tick_answer rule set ds t (n, o)))

      same : after ++ runs_of xs ≡ e ++ runs_of ((n, o) ∷ xs)
      same =
          append_assoc (adding e run_seat (Start n)) (entry_by run_seat (Finish n (tick_answer rule set ds t (n, o))) ∷ []) (runs_of xs)
          ∙ append_assoc e (entry_by run_seat (Start n) ∷ []) (entry_by run_seat (Finish n (tick_answer rule set ds t (n, o))) ∷ runs_of xs)

  next_there : (os : List Opening) (o : Opening) (n : ℕ) → ((j : ℕ) → slice_get (o ∷ os) j ≡ call_at ds (n + j)) → (j : ℕ) → slice_get os j ≡ call_at ds (n + 1 + j)
  next_there os o n there j = there (suc j) ∙ ap (call_at ds) (omega arith)

  -- wherever the calls below n have run, these do
  abbrev RunFrom : ℕ → List Opening → Type 0
  RunFrom n os =
      (e : List Entry) (said : List Item) → IsHalfway rule set ds t n (history set e) said → length said + length (items_by (calls_from n os)) < 65536
      → RunsAll e said (calls_from n os)

  runs_all : (os : List Opening) (n : ℕ) → ((j : ℕ) → slice_get os j ≡ call_at ds (n + j)) → n + length os ≡ call_count ds → RunFrom n os
  runs_all [] n there all = λ e said half few. none_run e n said half (omega (arith, all))
  runs_all (o ∷ os) n there all = λ e said half few. at (runs_all os (n + 1) (next_there os o n there) (omega (arith, all))) e said half (is_ticking ds n o) refl few
    where
      own : call_at ds n ≡ Some o
      own = ap (call_at ds) (omega arith) ∙ sym (there 0)

      at : RunFrom (n + 1) os → (e : List Entry) (said : List Item) → IsHalfway rule set ds t n (history set e) said → (b : Bool) → is_ticking ds n o ≡ b
          → length said + length (items_by (if b then (n, o) ∷ calls_from (n + 1) os else calls_from (n + 1) os)) < 65536
          → RunsAll e said (if b then (n, o) ∷ calls_from (n + 1) os else calls_from (n + 1) os)
      at others e said half true is few =
          let below : length said < 65536 = omega (arith, few) in
          run_first e n o said (calls_from (n + 1) os) (runs e n said half below o own is)
          (others (adding (adding e run_seat (Start n)) run_seat (Finish n (tick_answer rule set ds t (n, o)))) (said ++ tick_items rule set ds t (n, o))
          (half_after e n said half below o own is)
          (omega (arith, few, length-append said (tick_items rule set ds t (n, o)), length-append (tick_items rule set ds t (n, o)) (items_by (calls_from (n + 1) os)))))
      at others e said half false is few = others e said (halfway_passed rule set ds t n (history set e) said half o own is) few

  -- all have run
  abbrev ticked : List Entry
  ticked = adding h flush_seat (Tick t)

  ticked_deeds : history set ticked ≡ tick_deed ds t ∷ ds
  ticked_deeds =
      history-push set h (entry_by flush_seat (Tick t))
      ∙ ap (λ effect. record { entry = entry_by flush_seat (Tick t); does = effect } ∷ ds) (ticks_are_put set ds t ticks.rest)

  all_run : RunsAll ticked [] (ticking_calls ds)
  all_run =
      runs_all (calls ds) 0 (λ j. ap (call_at ds) (omega arith)) (omega arith) ticked []
      (subst (λ x. IsHalfway rule set ds t 0 x []) (sym ticked_deeds) (halfway_first rule set ds t ticks.rest))
      (omega (arith, ticks.few))

  abbrev ran : List Entry
  ran = ticked ++ all_tick_runs rule set ds t

  abbrev says : List Item
  says = all_tick_items rule set ds t

  abbrev half : IsHalfway rule set ds t (call_count ds) (history set ran) says
  half = all_run.half

  none_waits : (k : ℕ) → waiting_of (history set ran) k ≡ []
  none_waits k = half.waits k ∙ at (nat_le (call_count ds) k) refl
    where
      at : (b : Bool) → nat_le (call_count ds) k ≡ b → (if b then tick_waiting ds t k else []) ≡ []
      at true past = waits_past ds t k (leb-true (call_count ds) k past)
      at false below = refl

  all_taken : (k : ℕ) → starts_since (history set ran) k ≡ length (puts_since (history set ran) k)
  all_taken k = omega (arith, half.even k, ap length (none_waits k))

  to_flush : flush_count (history set ran) + length says ≡ length (items_sent (history set ran))
  to_flush = omega (arith, half.flushed, ap length half.sent, length-append (items_sent ds) says)

  abbrev whole : List Entry
  whole = with_tick rule set h t

  whole_deeds : history set whole ≡ after_flushes (length says) (history set ran)
  whole_deeds = flushed_history set (length says) ran

  at_rest : IsAtRest (history set whole)
  at_rest =
      subst IsAtRest (sym whole_deeds)
      (flushes_rest (length says) (history set ran) all_taken half.idle to_flush half.unhalted)

  settles : Settles rule set ticked whole
  settles = record {
    reaches =
        reaches_then rule set (running ticked) (flushing ran) (flushing whole)
        (reaches_turn rule set (running ticked) (running ran) (flushing ran) all_run.reach ((λ k. none_ready (history set ran) k (none_waits k)), refl))
        (flushes_reach rule set (length says) ran to_flush);
    over = rest_is_over set whole at_rest;
  }

  same_state : (n : ℕ) (x : List Deed) (k : ℕ) → state_of rule set (after_flushes n x) k ≡ state_of rule set x k
  same_state zero x k = refl
  same_state (suc n) x k = same_state n (flush_deed ∷ x) k

  same_calls : (n : ℕ) (x : List Deed) → calls (after_flushes n x) ≡ calls x
  same_calls zero x = refl
  same_calls (suc n) x = same_calls n (flush_deed ∷ x) ∙ append-nil (calls x)

  states : (c : ℕ) (o : Opening) → call_at ds c ≡ Some o → has_end ds c ≡ false
      → state_of rule set (history set ran) c ≡ option_map (ticked_state rule t o) (state_of rule set ds c)
  states c o there live =
      half.states c o there live
      ∙ ap (λ b. if b then state_of rule set ds c else option_map (ticked_state rule t o) (state_of rule set ds c))
      (lt-leb (call_count ds) c (slice_get_within (calls ds) c o there))

  streams : (c : ℕ) (o : Opening) (m : Memo) → HasStream rule set ds c o m → HasStream rule set (history set ran) c o (ticked_state rule t o m)
  streams c o m stream =
      half.streams c o m (ticked_state rule t o m) stream
      (states c o stream.opened (ap (λ (es : List Status). not (is_empty es)) stream.unended) ∙ ap (option_map (ticked_state rule t o)) stream.state)

  is_ticked : IsTicked rule set h t whole
  is_ticked = record {
    entries = refl;
    said = ap items_sent whole_deeds ∙ (flushes_sent (length says) (history set ran) ∙ half.sent);
    rest = at_rest;
    calls_stay = ap calls whole_deeds ∙ (same_calls (length says) (history set ran) ∙ half.calls_are);
    states = λ c o there live. ap (λ x. state_of rule set x c) whole_deeds ∙ (same_state (length says) (history set ran) c ∙ states c o there live);
    streams = λ c o m stream.
        subst (λ x. HasStream rule set x c o (ticked_state rule t o m)) (sym whole_deeds)
        (flushes_stream rule set (length says) (history set ran) c o (ticked_state rule t o m) (streams c o m stream));
  }

pub live_calls_are_uncut : LiveCallsAreUncut
live_calls_are_uncut set h c lawful live = at (is_cancelled (history set h) c) refl
  where
    at : (b : Bool) → is_cancelled (history set h) c ≡ b → is_cancelled (history set h) c ≡ false
    at false cut = cut
    at true cut = absurd (true≢false (sym (cancelled_ends set (reverse h) c lawful.allowed cut) ∙ live))

pub ticks_settle : TicksSettle
ticks_settle rule set h after t ruled ticks there =
    subst (IsTicked rule set h t)
    (settles_same rule set ruled (adding h flush_seat (Tick t)) (adding h flush_seat (Tick t)) (with_tick rule set h t) after refl (settles rule set h t ticks) there)
    (is_ticked rule set h t ticks)

pub ticks_are_there : TicksAreThere
ticks_are_there rule set h t ticks = (with_tick rule set h t, settles rule set h t ticks, is_ticked rule set h t ticks)
