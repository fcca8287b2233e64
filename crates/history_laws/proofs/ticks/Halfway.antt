-- Ticking calls whose numbers are below a bound have run.
use Rattle.std.proofs.Common.{◌≡◌, ℕ, ◌+◌, ◌≤◌, Bool, true, false, ◌&&◌, ◌==◌, not, nat_le, List, [], ◌∷◌, ◌++◌, length, slice_get, Option, Some, None, option_map, if◌then◌else◌, refl, ap, sym, ◌∙◌, subst, arith, append_assoc, length-append}
use Rattle.std.proofs.lemmas.Bool.{true≢false, and_parts, eqb-true, eqb-false, eq-eqb, le-leb, leb-true, leb-false, lt-leb}
use Rattle.std.proofs.lemmas.List.{append-nil}
use Rattle.std.proofs.Math.Seq.{drop-append_seam}
use Rattle.std.specs.List.{list_any}
use Rattle.rpc_ids.specs.declared.status.Status.{Status}
use Rattle.rpc_handlers.specs.declared.answer.Answer.{Answer}
use Rattle.rpc_handlers.specs.declared.event.Event.TheVariants.{Tick as Ticked}
use Rattle.rpc_handlers.specs.declared.event.Memo.{Memo}
use Rattle.rpc_handlers.specs.HandlerRule.{HandlerRule}
use Rattle.rpc_journal.specs.declared.entry.EntryKind.TheVariants.{Finish, Start, Tick}
use Rattle.rpc_journal.specs.declared.item.Item.{Item}
use Rattle.rpc_journal.specs.declared.setting.Setting.{Setting}
use Rattle.rpc_journal.specs.declared.waiting.Waiting.{Waiting}
use Rattle.rpc_journal.specs.Calls.{call_at, call_count, calls, ends_of, has_end, is_cancelled, of_call, runner_of}
use Rattle.rpc_journal.specs.Effect.{Deed, Opening}
use Rattle.rpc_journal.specs.Entries.{each_from}
use Rattle.rpc_journal.specs.History.{entry_by}
use Rattle.rpc_journal.specs.Items.{flush_count, halt_reason, items_sent}
use Rattle.rpc_journal.specs.Kinds.{is_empty}
use Rattle.rpc_journal.specs.Queues.{is_completion, put_at, puts_since, starts_since, waiting_of}
use Rattle.rpc_journal.specs.States.{state_of}
use Rattle.rpc_journal.proofs.EachLemmas.{none_past, one_put}
use Rattle.rpc_journal.proofs.PlaceLemmas.{some_same}
use Rattle.rpc_schedule.specs.Schedule.{flush_seat}
use Rattle.history_laws.specs.rounds.Streams.{HasStream, IsAtRest}
use Rattle.history_laws.proofs.rounds.RunLemmas.{finish_deed, none_left, start_deed}
use Rattle.history_laws.proofs.rounds.StreamLemmas.{plain_deed, plain-call_at, plain_stream}
use Rattle.history_laws.specs.ticks.Ticks.{is_ticking, ticked_state}
use Rattle.history_laws.proofs.ticks.OwnRun.{WillRun, other_state, run_state}

-- the Tick, with what it puts
abbrev pub tick_deed : List Deed → ℕ → Deed
tick_deed ds t = plain_deed (entry_by flush_seat (Tick t)) None (each_from 0 (is_ticking ds) (Ticked t) (calls ds)) []

-- what waits for c behind it
abbrev pub tick_waiting : List Deed → ℕ → ℕ → List Waiting
tick_waiting ds t c = put_at (length ds) (of_call c (each_from 0 (is_ticking ds) (Ticked t) (calls ds)))

abbrev pub the_tick : (ds : List Deed) (t : ℕ) → Waiting
the_tick ds t = record { at = length ds; event = Ticked t }

module _ (ds : List Deed) (t : ℕ) where
  pub waits_ticking : (c : ℕ) (o : Opening) → call_at ds c ≡ Some o → is_ticking ds c o ≡ true
      → tick_waiting ds t c ≡ record { at = length ds; event = Ticked t } ∷ []
  waits_ticking c o there ticks =
      ap (put_at (length ds)) (one_put (is_ticking ds) (Ticked t) (calls ds) 0 c c o there (omega arith) ∙ ap (λ b. if b then Ticked t ∷ [] else []) ticks)

  pub waits_not : (c : ℕ) (o : Opening) → call_at ds c ≡ Some o → is_ticking ds c o ≡ false → tick_waiting ds t c ≡ []
  waits_not c o there still =
      ap (put_at (length ds)) (one_put (is_ticking ds) (Ticked t) (calls ds) 0 c c o there (omega arith) ∙ ap (λ b. if b then Ticked t ∷ [] else []) still)

  pub waits_past : (c : ℕ) → call_count ds ≤ c → tick_waiting ds t c ≡ []
  waits_past c past = ap (put_at (length ds)) (none_past (is_ticking ds) (Ticked t) (calls ds) 0 c (omega (arith, past)))

-- The calls below n that the Tick was put to have run, and said this. Of all others their Ticks wait.
pub record IsHalfway (rule : HandlerRule) (set : Setting) (ds : List Deed) (t n : ℕ) (now : List Deed) (said : List Item) : Type 0 where
  pub calls_are : calls now ≡ calls ds
  pub waits : (k : ℕ) → waiting_of now k ≡ (if nat_le n k then tick_waiting ds t k else [])
  pub even : (k : ℕ) → starts_since now k + length (waiting_of now k) ≡ length (puts_since now k)
  pub idle : (k : ℕ) → runner_of now k ≡ None
  pub unhalted : halt_reason now ≡ None
  pub sent : items_sent now ≡ items_sent ds ++ said
  pub flushed : flush_count now ≡ length (items_sent ds)
  pub same_ends : (k : ℕ) → ends_of now k ≡ ends_of ds k
  pub same_cut : (k : ℕ) → is_cancelled now k ≡ is_cancelled ds k
  pub states : (k : ℕ) (o : Opening) → call_at ds k ≡ Some o → has_end ds k ≡ false
      → state_of rule set now k ≡ (if nat_le n k then state_of rule set ds k else option_map (ticked_state rule t o) (state_of rule set ds k))
  pub streams : (k : ℕ) (o : Opening) (m next : Memo) → HasStream rule set ds k o m → state_of rule set now k ≡ Some next → HasStream rule set now k o next

-- of each call
module _ (rule : HandlerRule) (set : Setting) (ds : List Deed) (t : ℕ) where
  -- no Completion is put
  none_completed : (k : ℕ) (o : Opening) → call_at ds k ≡ Some o → list_any is_completion (of_call k (each_from 0 (is_ticking ds) (Ticked t) (calls ds))) ≡ false
  none_completed k o there = ap (list_any is_completion) (one_put (is_ticking ds) (Ticked t) (calls ds) 0 k k o there (omega arith)) ∙ at (is_ticking ds k o)
    where
      at : (b : Bool) → list_any is_completion (if b then Ticked t ∷ [] else []) ≡ false
      at true = refl
      at false = refl

  -- none has run
  module _ (rest : IsAtRest ds) where
    first_waits : (k : ℕ) → waiting_of (tick_deed ds t ∷ ds) k ≡ tick_waiting ds t k
    first_waits k = rw (rest.taken k) (drop-append_seam (puts_since ds k) (tick_waiting ds t k))

    all_left : (k : ℕ) → nat_le 0 k ≡ true
    all_left k = le-leb 0 k (omega arith)

    pub halfway_first : IsHalfway rule set ds t 0 (tick_deed ds t ∷ ds) []
    halfway_first = record {
      calls_are = append-nil (calls ds);
      waits = λ k. first_waits k ∙ sym (ap (λ b. if b then tick_waiting ds t k else []) (all_left k));
      even = λ k. omega (arith, rest.taken k, ap length (first_waits k), length-append (puts_since ds k) (tick_waiting ds t k));
      idle = rest.idle;
      unhalted = rest.unhalted;
      sent = refl;
      flushed = rest.flushed;
      same_ends = λ k. append-nil (ends_of ds k);
      same_cut = λ k. refl;
      states = λ k o there live. sym (ap (λ b. if b then state_of rule set ds k else option_map (ticked_state rule t o) (state_of rule set ds k)) (all_left k));
      streams = λ k o m next stream state.
          plain_stream ds (entry_by flush_seat (Tick t)) None (each_from 0 (is_ticking ds) (Ticked t) (calls ds)) [] rule set k o m next stream
          (plain-call_at ds (entry_by flush_seat (Tick t)) (each_from 0 (is_ticking ds) (Ticked t) (calls ds)) [] k) refl refl refl
          (none_completed k o stream.opened) state;
    }

-- the bound moves on
same_side : (n k : ℕ) → (n == k) ≡ false → nat_le n k ≡ nat_le (n + 1) k
same_side n k apart = at (nat_le n k) refl
  where
    at : (b : Bool) → nat_le n k ≡ b → nat_le n k ≡ nat_le (n + 1) k
    at true is = is ∙ sym (le-leb (n + 1) k (omega (arith, leb-true n k is, eqb-false n k apart)))
    at false is = is ∙ sym (lt-leb (n + 1) k (omega (arith, leb-false n k is)))

module _ (rule : HandlerRule) (set : Setting) (ds : List Deed) (t n : ℕ) (now : List Deed) (said : List Item) (half : IsHalfway rule set ds t n now said) (o : Opening) (there : call_at ds n ≡ Some o) where
  own_left : nat_le n n ≡ true
  own_left = le-leb n n (omega arith)

  own_past : nat_le (n + 1) n ≡ false
  own_past = lt-leb (n + 1) n (omega arith)

  same_opening : (other : Opening) → call_at ds n ≡ Some other → other ≡ o
  same_opening other is = some_same other o (sym is ∙ there)

  -- a call that the Tick wasn't put to is passed over
  module _ (still : is_ticking ds n o ≡ false) where
    passed_waits : (k : ℕ) (b : Bool) → (n == k) ≡ b → waiting_of now k ≡ (if nat_le (n + 1) k then tick_waiting ds t k else [])
    passed_waits k true same =
        subst (λ x. waiting_of now x ≡ (if nat_le (n + 1) x then tick_waiting ds t x else [])) (eqb-true n k same)
        (half.waits n ∙ (ap (λ b. if b then tick_waiting ds t n else []) own_left
        ∙ (waits_not ds t n o there still ∙ sym (ap (λ b. if b then tick_waiting ds t n else []) own_past))))
    passed_waits k false apart = half.waits k ∙ ap (λ b. if b then tick_waiting ds t k else []) (same_side n k apart)

    -- a live one doesn't tick
    unticked : (live : has_end ds n ≡ false) → o.method.ticks ≡ false
    unticked live = at o.method.ticks (ap (λ b. o.method.ticks && not b) (sym live) ∙ still)
      where
        at : (b : Bool) → (b && true) ≡ false → b ≡ false
        at true is = is
        at false is = refl

    unmoved : o.method.ticks ≡ false → (state : Option Memo) → state ≡ option_map (ticked_state rule t o) state
    unmoved still None = refl
    unmoved still (Some m) = ap Some (sym (ap (λ b. if b then rule.next m (Ticked t) else m) still))

    passed_states : (k : ℕ) (other : Opening) (b : Bool) → (n == k) ≡ b → call_at ds k ≡ Some other → has_end ds k ≡ false
        → state_of rule set now k ≡ (if nat_le (n + 1) k then state_of rule set ds k else option_map (ticked_state rule t other) (state_of rule set ds k))
    passed_states k other true same is live = at k (sym (eqb-true n k same)) is live
      where
        at : (j : ℕ) → j ≡ n → call_at ds j ≡ Some other → has_end ds j ≡ false
            → state_of rule set now j ≡ (if nat_le (n + 1) j then state_of rule set ds j else option_map (ticked_state rule t other) (state_of rule set ds j))
        at j here is live =
            let own : call_at ds n ≡ Some other = ap (call_at ds) (sym here) ∙ is in
            let alive : has_end ds n ≡ false = ap (has_end ds) (sym here) ∙ live in
            subst (λ x. state_of rule set now x ≡ (if nat_le (n + 1) x then state_of rule set ds x else option_map (ticked_state rule t other) (state_of rule set ds x))) (sym here)
            (subst (λ x. state_of rule set now n ≡ (if nat_le (n + 1) n then state_of rule set ds n else option_map (ticked_state rule t x) (state_of rule set ds n))) (sym (same_opening other own))
            (half.states n o there alive
            ∙ (ap (λ b. if b then state_of rule set ds n else option_map (ticked_state rule t o) (state_of rule set ds n)) own_left
            ∙ (unmoved (unticked alive) (state_of rule set ds n)
            ∙ sym (ap (λ b. if b then state_of rule set ds n else option_map (ticked_state rule t o) (state_of rule set ds n)) own_past)))))
    passed_states k other false apart is live =
        half.states k other is live ∙ ap (λ b. if b then state_of rule set ds k else option_map (ticked_state rule t other) (state_of rule set ds k)) (same_side n k apart)

    pub halfway_passed : IsHalfway rule set ds t (n + 1) now said
    halfway_passed = record {
      calls_are = half.calls_are;
      waits = λ k. passed_waits k (n == k) refl;
      even = half.even;
      idle = half.idle;
      unhalted = half.unhalted;
      sent = half.sent;
      flushed = half.flushed;
      same_ends = half.same_ends;
      same_cut = half.same_cut;
      states = λ k other is live. passed_states k other (n == k) refl is live;
      streams = half.streams;
    }

  -- a call that it was put to runs
  module _ (ticks : is_ticking ds n o ≡ true) (uncut : is_cancelled ds n ≡ false) where
    pub own_waits : waiting_of now n ≡ the_tick ds t ∷ []
    own_waits = half.waits n ∙ (ap (λ b. if b then tick_waiting ds t n else []) own_left ∙ waits_ticking ds t n o there ticks)

    no_end : (es : List Status) → not (not (is_empty es)) ≡ true → es ≡ []
    no_end [] none = refl
    no_end (s ∷ es) none = absurd (true≢false (sym none))

    pub will_run : WillRun now n o (the_tick ds t)
    will_run = record {
      waits = own_waits;
      opened = ap (λ os. slice_get os n) half.calls_are ∙ there;
      unended = half.same_ends n ∙ no_end (ends_of ds n) (and_parts o.method.ticks (not (has_end ds n)) ticks).1;
      uncancelled = half.same_cut n ∙ uncut;
    }

    pub own_state_now : state_of rule set now n ≡ state_of rule set ds n
    own_state_now =
        half.states n o there (ended_not (has_end ds n) (and_parts o.method.ticks (not (has_end ds n)) ticks).1)
        ∙ ap (λ b. if b then state_of rule set ds n else option_map (ticked_state rule t o) (state_of rule set ds n)) own_left
      where
        ended_not : (b : Bool) → not b ≡ true → b ≡ false
        ended_not true is = sym is
        ended_not false is = refl

    module _ (a : Answer) (says : List Item) where
      abbrev pub has_run : List Deed
      has_run = finish_deed n a says ∷ start_deed n ∷ now

      run_taken : starts_since has_run n ≡ length (puts_since has_run n)
      run_taken =
          rw (eq-eqb n n refl, append-nil (puts_since now n ++ []), append-nil (puts_since now n))
          (omega (arith, half.even n, ap length own_waits))

      run_left : waiting_of has_run n ≡ []
      run_left = none_left has_run n run_taken

      other_waits : (k : ℕ) → (n == k) ≡ false → waiting_of has_run k ≡ waiting_of now k
      other_waits k apart = rw (apart, append-nil (puts_since now k ++ []), append-nil (puts_since now k)) refl

      run_waits : (k : ℕ) (b : Bool) → (n == k) ≡ b → waiting_of has_run k ≡ (if nat_le (n + 1) k then tick_waiting ds t k else [])
      run_waits k true same =
          subst (λ x. waiting_of has_run x ≡ (if nat_le (n + 1) x then tick_waiting ds t x else [])) (eqb-true n k same)
          (run_left ∙ sym (ap (λ b. if b then tick_waiting ds t n else []) own_past))
      run_waits k false apart = other_waits k apart ∙ (half.waits k ∙ ap (λ b. if b then tick_waiting ds t k else []) (same_side n k apart))

      run_even : (k : ℕ) (b : Bool) → (n == k) ≡ b → starts_since has_run k + length (waiting_of has_run k) ≡ length (puts_since has_run k)
      run_even k true same =
          subst (λ x. starts_since has_run x + length (waiting_of has_run x) ≡ length (puts_since has_run x)) (eqb-true n k same)
          (omega (arith, run_taken, ap length run_left))
      run_even k false apart = rw (apart, append-nil (puts_since now k ++ []), append-nil (puts_since now k)) (half.even k)

      run_idle : (k : ℕ) (b : Bool) → (if b then None else if b then Some 2 else runner_of now k) ≡ None
      run_idle k true = refl
      run_idle k false = half.idle k

      ticked_own : o.method.ticks ≡ true → (state : Option Memo) → option_map (λ m. rule.next m (Ticked t)) state ≡ option_map (ticked_state rule t o) state
      ticked_own is None = refl
      ticked_own is (Some m) = ap Some (sym (ap (λ b. if b then rule.next m (Ticked t) else m) is))

      run_own_state : state_of rule set has_run n ≡ option_map (ticked_state rule t o) (state_of rule set ds n)
      run_own_state =
          run_state now n o (the_tick ds t) will_run rule set a says
          ∙ (ap (option_map (λ m. rule.next m (Ticked t))) own_state_now
          ∙ ticked_own (and_parts o.method.ticks (not (has_end ds n)) ticks).0 (state_of rule set ds n))

      run_states : (k : ℕ) (other : Opening) (b : Bool) → (n == k) ≡ b → call_at ds k ≡ Some other → has_end ds k ≡ false
          → state_of rule set has_run k ≡ (if nat_le (n + 1) k then state_of rule set ds k else option_map (ticked_state rule t other) (state_of rule set ds k))
      run_states k other true same is live = at k (sym (eqb-true n k same)) is
        where
          at : (j : ℕ) → j ≡ n → call_at ds j ≡ Some other
              → state_of rule set has_run j ≡ (if nat_le (n + 1) j then state_of rule set ds j else option_map (ticked_state rule t other) (state_of rule set ds j))
          at j here is =
              let own : call_at ds n ≡ Some other = ap (call_at ds) (sym here) ∙ is in
              subst (λ x. state_of rule set has_run x ≡ (if nat_le (n + 1) x then state_of rule set ds x else option_map (ticked_state rule t other) (state_of rule set ds x))) (sym here)
              (subst (λ x. state_of rule set has_run n ≡ (if nat_le (n + 1) n then state_of rule set ds n else option_map (ticked_state rule t x) (state_of rule set ds n))) (sym (same_opening other own))
              (run_own_state ∙ sym (ap (λ b. if b then state_of rule set ds n else option_map (ticked_state rule t o) (state_of rule set ds n)) own_past)))
      run_states k other false apart is live =
          other_state now n o (the_tick ds t) will_run rule set a says k apart
          ∙ (half.states k other is live
          ∙ ap (λ b. if b then state_of rule set ds k else option_map (ticked_state rule t other) (state_of rule set ds k)) (same_side n k apart))

      run_stream : (k : ℕ) (other : Opening) (m before next : Memo) → HasStream rule set now k other before → state_of rule set has_run k ≡ Some next
          → HasStream rule set has_run k other next
      run_stream k other m before next stream state =
          plain_stream (start_deed n ∷ now) (entry_by 2 (Finish n a)) None [] says rule set k other before next
          (plain_stream now (entry_by 2 (Start n)) None [] [] rule set k other before before stream (plain-call_at now (entry_by 2 (Start n)) [] [] k) refl refl refl refl stream.state)
          (plain-call_at (start_deed n ∷ now) (entry_by 2 (Finish n a)) [] says k) refl refl refl refl state

      run_streams : (k : ℕ) (other : Opening) (m next : Memo) → HasStream rule set ds k other m → state_of rule set has_run k ≡ Some next
          → HasStream rule set has_run k other next
      run_streams k other m next stream state =
          at (nat_le n k)
          (half.states k other stream.opened (ap (λ (es : List Status). not (is_empty es)) stream.unended)
          ∙ ap (λ x. if nat_le n k then x else option_map (ticked_state rule t other) x) stream.state)
        where
          at : (b : Bool) → state_of rule set now k ≡ (if b then Some m else option_map (ticked_state rule t other) (Some m)) → HasStream rule set has_run k other next
          at true is = run_stream k other m m next (half.streams k other m m stream is) state
          at false is = run_stream k other m (ticked_state rule t other m) next (half.streams k other m (ticked_state rule t other m) stream is) state

      pub halfway_run : IsHalfway rule set ds t (n + 1) has_run (said ++ says)
      halfway_run = record {
        calls_are = append-nil (calls now ++ []) ∙ (append-nil (calls now) ∙ half.calls_are);
        waits = λ k. run_waits k (n == k) refl;
        even = λ k. run_even k (n == k) refl;
        idle = λ k. run_idle k (n == k);
        unhalted = half.unhalted;
        sent = ap (λ items. items ++ says) (append-nil (items_sent now) ∙ half.sent) ∙ append_assoc (items_sent ds) said says;
        flushed = half.flushed;
        same_ends = λ k. append-nil (ends_of now k ++ []) ∙ (append-nil (ends_of now k) ∙ half.same_ends k);
        same_cut = half.same_cut;
        states = λ k other is live. run_states k other (n == k) refl is live;
        streams = run_streams;
      }
