-- The ready call that goes first: the first one in the list of the calls for which an event waits that can start.
use Rattle.std.proofs.Common.{◌≡◌, ◌⊎◌, inl, inr, ℕ, zero, suc, ◌<◌, ◌≤◌, ◌==◌, Bool, true, false, not, ◌&&◌, ◌||◌, List, [], ◌∷◌, length, count_by, get_or, slice_get, Option, Some, None, is_some, is_none, refl, ap, sym, ◌∙◌, subst, arith}
use Rattle.std.specs.Prelude.{nat_lt}
use Rattle.std.proofs.lemmas.Bool.{false≢true, and_from, and_parts, eqb-true, eqb-false, eq-eqb}
use Rattle.std.proofs.lemmas.List.{get_or_default}
use Rattle.std.specs.List.{Contains}
use Rattle.std.proofs.lemmas.Option.{slice_get_within}
use Rattle.rpc_journal.specs.declared.table.call_state.CallState.{CallState}
use Rattle.rpc_journal.specs.declared.table.call_states.CallStates.{CallStates}
use Rattle.rpc_journal.specs.Calls.{call_count, runner_of}
use Rattle.rpc_journal.specs.Choice.{IsFirstReady, NoneReady, first_place, oldest_place}
use Rattle.rpc_journal.specs.Effect.{Deed}
use Rattle.rpc_journal.specs.Items.{is_ready}
use Rattle.rpc_journal.specs.Kinds.{is_empty}
use Rattle.rpc_journal.specs.Queues.{waiting_of}
use Rattle.rpc_journal.specs.Quiet.{all_below, none_runs}
use Rattle.rpc_journal.specs.table.Agrees.{Agrees}
use Rattle.rpc_journal.specs.table.Touch.{is_startable}
use Rattle.rpc_journal.proofs.table.KnownStates.{ready_known}
use Rattle.rpc_journal.proofs.PlaceLemmas.{below_or_not, get_some}
use Rattle.rpc_journal.proofs.StayLemmas.{all_at}
use Rattle.rpc_calls.specs.declared.index.Index.{Index}
use Rattle.rpc_calls.specs.declared.waiting_calls.WaitingCall.{WaitingCall}
use Rattle.rpc_calls.specs.First.{FirstToStart, starts_in, starts_since}
use Rattle.rpc_calls.specs.Indexed.{IsIndexed}
use Rattle.rpc_calls.specs.Listed.{Goes, Precedes, waits_since}
use Rattle.rpc_calls.specs.Marks.{is_queued, one_if, waits}
use Rattle.rpc_calls.proofs.PlaceChanges.{count-cons, count-has}
use Rattle.rpc_calls.proofs.IndexSteps.{since_waits}

-- a call that can start with an event of this place has its state
record Starts (t : CallStates) (w : WaitingCall) : Type 0 where
  pub state : CallState
  pub there : slice_get t.calls.items w.call ≡ Some state
  pub starts : is_startable state t.unflushed (is_some t.halted) ≡ true
  pub since : first_place state.waiting.items ≡ w.since

starts : (t : CallStates) (w : WaitingCall) (o : Option CallState) → slice_get t.calls.items w.call ≡ o → starts_in t w.since o ≡ true → Starts t w
starts t w None is can = absurd (false≢true can)
starts t w (Some r) is can =
    let both = and_parts (is_startable r t.unflushed (is_some t.halted)) (first_place r.waiting.items == w.since) can in
    record { state = r; there = is; starts = both.0; since = eqb-true (first_place r.waiting.items) w.since both.1 }

-- a ready call can start, and stands in the list with the place since which its oldest event waits
record IsListedReady (t : CallStates) (index : Index) (c : ℕ) : Type 0 where
  pub state : CallState
  pub there : slice_get t.calls.items c ≡ Some state
  pub starts : starts_since t (waits_since c (first_place state.waiting.items)) ≡ true
  pub listed : Contains index.waiting.calls.items (waits_since c (first_place state.waiting.items))

starts_waiting : (a : Bool) (o : Option ℕ) (c d e : Bool) → (not a && is_none o && c && d && e) ≡ true → not (is_some o || a) ≡ true
starts_waiting true o c d e is = absurd (false≢true is)
starts_waiting false None c d e is = refl
starts_waiting false (Some seat) c d e is = absurd (false≢true is)

ready_listed : (ds : List Deed) (t : CallStates) (index : Index) (c : ℕ) (o : Option CallState) → Agrees ds t → IsIndexed t.calls.items index
    → slice_get t.calls.items c ≡ o → is_ready ds c ≡ true → IsListedReady t index c
ready_listed ds t index c None agrees indexed is ready = absurd (false≢true (sym (ready_known ds t c None agrees is) ∙ ready))
ready_listed ds t index c (Some r) agrees indexed is ready =
    let can : is_startable r t.unflushed (is_some t.halted) ≡ true = sym (ready_known ds t c (Some r) agrees is) ∙ ready in
    let waiting : waits r ≡ true = starts_waiting (is_empty r.waiting.items) r.run (not r.cancelled) (nat_lt t.unflushed 65536) (not (is_some t.halted)) can in
    record {
      state = r;
      there = is;
      starts = ap (starts_in t (first_place r.waiting.items)) is
          ∙ and_from (is_startable r t.unflushed (is_some t.halted)) (first_place r.waiting.items == first_place r.waiting.items) can (eq-eqb (first_place r.waiting.items) (first_place r.waiting.items) refl);
      listed = indexed.covers c r (first_place r.waiting.items) is (since_waits r waiting);
    }

pub first_is : (ds : List Deed) (t : CallStates) (index : Index) (at c : ℕ) → Agrees ds t → IsIndexed t.calls.items index
    → FirstToStart t index.waiting.calls.items (Some at) → ((d : WaitingCall) → c ≡ (get_or index.waiting.calls.items at d).call) → IsFirstReady ds c
first_is ds t index at c agrees indexed found number =
    let w = get_or index.waiting.calls.items at (waits_since 0 0) in
    let it = starts t w (slice_get t.calls.items w.call) refl (found.1 (waits_since 0 0)) in
    let here : slice_get t.calls.items c ≡ Some it.state = ap (slice_get t.calls.items) (number (waits_since 0 0)) ∙ it.there in
    let mine : oldest_place ds c ≡ w.since = ap first_place (agrees.calls.each c it.state here).waiting ∙ it.since in
    record {
      ready = ready_known ds t c (Some it.state) agrees here ∙ it.starts;
      first = λ k ready.
          let its = ready_listed ds t index k (slice_get t.calls.items k) agrees indexed refl ready in
          let e = waits_since k (first_place its.state.waiting.items) in
          let other : oldest_place ds k ≡ first_place its.state.waiting.items = ap first_place (agrees.calls.each k its.state its.there).waiting in
          let goes : Precedes w.call w.since k (first_place its.state.waiting.items) = before w e its.starts its.listed (below_or_not its.listed.0 at) in
          subst (λ p. (p < oldest_place ds k) ⊎ ((p ≡ oldest_place ds k) × (c ≤ k))) (sym mine)
          (subst (λ q. Precedes c w.since k q) (sym other) (subst (λ n. Precedes n w.since k (first_place its.state.waiting.items)) (sym (number (waits_since 0 0))) goes));
    }
  where
    listed : List WaitingCall
    listed = index.waiting.calls.items

    before : (w e : WaitingCall) → starts_since t e ≡ true → (there : Contains listed e) → (there.0 < at) ⊎ (at ≤ there.0) → Goes (get_or listed at (waits_since 0 0)) e
    before w e can there (inl earlier) =
        absurd (false≢true (sym (found.2 there.0 e (omega arith) earlier) ∙ ap (starts_since t) there.2 ∙ can))
    before w e can there (inr later) =
        subst (λ v. Goes v e) (get_or_default listed at e (waits_since 0 0) found.0)
        (subst (Goes (get_or listed at e)) there.2 (indexed.order at there.0 e later there.1))

pub none_is : (ds : List Deed) (t : CallStates) (index : Index) → Agrees ds t → IsIndexed t.calls.items index
    → FirstToStart t index.waiting.calls.items None → NoneReady ds
none_is ds t index agrees indexed none = λ k. at k (is_ready ds k) refl
  where
    at : (k : ℕ) (b : Bool) → is_ready ds k ≡ b → is_ready ds k ≡ false
    at k false unready = unready
    at k true ready =
        let its = ready_listed ds t index k (slice_get t.calls.items k) agrees indexed refl ready in
        let e = waits_since k (first_place its.state.waiting.items) in
        absurd (false≢true (sym (none its.listed.0 e (omega arith) its.listed.1) ∙ ap (starts_since t) its.listed.2 ∙ its.starts))

-- a call that is counted is there
record IsCounted (p : CallState → Bool) (states : List CallState) : Type 0 where
  pub number : ℕ
  pub state : CallState
  pub there : slice_get states number ≡ Some state
  pub passes : p state ≡ true

counted : (p : CallState → Bool) (states : List CallState) → 1 ≤ count_by p states → IsCounted p states
counted p [] some = absurd (omega (arith, some))
counted p (r ∷ states) some = at (p r) refl (counted p states)
  where
    at : (b : Bool) → p r ≡ b → (1 ≤ count_by p states → IsCounted p states) → IsCounted p (r ∷ states)
    at true passes later = record { number = 0; state = r; there = refl; passes = passes }
    at false fails later =
        let rest = later (omega (arith, some, count-cons p r states, ap one_if fails)) in
        record { number = suc rest.number; state = rest.state; there = rest.there; passes = rest.passes }

all_true : (n : ℕ) (test : ℕ → Bool) → ((k : ℕ) → k < n → test k ≡ true) → all_below n test ≡ true
all_true zero test each = refl
all_true (suc n) test each = rw (all_true n test (λ k below. each k (omega (arith, below))), each n (omega arith)) refl

-- no event waits for any call exactly where none is counted
pub none_waits : (ds : List Deed) (t : CallStates) (n : ℕ) (empty : Bool) → Agrees ds t → n ≡ count_by is_queued t.calls.items → empty ≡ (n == 0)
    → empty ≡ all_below (call_count ds) (λ c. is_empty (waiting_of ds c))
none_waits ds t n empty agrees many is = at (n == 0) refl (all_below (call_count ds) (λ c. is_empty (waiting_of ds c))) refl
  where
    idle : n ≡ 0 → (k : ℕ) (r : CallState) → slice_get t.calls.items k ≡ Some r → is_empty r.waiting.items ≡ true
    idle none k r there = by (is_empty r.waiting.items) refl
      where
        by : (b : Bool) → is_empty r.waiting.items ≡ b → is_empty r.waiting.items ≡ true
        by true empty = empty
        by false waiting = absurd (omega (arith, none, many, count-has is_queued t.calls.items k r there (ap not waiting)))

    at : (b : Bool) → (n == 0) ≡ b → (a : Bool) → all_below (call_count ds) (λ c. is_empty (waiting_of ds c)) ≡ a
        → empty ≡ all_below (call_count ds) (λ c. is_empty (waiting_of ds c))
    at true none a all =
        is ∙ none ∙ sym (all_true (call_count ds) (λ c. is_empty (waiting_of ds c)) (λ k below.
        let row = get_some t.calls.items k (omega (arith, below, agrees.calls.many)) in
        ap is_empty (agrees.calls.each k row.0 row.1).waiting ∙ idle (eqb-true n 0 none) k row.0 row.1))
    at false some false all = is ∙ some ∙ sym all
    at false some true all =
        let one : 1 ≤ count_by is_queued t.calls.items = omega (arith, many, eqb-false n 0 some) in
        let it = counted is_queued t.calls.items one in
        let within : it.number < length t.calls.items = slice_get_within t.calls.items it.number it.state it.there in
        let empty = all_at (call_count ds) it.number (λ c. is_empty (waiting_of ds c)) all (omega (arith, within, agrees.calls.many)) in
        absurd (false≢true (ap not (sym empty ∙ ap is_empty (agrees.calls.each it.number it.state it.there).waiting) ∙ it.passes))

-- no call runs exactly where none is counted
pub none_run : (ds : List Deed) (t : CallStates) (n : ℕ) (empty : Bool) → Agrees ds t → n ≡ count_by (λ r. is_some r.run) t.calls.items → empty ≡ (n == 0)
    → empty ≡ none_runs ds
none_run ds t n empty agrees many is = at (n == 0) refl (none_runs ds) refl
  where
    idle : n ≡ 0 → (k : ℕ) (r : CallState) → slice_get t.calls.items k ≡ Some r → is_none r.run ≡ true
    idle none k r there = by r.run refl
      where
        by : (o : Option ℕ) → r.run ≡ o → is_none o ≡ true
        by None same = refl
        by (Some seat) same = absurd (omega (arith, none, many, count-has (λ q. is_some q.run) t.calls.items k r there (ap is_some same)))

    runs : (o : Option ℕ) → is_some o ≡ true → is_none o ≡ true → ⊥
    runs None some none = absurd (false≢true some)
    runs (Some seat) some none = false≢true none

    at : (b : Bool) → (n == 0) ≡ b → (a : Bool) → none_runs ds ≡ a → empty ≡ none_runs ds
    at true none a all =
        is ∙ none ∙ sym (all_true (call_count ds) (λ c. is_none (runner_of ds c)) (λ k below.
        let row = get_some t.calls.items k (omega (arith, below, agrees.calls.many)) in
        ap is_none (agrees.calls.each k row.0 row.1).run ∙ idle (eqb-true n 0 none) k row.0 row.1))
    at false some false all = is ∙ some ∙ sym all
    at false some true all =
        let one : 1 ≤ count_by (λ r. is_some r.run) t.calls.items = omega (arith, many, eqb-false n 0 some) in
        let it = counted (λ r. is_some r.run) t.calls.items one in
        let within : it.number < length t.calls.items = slice_get_within t.calls.items it.number it.state it.there in
        let free = all_at (call_count ds) it.number (λ c. is_none (runner_of ds c)) all (omega (arith, within, agrees.calls.many)) in
        absurd (runs it.state.run it.passes (sym (ap is_none (agrees.calls.each it.number it.state it.there).run) ∙ free))
