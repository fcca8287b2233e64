-- What a table stands for, over an entry that touches one call.
use Rattle.std.proofs.Common.{◌≡◌, ◌≢◌, ◌⊎◌, ℕ, ◌+◌, ◌<◌, ◌≤◌, Bool, false, not, List, ◌∷◌, length, slice_get, Option, Some, None, is_some, sym, ◌∙◌, subst, inl, inr, arith}
use Rattle.std.proofs.lemmas.Option.{slice_get_within}
use Rattle.rpc_handlers.specs.declared.event.Memo.{Memo}
use Rattle.rpc_handlers.specs.HandlerRule.{HandlerRule}
use Rattle.rpc_journal.specs.declared.table.call_state.CallState.{CallState}
use Rattle.rpc_journal.specs.declared.setting.Setting.{Setting}
use Rattle.rpc_journal.specs.Calls.{call_count, is_replace_of, runner_of}
use Rattle.rpc_journal.specs.Effect.{Deed}
use Rattle.rpc_journal.specs.table.Agrees.{AgreesOn, AgreesOnCalls}
use Rattle.rpc_journal.specs.table.Touch.{Touch, Touches, untouched}
use Rattle.rpc_journal.proofs.PlaceLemmas.{get_some}
use Rattle.rpc_journal.proofs.table.StepLemmas.{same_or_not, same_at, same_count}
use Rattle.rpc_journal.proofs.table.AgreeLemmas.{agrees_touched, is_untouched, still_silent}
use Rattle.rpc_calls.specs.Marks.{one_if}
use Rattle.rpc_calls.specs.Handlers.{Keeps, KeepsAll}
use Rattle.rpc_calls.specs.Places.{ChangesAt}
use Rattle.rpc_calls.specs.Room.{uncancelled, running, HasPlaces}
use Rattle.rpc_journal.specs.table.Turns.{Turns}
use Rattle.std.specs.VecDeque.{deque_capacity}
use Rattle.rpc_calls.proofs.CalmSteps.{untouching, unopened}
use Rattle.rpc_calls.proofs.PlaceChanges.{count-change}
use Rattle.rpc_calls.proofs.StepLemmas.{keeps_calm}

-- the deed opens no call, and touches none but c
pub record TouchesOne (d : Deed) (c : ℕ) (t : Touch) : Type 0 where
  pub here : Touches d c t
  pub others : (k : ℕ) → k ≢ c → Touches d k untouched
  pub unopened : d.does.opens ≡ None

pub agrees_one : (ds : List Deed) (d : Deed) (states new : List CallState) (c : ℕ) (t : Touch) → AgreesOnCalls ds states → TouchesOne d c t
    → ChangesAt c (Turns (length ds) t) states new → c < length states → AgreesOnCalls (d ∷ ds) new
agrees_one ds d states new c t agrees one changes within = record {
  many = changes.many ∙ agrees.many ∙ sym (same_count ds d one.unopened);
  each = λ k y is. at k y is (same_or_not k c);
  beyond = λ k from.
      let past : call_count ds ≤ k = subst (λ n. n ≤ k) (same_count ds d one.unopened) from in
      still_silent ds d k (agrees.beyond k past) (one.others k (λ same. omega (arith, past, within, agrees.many, same)));
}
  where
    at : (k : ℕ) (y : CallState) → slice_get new k ≡ Some y → (k ≡ c) ⊎ (k ≢ c) → AgreesOn (d ∷ ds) k y
    at k y is (inl same) =
        let was = get_some states c within in
        let its = changes.here was.0 y was.1 (subst (λ n. slice_get new n ≡ Some y) same is) in
        subst (λ n. AgreesOn (d ∷ ds) n y) (sym same)
        (agrees_touched ds d c t was.0 y (agrees.each c was.0 was.1) one.here its.is (same_at ds d c (omega (arith, within, agrees.many))))
    at k y is (inr apart) =
        let old : slice_get states k ≡ Some y = sym (changes.others k apart) ∙ is in
        let below : k < length states = slice_get_within _ _ _ old in
        agrees_touched ds d k untouched y y (agrees.each k y old) (one.others k apart) (is_untouched (length ds) y) (same_at ds d k (omega (arith, below, agrees.many)))

module _ {H : Type 0} (now : H → Memo) (can_act : H → Type 0) (rule : HandlerRule) (set : Setting) where
  pub keeps_one : (ds : List Deed) (d : Deed) (states new : List CallState) (c : ℕ) (t : Touch) (handlers later : List (Option H)) → AgreesOnCalls ds states
      → AgreesOnCalls (d ∷ ds) new → TouchesOne d c t → ChangesAt c (Turns (length ds) t) states new
      → ((k : ℕ) → k ≢ c → is_replace_of k d.entry.kind ≡ false) → KeepsAll now can_act rule set ds handlers
      → length later ≡ length handlers → ((k : ℕ) → k ≢ c → slice_get later k ≡ slice_get handlers k)
      → ((slot : Option H) → slice_get later c ≡ Some slot → Keeps now can_act rule set (d ∷ ds) c (runner_of (d ∷ ds) c) slot)
      → KeepsAll now can_act rule set (d ∷ ds) later
  keeps_one ds d states new c t handlers later agrees agrees' one changes unreplaced keeps many others here = record {
    many = many ∙ keeps.many ∙ sym (same_count ds d one.unopened);
    each = λ k slot is. at k slot is (same_or_not k c);
  }
    where
      at : (k : ℕ) (slot : Option H) → slice_get later k ≡ Some slot → (k ≡ c) ⊎ (k ≢ c) → Keeps now can_act rule set (d ∷ ds) k (runner_of (d ∷ ds) k) slot
      at k slot is (inl same) =
          subst (λ n. Keeps now can_act rule set (d ∷ ds) n (runner_of (d ∷ ds) n) slot) (sym same)
          (here slot (subst (λ n. slice_get later n ≡ Some slot) same is))
      at k slot is (inr apart) =
          let old : slice_get handlers k ≡ Some slot = sym (others k apart) ∙ is in
          let within : k < length handlers = slice_get_within _ _ _ old in
          let was = get_some states k (omega (arith, within, keeps.many, agrees.many)) in
          let still : slice_get new k ≡ Some was.0 = changes.others k apart ∙ was.1 in
          let it = untouching ds d k was.0 (one.others k apart) in
          keeps_calm now can_act rule set ds d k it.touch was.0 was.0 slot (agrees.each k was.0 was.1) (agrees'.each k was.0 still)
          it.does it.is it.calm (unreplaced k apart) (unopened ds d k one.unopened) (keeps.each k slot old)

-- the counts over a change of one call
pub record Counts (states new : List CallState) (r x : CallState) : Type 0 where
  pub going : uncancelled new + one_if (not r.cancelled) ≡ uncancelled states + one_if (not x.cancelled)
  pub busy : running new + one_if (is_some r.run) ≡ running states + one_if (is_some x.run)

pub counts_one : (R : CallState → CallState → Type 0) (states new : List CallState) (c : ℕ) (r x : CallState) → ChangesAt c R states new
    → slice_get states c ≡ Some r → slice_get new c ≡ Some x → Counts states new r x
counts_one R states new c r x changes was is = record {
  going = count-change (λ y. not y.cancelled) states new c r x changes.many changes.others was is;
  busy = count-change (λ y. is_some y.run) states new c r x changes.many changes.others was is;
}

-- where the call takes no more places
pub places_one : (at : ℕ) (t : Touch) (states new : List CallState) (c : ℕ) (ended : Bool) → ChangesAt c (Turns at t) states new → c < length states
    → ((r x : CallState) → Turns at t r x → x.status ≡ None → (r.status ≡ None) × (length x.waiting.items ≤ length r.waiting.items))
    → HasPlaces states ended → HasPlaces new ended
places_one at t states new c ended changes within smaller places = record {
  one = λ k y is. one k y is (same_or_not k c);
  free = λ k y is unended input. case k y is unended input (same_or_not k c);
}
  where
    one : (k : ℕ) (y : CallState) → slice_get new k ≡ Some y → (k ≡ c) ⊎ (k ≢ c) → 0 < deque_capacity y.waiting
    one k y is (inl same) =
        let was = get_some states c within in
        let turns = changes.here was.0 y was.1 (subst (λ n. slice_get new n ≡ Some y) same is) in
        omega (arith, turns.capacity, places.one c was.0 was.1)
    one k y is (inr apart) = places.one k y (sym (changes.others k apart) ∙ is)

    case : (k : ℕ) (y : CallState) → slice_get new k ≡ Some y → y.status ≡ None → ended ≡ false → (k ≡ c) ⊎ (k ≢ c) → length y.waiting.items < deque_capacity y.waiting
    case k y is unended input (inl same) =
        let was = get_some states c within in
        let turns = changes.here was.0 y was.1 (subst (λ n. slice_get new n ≡ Some y) same is) in
        let less = smaller was.0 y turns unended in
        omega (arith, less.1, turns.capacity, places.free c was.0 was.1 less.0 input)
    case k y is unended input (inr apart) = places.free k y (sym (changes.others k apart) ∙ is) unended input
