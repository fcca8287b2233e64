-- How a plain table follows its history over one more entry.
use Rattle.std.proofs.Common.{◌≡◌, ◌≢◌, ◌⊎◌, ℕ, zero, suc, ◌+◌, ◌<◌, ◌≤◌, List, [], ◌∷◌, ◌++◌, length, set, slice_get, Some, None, option_to_list, refl, ap, sym, ◌∙◌, subst, inl, inr, arith, length-append, length-set}
use Rattle.std.proofs.lemmas.List.{append-nil}
use Rattle.std.proofs.lemmas.Option.{slice_get_within}
use Rattle.rpc_journal.specs.declared.table.call_state.CallState.{CallState}
use Rattle.rpc_journal.specs.Calls.{calls, call_count, call_at}
use Rattle.rpc_journal.specs.Effect.{Opening, Deed}
use Rattle.rpc_journal.specs.table.Agrees.{AgreesOn, AgreesOnCalls}
use Rattle.rpc_journal.specs.table.Touch.{Touch, Touches, IsTouched, untouched}
use Rattle.rpc_journal.proofs.PlaceLemmas.{get_front, get_last, below_or_not, some_same}
use Rattle.rpc_journal.proofs.table.AgreeLemmas.{agrees_touched, is_untouched, still_silent}

module _ {A : Type 0} where
  pub get_set : (xs : List A) (k : ℕ) (x : A) → k < length xs → slice_get (set xs k x) k ≡ Some x
  get_set [] k x within = absurd (omega arith)
  get_set (y ∷ xs) zero x within = refl
  get_set (y ∷ xs) (suc k) x within = get_set xs k x (omega arith)

  pub get_other : (xs : List A) (c k : ℕ) (x : A) → k ≢ c → slice_get (set xs c x) k ≡ slice_get xs k
  get_other [] c k x apart = refl
  get_other (y ∷ xs) zero zero x apart = absurd (apart refl)
  get_other (y ∷ xs) zero (suc k) x apart = refl
  get_other (y ∷ xs) (suc c) zero x apart = refl
  get_other (y ∷ xs) (suc c) (suc k) x apart = get_other xs c k x (λ same. apart (ap suc same))

-- two numbers are one, or apart
pub same_or_not : (k c : ℕ) → (k ≡ c) ⊎ (k ≢ c)
same_or_not k c = at (below_or_not k c) (below_or_not c k)
  where
    at : (k < c) ⊎ (c ≤ k) → (c < k) ⊎ (k ≤ c) → (k ≡ c) ⊎ (k ≢ c)
    at (inl h) q = inr (λ same. omega (arith, h, same))
    at (inr h) (inl g) = inr (λ same. omega (arith, g, same))
    at (inr h) (inr g) = inl (omega (arith, h, g))

-- the calls that were there stay as they opened
pub same_at : (ds : List Deed) (d : Deed) (k : ℕ) → k < call_count ds → call_at (d ∷ ds) k ≡ call_at ds k
same_at ds d k within = get_front (calls ds) (option_to_list d.does.opens) k within

pub same_count : (ds : List Deed) (d : Deed) → d.does.opens ≡ None → call_count (d ∷ ds) ≡ call_count ds
same_count ds d is = ap (λ o. length (calls ds ++ option_to_list o)) is ∙ ap length (append-nil (calls ds))

-- the entry does nothing to any call but c
pub record TouchesOnly (d : Deed) (c : ℕ) : Type 0 where
  pub other : (k : ℕ) → k ≢ c → Touches d k untouched

-- each state of the calls that were there agrees with the history with one more entry
pub record TellsOlder (ds : List Deed) (d : Deed) (states : List CallState) : Type 0 where
  pub many : length states ≡ call_count ds
  pub each : (k : ℕ) (y : CallState) → slice_get states k ≡ Some y → AgreesOn (d ∷ ds) k y

-- one state changes
pub one_changes : (ds : List Deed) (d : Deed) (states : List CallState) (c : ℕ) (t : Touch) (r x : CallState) → AgreesOnCalls ds states
    → slice_get states c ≡ Some r → Touches d c t → ((k : ℕ) → k < call_count ds → k ≢ c → Touches d k untouched)
    → IsTouched (length ds) t r x → TellsOlder ds d (set states c x)
one_changes ds d states c t r x agrees is does others touched = record {
  many = length-set states c x ∙ agrees.many;
  each = λ k y there. at k y there (same_or_not k c);
}
  where
    at : (k : ℕ) (y : CallState) → slice_get (set states c x) k ≡ Some y → (k ≡ c) ⊎ (k ≢ c) → AgreesOn (d ∷ ds) k y
    at k y there (inl same) =
        let it : Some x ≡ Some y = sym (get_set states c x (slice_get_within _ _ _ is)) ∙ (ap (slice_get (set states c x)) (sym same) ∙ there) in
        let within : c < length states = slice_get_within _ _ _ is in
        let told = agrees_touched ds d c t r x (agrees.each c r is) does touched (same_at ds d c (omega (arith, within, agrees.many))) in
        subst (λ z. AgreesOn (d ∷ ds) k z) (some_same x y it) (subst (λ n. AgreesOn (d ∷ ds) n x) (sym same) told)
    at k y there (inr apart) =
        let old : slice_get states k ≡ Some y = sym (get_other states c k x apart) ∙ there in
        let within : k < length states = slice_get_within _ _ _ old in
        let below : k < call_count ds = omega (arith, within, agrees.many) in
        agrees_touched ds d k untouched y y (agrees.each k y old) (others k below apart) (is_untouched (length ds) y) (same_at ds d k below)

-- no state changes
pub none_changes : (ds : List Deed) (d : Deed) (states : List CallState) → AgreesOnCalls ds states
    → ((k : ℕ) → k < call_count ds → Touches d k untouched) → TellsOlder ds d states
none_changes ds d states agrees others = record {
  many = agrees.many;
  each = λ k y there.
      let within : k < length states = slice_get_within _ _ _ there in
      let below : k < call_count ds = omega (arith, within, agrees.many) in
      agrees_touched ds d k untouched y y (agrees.each k y there) (others k below) (is_untouched (length ds) y) (same_at ds d k below);
}

-- and no call opens
pub none_opens : (ds : List Deed) (d : Deed) (states new : List CallState) → AgreesOnCalls ds states → TellsOlder ds d new
    → d.does.opens ≡ None → ((k : ℕ) → call_count ds ≤ k → Touches d k untouched) → AgreesOnCalls (d ∷ ds) new
none_opens ds d states new agrees older opens others = record {
  many = older.many ∙ sym (same_count ds d opens);
  each = older.each;
  beyond = λ k from.
      let past : call_count ds ≤ k = subst (λ n. n ≤ k) (same_count ds d opens) from in
      still_silent ds d k (agrees.beyond k past) (others k past);
}

-- or one opens, with which this state agrees
pub one_opens : (ds : List Deed) (d : Deed) (states new : List CallState) (o : Opening) (x : CallState) → AgreesOnCalls ds states → TellsOlder ds d new
    → d.does.opens ≡ Some o → AgreesOn (d ∷ ds) (call_count ds) x → ((k : ℕ) → call_count ds < k → Touches d k untouched)
    → AgreesOnCalls (d ∷ ds) (new ++ x ∷ [])
one_opens ds d states new o x agrees older opens newest others = record {
  many = length-append new (x ∷ []) ∙ (ap (λ n. n + 1) older.many ∙ sym more);
  each = λ k y there. at k y there (below_or_not k (length new));
  beyond = λ k from.
      let past : call_count ds < k = omega (arith, from, more) in
      still_silent ds d k (agrees.beyond k (omega (arith, past))) (others k past);
}
  where
    more : call_count (d ∷ ds) ≡ call_count ds + 1
    more = ap (λ q. length (calls ds ++ option_to_list q)) opens ∙ length-append (calls ds) (o ∷ [])

    at : (k : ℕ) (y : CallState) → slice_get (new ++ x ∷ []) k ≡ Some y → (k < length new) ⊎ (length new ≤ k) → AgreesOn (d ∷ ds) k y
    at k y there (inl within) = older.each k y (sym (get_front new (x ∷ []) k within) ∙ there)
    at k y there (inr past) =
        let bound : k < length (new ++ x ∷ []) = slice_get_within _ _ _ there in
        let same : k ≡ length new = omega (arith, past, bound, length-append new (x ∷ [])) in
        let it : Some x ≡ Some y = sym (get_last new x) ∙ (ap (slice_get (new ++ x ∷ [])) (sym same) ∙ there) in
        subst (λ z. AgreesOn (d ∷ ds) k z) (some_same x y it) (subst (λ n. AgreesOn (d ∷ ds) n x) (sym (same ∙ older.many)) newest)
