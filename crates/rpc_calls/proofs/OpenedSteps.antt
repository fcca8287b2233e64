-- The calls of a table over one that opens.
use Rattle.std.proofs.Common.{◌≡◌, ◌≢◌, ◌⊎◌, inl, inr, ◌==◌, ℕ, ◌+◌, ◌<◌, ◌≤◌, true, false, List, [], ◌∷◌, ◌++◌, length, slice_get, slice_set, length-set, Some, None, if◌then◌else◌, ap, sym, ◌∙◌, subst, arith, length-append}
use Rattle.std.proofs.lemmas.Bool.{eq-eqb, ne_eqb}
use Rattle.std.proofs.lemmas.Option.{slice_get_past, slice_get_within}
use Rattle.rpc_ids.specs.declared.status.Status.{Status}
use Rattle.rpc_journal.specs.declared.table.call_state.CallState.{CallState}
use Rattle.rpc_journal.specs.table.Touch.{closing}
use Rattle.rpc_journal.specs.table.Turns.{Turns}
use Rattle.rpc_journal.proofs.PlaceLemmas.{below_or_not, get_front, get_last, get_some, some_same}
use Rattle.rpc_journal.proofs.table.StepLemmas.{get_other, get_set, same_or_not}
use Rattle.rpc_calls.specs.declared.call_place.CallPlace.{CallPlace}
use Rattle.rpc_calls.specs.declared.call_place.CallPlace.TheVariants.{Kept}
use Rattle.rpc_calls.specs.declared.kept_calls.KeptCalls.{KeptCalls}
use Rattle.rpc_calls.specs.Facts.{is_done_with}
use Rattle.rpc_calls.specs.InUse.{AreInUse, AreKept}
use Rattle.rpc_calls.specs.Kept.{is_kept, is_kept_at}
use Rattle.rpc_calls.specs.Opened.{OpensAnew}
use Rattle.rpc_calls.specs.Opening.{IsSameRoll, OpensRecord}
use Rattle.rpc_calls.specs.Places.{ChangesAt}
use Rattle.rpc_calls.specs.Roll.{Roll}
use Rattle.rpc_calls.proofs.InUseSteps.{live_used}
use Rattle.rpc_calls.proofs.PlaceChanges.{same_list, set_changes}

-- one more call is kept
pub kept_opened : (kept later : KeptCalls) (places after : List CallPlace) (key n : ℕ) → AreKept kept places → n ≡ length places
    → ((c : ℕ) → is_kept later c ≡ (if n == c then true else is_kept kept c)) → after ≡ places ++ Kept key ∷ [] → AreKept later after
kept_opened kept later places after key n are next inserted placed = record { each = λ c. at c (same_or_not c n) }
  where
    at : (c : ℕ) → (c ≡ n) ⊎ (c ≢ n) → is_kept later c ≡ is_kept_at (slice_get after c)
    at c (inl same) =
        inserted c ∙ ap (λ b. if b then true else is_kept kept c) (eq-eqb n c (sym same))
        ∙ sym (ap (λ k. is_kept_at (slice_get after k)) (same ∙ next) ∙ ap (λ ps. is_kept_at (slice_get ps (length places))) placed ∙ ap is_kept_at (get_last places (Kept key)))
    at c (inr apart) =
        inserted c ∙ ap (λ b. if b then true else is_kept kept c) (ne_eqb n c (λ same. apart (sym same))) ∙ are.each c ∙ old (below_or_not c (length places))
      where
        old : (c < length places) ⊎ (length places ≤ c) → is_kept_at (slice_get places c) ≡ is_kept_at (slice_get after c)
        old (inl below) = ap is_kept_at (sym (ap (λ ps. slice_get ps c) placed ∙ get_front places (Kept key ∷ []) c below))
        old (inr past) =
            ap is_kept_at (slice_get_past places c past)
            ∙ ap is_kept_at (sym (ap (λ ps. slice_get ps c) placed ∙ slice_get_past (places ++ Kept key ∷ []) c (omega (arith, past, apart_from past, length-append places (Kept key ∷ [])))))
          where
            apart_from : length places ≤ c → length places < c
            apart_from from = by (below_or_not (length places) c)
              where
                by : (length places < c) ⊎ (c ≤ length places) → length places < c
                by (inl less) = less
                by (inr more) = absurd (apart (omega (arith, from, more, next)))

-- where it couldn't open, the others are kept as before
pub kept_again : (kept more later : KeptCalls) (places : List CallPlace) (n : ℕ) → AreKept kept places → n ≡ length places
    → ((c : ℕ) → is_kept more c ≡ (if n == c then true else is_kept kept c)) → ((c : ℕ) → is_kept later c ≡ (if n == c then false else is_kept more c)) → AreKept later places
kept_again kept more later places n are next inserted removed = record { each = λ c. at c (same_or_not c n) }
  where
    at : (c : ℕ) → (c ≡ n) ⊎ (c ≢ n) → is_kept later c ≡ is_kept_at (slice_get places c)
    at c (inl same) =
        removed c ∙ ap (λ b. if b then false else is_kept more c) (eq-eqb n c (sym same)) ∙ ap is_kept_at (sym (slice_get_past places c (omega (arith, same, next))))
    at c (inr apart) =
        let other : (n == c) ≡ false = ne_eqb n c (λ same. apart (sym same)) in
        removed c ∙ ap (λ b. if b then false else is_kept more c) other ∙ inserted c ∙ ap (λ b. if b then true else is_kept kept c) other ∙ are.each c

module _ {H : Type 0} where
  pub used_opened : (x : CallState) (h : H) (old new : Roll H) → AreInUse old → OpensRecord x h old new → length old.places ≡ length old.states.calls.items → x.status ≡ None → AreInUse new
  used_opened x h old new used opens many live = record { used = λ k r kept is. at k r kept is (below_or_not k (length old.places)) }
    where
      at : (k : ℕ) (r : CallState) → is_kept_at (slice_get new.places k) ≡ true → slice_get new.states.calls.items k ≡ Some r → (k < length old.places) ⊎ (length old.places ≤ k) → is_done_with r ≡ false
      at k r kept is (inl below) =
          used.used k r (ap is_kept_at (sym (ap (λ ps. slice_get ps k) opens.places ∙ get_front old.places (Kept opens.key ∷ []) k below)) ∙ kept)
          (sym (ap (λ ss. slice_get ss k) opens.calls ∙ get_front old.states.calls.items (x ∷ []) k (omega (arith, below, many))) ∙ is)
      at k r kept is (inr past) =
          let there : slice_get (old.states.calls.items ++ x ∷ []) k ≡ Some r = ap (λ ss. slice_get ss k) (sym opens.calls) ∙ is in
          let last : k ≡ length old.states.calls.items = omega (arith, past, many, slice_get_within (old.states.calls.items ++ x ∷ []) k r there, length-append old.states.calls.items (x ∷ [])) in
          let it : x ≡ r = some_same x r (sym (get_last old.states.calls.items x) ∙ ap (slice_get (old.states.calls.items ++ x ∷ [])) (sym last) ∙ there) in
          subst (λ q. is_done_with q ≡ false) it (live_used x live)

  pub used_alike : (old new : Roll H) → AreInUse old → IsSameRoll old new → AreInUse new
  used_alike old new used same = record {
    used = λ k r kept is. used.used k r (ap (λ ps. is_kept_at (slice_get ps k)) (sym same.places) ∙ kept) (ap (λ ss. slice_get ss k) (sym same.calls) ∙ is);
  }

-- the new call stands behind the others, of which an older one has ended
pub opens_anew : (c at : ℕ) (status : Status) (x : CallState) (states mid after : List CallState) → mid ≡ states ++ x ∷ [] → c < length states
    → ChangesAt c (Turns at (closing status)) mid after → OpensAnew c at status x states after
opens_anew c at status x states mid after opened within changes =
    record { between = slice_set states c y.0; ends = set_changes (Turns at (closing status)) states c y.0 within here; opens = same_list (slice_set states c y.0 ++ x ∷ []) after many each }
  where
    change : ChangesAt c (Turns at (closing status)) (states ++ x ∷ []) after
    change = subst (λ ss. ChangesAt c (Turns at (closing status)) ss after) opened changes

    y : (s : CallState) × (slice_get after c ≡ Some s)
    y = get_some after c (omega (arith, within, change.many, length-append states (x ∷ [])))

    here : (r : CallState) → slice_get states c ≡ Some r → Turns at (closing status) r y.0
    here r was = change.here r y.0 (get_front states (x ∷ []) c within ∙ was) y.1

    many : length after ≡ length (slice_set states c y.0 ++ x ∷ [])
    many = change.many ∙ length-append states (x ∷ []) ∙ ap (λ n. n + 1) (sym (length-set states c y.0)) ∙ sym (length-append (slice_set states c y.0) (x ∷ []))

    below : (k : ℕ) → k < length states → (k ≡ c) ⊎ (k ≢ c) → slice_get after k ≡ slice_get (slice_set states c y.0) k
    below k less (inl same) = ap (slice_get after) same ∙ y.1 ∙ sym (get_set states c y.0 within) ∙ ap (slice_get (slice_set states c y.0)) (sym same)
    below k less (inr apart) = change.others k apart ∙ get_front states (x ∷ []) k less ∙ sym (get_other states c k y.0 apart)

    past : (k : ℕ) → length states ≤ k → (k ≡ length states) ⊎ (k ≢ length states) → slice_get after k ≡ slice_get (slice_set states c y.0 ++ x ∷ []) k
    past k from (inl last) =
        change.others k (λ same. absurd (omega (arith, from, within, same)))
        ∙ ap (slice_get (states ++ x ∷ [])) last ∙ get_last states x
        ∙ sym (get_last (slice_set states c y.0) x) ∙ ap (slice_get (slice_set states c y.0 ++ x ∷ [])) (length-set states c y.0 ∙ sym last)
    past k from (inr further) =
        let more : length states < k = beyond (below_or_not (length states) k) in
        slice_get_past after k (omega (arith, more, change.many, length-append states (x ∷ [])))
        ∙ sym (slice_get_past (slice_set states c y.0 ++ x ∷ []) k (omega (arith, more, sym many, change.many, length-append states (x ∷ []))))
      where
        beyond : (length states < k) ⊎ (k ≤ length states) → length states < k
        beyond (inl less) = less
        beyond (inr no_more) = absurd (further (omega (arith, from, no_more)))

    each : (k : ℕ) → slice_get after k ≡ slice_get (slice_set states c y.0 ++ x ∷ []) k
    each k = by (below_or_not k (length states))
      where
        by : (k < length states) ⊎ (length states ≤ k) → slice_get after k ≡ slice_get (slice_set states c y.0 ++ x ∷ []) k
        by (inl less) = below k less (same_or_not k c) ∙ sym (get_front (slice_set states c y.0) (x ∷ []) k (omega (arith, less, length-set states c y.0)))
        by (inr from) = past k from (same_or_not k (length states))
