-- The list of the calls for which an event waits, where one comes or goes.
use Rattle.std.proofs.Common.{◌≡◌, ◌≢◌, ◌==◌, ◌⊎◌, inl, inr, ℕ, zero, suc, ◌+◌, ◌-◌, ◌<◌, ◌≤◌, Bool, true, false, not, ◌&&◌, ◌||◌, List, [], ◌∷◌, length, get_or, Option, Some, None, Result, Ok, Err, OnOk, OnErr, refl, ap, sym, ◌∙◌, subst, arith}
use Rattle.std.specs.List.{Contains, insert, remove}
use Rattle.std.specs.Prelude.{nat_lt, nat_le}
use Rattle.std.proofs.lemmas.Bool.{true≢false, and_parts, eqb-true, eqb-false, eq-eqb, ltb-true, ltb-false, lt-ltb, le-ltb, leb-true, leb-false, le-leb}
use Rattle.std.proofs.lemmas.List.{get_or_default}
use Rattle.std.proofs.lemmas.List.Edits.{length-insert, get_or-insert_below, get_or-insert_at, get_or-insert_above, length-remove, get_or-remove_below, get_or-remove_above}
use Rattle.std.proofs.lemmas.List.Elements.{Contains-append_cases, Contains-append_right}
use Rattle.std.proofs.lemmas.List.Sorted.{IsPermutation-insert, IsPermutation-remove, Contains-permutation}
use Rattle.rpc_journal.proofs.PlaceLemmas.{below_or_not}
use Rattle.rpc_calls.specs.declared.waiting_calls.WaitingCall.{WaitingCall}
use Rattle.rpc_calls.specs.Listed.{Goes, InOrder, IsPlaceOf, PlaceInOrder, Precedes, Relists, goes_first, waits_since}

-- a call that goes first precedes the other, and else the other precedes it
pub first_precedes : (c p k q : ℕ) → goes_first c p k q ≡ true → Precedes c p k q
first_precedes c p k q first = at (nat_lt p q) refl first
  where
    at : (b : Bool) → nat_lt p q ≡ b → (b || ((p == q) && nat_le c k)) ≡ true → Precedes c p k q
    at true sooner h = inl (ltb-true p q sooner)
    at false later h = let both = and_parts (p == q) (nat_le c k) h in inr (eqb-true p q both.0, leb-true c k both.1)

pub last_follows : (c p k q : ℕ) → goes_first c p k q ≡ false → Precedes k q c p
last_follows c p k q last = at (nat_lt p q) refl (p == q) refl last
  where
    at : (b : Bool) → nat_lt p q ≡ b → (e : Bool) → (p == q) ≡ e → (b || (e && nat_le c k)) ≡ false → Precedes k q c p
    at true sooner e is h = absurd (true≢false h)
    at false later true same h = inr (sym (eqb-true p q same), omega (arith, leb-false c k h))
    at false later false apart h = inl (omega (arith, ltb-false p q later, eqb-false p q apart))

pub precedes_both : (c p k q n r : ℕ) → Precedes c p k q → Precedes k q n r → Precedes c p n r
precedes_both c p k q n r (inl h) (inl j) = inl (omega (arith, h, j))
precedes_both c p k q n r (inl h) (inr j) = inl (omega (arith, h, j.0))
precedes_both c p k q n r (inr h) (inl j) = inl (omega (arith, h.0, j))
precedes_both c p k q n r (inr h) (inr j) = inr (h.0 ∙ j.0, omega (arith, h.1, j.1))

-- and one that precedes the other goes first
pub precedes_first : (c p k q : ℕ) → Precedes c p k q → goes_first c p k q ≡ true
precedes_first c p k q (inl h) = rw (lt-ltb p q h) refl
precedes_first c p k q (inr h) = rw (le-ltb p q (omega (arith, h.0)), eq-eqb p q h.0, le-leb c k h.1) refl

-- a call that goes before a later one of the list goes before all behind that one
pub in_order_parts : (xs : List WaitingCall) (c p : ℕ) → InOrder xs → (i j : ℕ) (d : WaitingCall) → i ≤ j → j < length xs
    → goes_first (get_or xs j d).call (get_or xs j d).since c p ≡ true → goes_first (get_or xs i d).call (get_or xs i d).since c p ≡ true
in_order_parts xs c p order i j d le within first =
    let v = get_or xs i d in
    let w = get_or xs j d in
    precedes_first v.call v.since c p
    (precedes_both v.call v.since w.call w.since c p (order i j d le within) (first_precedes w.call w.since c p first))

-- two elements that are these two stand as they do
goes_as : (v w a b : WaitingCall) → v ≡ a → w ≡ b → Goes a b → Goes v w
goes_as v w a b first second goes = subst (λ x. Goes x w) (sym first) (subst (Goes a) (sym second) goes)

-- where an element of a list with one more stands
abbrev StandsAt : List WaitingCall → ℕ → WaitingCall → ℕ → WaitingCall → Type 0
StandsAt xs at w k d =
    ((k < at) × (get_or (insert xs at w) k d ≡ get_or xs k d))
    ⊎ (((k ≡ at) × (get_or (insert xs at w) k d ≡ w)) ⊎ ((m : ℕ) × (k ≡ m + 1) × (at ≤ m) × (get_or (insert xs at w) k d ≡ get_or xs m d)))

stands_at : (xs : List WaitingCall) (at : ℕ) (w : WaitingCall) (k : ℕ) (d : WaitingCall) → at ≤ length xs → StandsAt xs at w k d
stands_at xs at w k d within = by k (below_or_not k at)
  where
    above : (m : ℕ) → at ≤ m → StandsAt xs at w (m + 1) d
    above m past = inr (inr (m, refl, past, get_or-insert_above xs at w d m past within))

    behind : (k : ℕ) → at ≤ k → (k < suc at) ⊎ (suc at ≤ k) → StandsAt xs at w k d
    behind k past (inl near) =
        let same : k ≡ at = omega (arith, past, near) in
        inr (inl (same, ap (λ n. get_or (insert xs at w) n d) same ∙ get_or-insert_at xs at w d within))
    behind k past (inr far) = subst (λ n. StandsAt xs at w n d) (omega (arith, far)) (above (k - 1) (omega (arith, far)))

    by : (k : ℕ) → (k < at) ⊎ (at ≤ k) → StandsAt xs at w k d
    by k (inl below) = inl (below, get_or-insert_below xs at w d k below within)
    by k (inr past) = behind k past (below_or_not k (suc at))

-- one more call comes to its place
pub order_inserted : (xs : List WaitingCall) (c p at : ℕ) → InOrder xs → PlaceInOrder p c xs at → InOrder (insert xs at (waits_since c p))
order_inserted xs c p at order place = λ i j d le within. by i j d le (omega (arith, within, length-insert xs at w place.within))
    (stands_at xs at w i d place.within) (stands_at xs at w j d place.within)
  where
    w : WaitingCall
    w = waits_since c p

    by : (i j : ℕ) (d : WaitingCall) → i ≤ j → j < length xs + 1 → StandsAt xs at w i d → StandsAt xs at w j d
        → Goes (get_or (insert xs at w) i d) (get_or (insert xs at w) j d)
    by i j d le within (inl f) (inl s) = goes_as _ _ _ _ f.1 s.1 (order i j d le (omega (arith, s.0, place.within)))
    by i j d le within (inl f) (inr (inl s)) = goes_as _ _ _ _ f.1 s.1 (place.before i d f.0)
    by i j d le within (inl f) (inr (inr s)) = goes_as _ _ _ _ f.1 s.3 (order i s.0 d (omega (arith, f.0, s.2)) (omega (arith, within, s.1)))
    by i j d le within (inr (inl f)) (inl s) = absurd (omega (arith, le, f.0, s.0))
    by i j d le within (inr (inl f)) (inr (inl s)) = goes_as _ _ _ _ f.1 s.1 (inr (refl, omega arith))
    by i j d le within (inr (inl f)) (inr (inr s)) = goes_as _ _ _ _ f.1 s.3 (place.behind s.0 d s.2 (omega (arith, within, s.1)))
    by i j d le within (inr (inr f)) (inl s) = absurd (omega (arith, le, f.1, f.2, s.0))
    by i j d le within (inr (inr f)) (inr (inl s)) = absurd (omega (arith, le, f.1, f.2, s.0))
    by i j d le within (inr (inr f)) (inr (inr s)) = goes_as _ _ _ _ f.3 s.3 (order f.0 s.0 d (omega (arith, le, f.1, s.1)) (omega (arith, within, s.1)))

-- where an element of a list with one less stood
abbrev StoodAt : List WaitingCall → ℕ → ℕ → WaitingCall → Type 0
StoodAt xs at k d =
    ((k < at) × (get_or (remove xs at) k d ≡ get_or xs k d)) ⊎ ((at ≤ k) × (get_or (remove xs at) k d ≡ get_or xs (k + 1) d))

stood_at : (xs : List WaitingCall) (at k : ℕ) (d : WaitingCall) → at < length xs → StoodAt xs at k d
stood_at xs at k d within = by (below_or_not k at)
  where
    by : (k < at) ⊎ (at ≤ k) → StoodAt xs at k d
    by (inl below) = inl (below, get_or-remove_below xs at d k below within)
    by (inr past) = inr (past, get_or-remove_above xs at d k past within)

order_removed : (xs : List WaitingCall) (at : ℕ) → InOrder xs → at < length xs → InOrder (remove xs at)
order_removed xs at order there = λ i j d le within. by i j d le (omega (arith, within, length-remove xs at there)) (stood_at xs at i d there) (stood_at xs at j d there)
  where
    by : (i j : ℕ) (d : WaitingCall) → i ≤ j → j + 1 < length xs → StoodAt xs at i d → StoodAt xs at j d
        → Goes (get_or (remove xs at) i d) (get_or (remove xs at) j d)
    by i j d le within (inl f) (inl s) = goes_as _ _ _ _ f.1 s.1 (order i j d le (omega (arith, within)))
    by i j d le within (inl f) (inr s) = goes_as _ _ _ _ f.1 s.1 (order i (j + 1) d (omega (arith, le)) within)
    by i j d le within (inr f) (inl s) = absurd (omega (arith, le, f.0, s.0))
    by i j d le within (inr f) (inr s) = goes_as _ _ _ _ f.1 s.1 (order (i + 1) (j + 1) d (omega (arith, le)) within)

-- where a call of the list doesn't follow w, none before it does
pub parted : (w : WaitingCall) (xs : List WaitingCall) → InOrder xs → (i j : ℕ) (d : WaitingCall) → i ≤ j → j < length xs
    → not (goes_first w.call w.since (get_or xs j d).call (get_or xs j d).since) ≡ true → not (goes_first w.call w.since (get_or xs i d).call (get_or xs i d).since) ≡ true
parted w xs order i j d le within before = at (goes_first w.call w.since (get_or xs i d).call (get_or xs i d).since) refl
  where
    at : (b : Bool) → goes_first w.call w.since (get_or xs i d).call (get_or xs i d).since ≡ b → not (goes_first w.call w.since (get_or xs i d).call (get_or xs i d).since) ≡ true
    at false is = ap not is
    at true is =
        let x = get_or xs i d in
        let y = get_or xs j d in
        let later : goes_first w.call w.since y.call y.since ≡ true = precedes_first w.call w.since y.call y.since (precedes_both w.call w.since x.call x.since y.call y.since (first_precedes w.call w.since x.call x.since is) (order i j d le within)) in
        absurd (true≢false (sym before ∙ ap not later))

-- two calls that precede each other are one
one_call : (c p k q : ℕ) → Precedes c p k q → Precedes k q c p → k ≡ c
one_call c p k q (inl h) (inl j) = absurd (omega (arith, h, j))
one_call c p k q (inl h) (inr j) = absurd (omega (arith, h, j.0))
one_call c p k q (inr h) (inl j) = absurd (omega (arith, h.0, j))
one_call c p k q (inr h) (inr j) = omega (arith, h.1, j.1)

-- a call of the list stands behind all that go before it
pub stands_behind : (w : WaitingCall) (xs : List WaitingCall) (at : ℕ) → InOrder xs → Contains xs w
    → ((k : ℕ) (d : WaitingCall) → k < at → not (goes_first w.call w.since (get_or xs k d).call (get_or xs k d).since) ≡ true)
    → ((k : ℕ) (d : WaitingCall) → at ≤ k → k < length xs → not (goes_first w.call w.since (get_or xs k d).call (get_or xs k d).since) ≡ false) → IsPlaceOf w xs at
stands_behind w xs at order there before behind = by (below_or_not there.0 at)
  where
    its : goes_first w.call w.since (get_or xs there.0 w).call (get_or xs there.0 w).since ≡ true
    its = ap (λ (x : WaitingCall). goes_first w.call w.since x.call x.since) there.2 ∙ precedes_first w.call w.since w.call w.since (inr (refl, omega arith))

    by : (there.0 < at) ⊎ (at ≤ there.0) → IsPlaceOf w xs at
    by (inl early) = absurd (true≢false (sym (before there.0 w early) ∙ ap not its))
    by (inr past) =
        let within : at < length xs = omega (arith, past, there.1) in
        let x = get_or xs at w in
        let after : Precedes w.call w.since x.call x.since = first_precedes w.call w.since x.call x.since (not_false _ (behind at w (omega arith) within)) in
        let ahead : Precedes x.call x.since w.call w.since = subst (λ (y : WaitingCall). Precedes x.call x.since y.call y.since) there.2 (order at there.0 w past there.1) in
        record { within = within; is = λ d. ap (λ (y : WaitingCall). y.call) (get_or_same d within) ∙ one_call w.call w.since x.call x.since after ahead }
      where
        not_false : (b : Bool) → not b ≡ false → b ≡ true
        not_false true is = refl
        not_false false is = absurd (true≢false is)

        get_or_same : (d : WaitingCall) → at < length xs → get_or xs at d ≡ get_or xs at w
        get_or_same d within = get_or_default xs at d w within

-- it is taken out
pub taken_out : (w : WaitingCall) (at : ℕ) (xs after : List WaitingCall) → InOrder xs → IsPlaceOf w xs at → after ≡ remove xs at
    → Relists w.call (Some w.since) None xs after
taken_out w at xs after order hit removed = record {
  here = λ p h. absurd cc;
  others = λ v apart there. subst (λ ys. Contains ys v) (sym removed) (left v apart (Contains-permutation xs (x ∷ remove xs at) v (IsPermutation-remove xs at x hit.within same) there));
  many = omega (arith, ap length removed, length-remove xs at hit.within);
  order = subst InOrder (sym removed) (order_removed xs at order hit.within);
}
  where
    x : WaitingCall
    x = get_or xs at w

    same : x ≡ get_or xs at x
    same = get_or_default xs at w x hit.within

    left : (v : WaitingCall) → v.call ≢ w.call → Contains (x ∷ remove xs at) v → Contains (remove xs at) v
    left v apart there = by (Contains-append_cases (x ∷ []) (remove xs at) v there)
      where
        its : x.call ≡ w.call
        its = hit.is w

        by : Contains (x ∷ []) v ⊎ Contains (remove xs at) v → Contains (remove xs at) v
        by (inr in_rest) = in_rest
        by (inl (zero, within, is)) = absurd (apart (ap (λ (y : WaitingCall). y.call) (sym is) ∙ its))
        by (inl (suc k, within, is)) = absurd (omega (arith, within))

-- it comes to its place
pub put_in : (w : WaitingCall) (at : ℕ) (xs after : List WaitingCall) → InOrder xs → PlaceInOrder w.since w.call xs at → after ≡ insert xs at w
    → Relists w.call None (Some w.since) xs after
put_in w at xs after order place inserted = record {
  here = λ p h. subst (λ ys. Contains ys (waits_since w.call p)) (sym inserted) (subst (λ n. Contains (insert xs at w) (waits_since w.call n)) (some_is w.since p h)
      (Contains-permutation (w ∷ xs) (insert xs at w) w (IsPermutation-insert xs at w) (0, omega arith, refl)));
  others = λ v apart there. subst (λ ys. Contains ys v) (sym inserted)
      (Contains-permutation (w ∷ xs) (insert xs at w) v (IsPermutation-insert xs at w) (Contains-append_right (w ∷ []) xs v there));
  many = omega (arith, ap length inserted, length-insert xs at w place.within);
  order = subst InOrder (sym inserted) (order_inserted xs w.call w.since at order place);
}
  where
    some_is : (p q : ℕ) → Some p ≡ Some q → p ≡ q
    some_is p q h = cc

-- it goes from one place to another
pub put_back : (c p q : ℕ) (xs between after : List WaitingCall) → Relists c (Some p) None xs between → Relists c None (Some q) between after
    → Relists c (Some p) (Some q) xs after
put_back c p q xs between after first second = record {
  here = second.here;
  others = λ w apart there. second.others w apart (first.others w apart there);
  many = omega (arith, first.many, second.many);
  order = second.order;
}

-- the list stays as it is
pub left_listed : (c : ℕ) (was : Option ℕ) (xs : List WaitingCall) → InOrder xs → ((p : ℕ) → was ≡ Some p → Contains xs (waits_since c p)) → Relists c was was xs xs
left_listed c was xs order there = record { here = there; others = λ w apart before. before; many = refl; order = order }

-- what is never refused was done
pub is_done : {A E : Type 0} (r : Result A E) (P Q : Type 0) → OnOk r P → OnErr r Q → (Q → ⊥) → P
is_done (Ok a) P Q done refused never = done
is_done (Err e) P Q done refused never = absurd (never refused)
