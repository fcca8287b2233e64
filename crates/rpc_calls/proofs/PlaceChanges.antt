-- Lists in which places change.
use Rattle.std.proofs.Common.{◌≡◌, ◌≢◌, ◌⊎◌, ◌==◌, ℕ, zero, suc, ◌+◌, ◌<◌, ◌≤◌, Bool, true, List, [], ◌∷◌, ◌++◌, length, slice_get, slice_set, length-set, count_by, Some, refl, ap, sym, ◌∙◌, subst, inl, inr, arith, cond}
use Rattle.std.proofs.Math.Arith.{lt_of_le-ne}
use Rattle.std.proofs.lemmas.Option.{slice_get_within}
use Rattle.std.proofs.lemmas.Bool.{eqb-true}
use Rattle.std.proofs.lemmas.List.Sums.{sum_by-cons}
use Rattle.rpc_journal.proofs.table.StepLemmas.{get_set, get_other, same_or_not}
use Rattle.rpc_journal.proofs.PlaceLemmas.{below_or_not, some_same}
use Rattle.rpc_calls.specs.Marks.{one_if}
use Rattle.rpc_calls.specs.Places.{ChangesAll, ChangesAt}

pub suc_apart : (k c : ℕ) → suc k ≢ suc c → k ≢ c
suc_apart k c apart same = apart (ap suc same)

-- lists with the same elements at the same places are the same
pub same_list : {A : Type 0} (old new : List A) → length new ≡ length old → ((k : ℕ) → slice_get new k ≡ slice_get old k) → new ≡ old
same_list [] [] many at = refl
same_list [] (y ∷ new) many at = absurd (omega (arith, many))
same_list (x ∷ old) [] many at = absurd (omega (arith, many))
same_list (x ∷ old) (y ∷ new) many at =
    let first : Some y ≡ Some x = at 0 in
    let head : y ≡ x = cc in
    let tail : new ≡ old = same_list old new (omega (arith, many)) (λ k. at (suc k)) in
    cc

module _ {A : Type 0} (p : A → Bool) where
  pub count-cons : (x : A) (xs : List A) → count_by p (x ∷ xs) ≡ one_if (p x) + count_by p xs
  count-cons x xs = sum_by-cons (λ y. cond (p y) 1 0) x xs

  -- one place changes
  pub count-change : (old new : List A) (c : ℕ) (r x : A) → length new ≡ length old → ((k : ℕ) → k ≢ c → slice_get new k ≡ slice_get old k)
      → slice_get old c ≡ Some r → slice_get new c ≡ Some x → count_by p new + one_if (p r) ≡ count_by p old + one_if (p x)
  count-change [] new c r x many others was is = absurd cc
  count-change (y ∷ old) [] c r x many others was is = absurd cc
  count-change (y ∷ old) (z ∷ new) zero r x many others was is =
      let first : y ≡ r = cc in
      let later : z ≡ x = cc in
      let tail : new ≡ old = same_list old new (omega (arith, many)) (λ k. others (suc k) (λ h. absurd (omega (arith, h)))) in
      let a : count_by p (y ∷ old) ≡ one_if (p r) + count_by p old = subst (λ w. count_by p (y ∷ old) ≡ one_if (p w) + count_by p old) first (count-cons y old) in
      let b : count_by p (z ∷ new) ≡ one_if (p x) + count_by p old =
      subst (λ w. count_by p (z ∷ new) ≡ one_if (p w) + count_by p old) later (subst (λ ws. count_by p (z ∷ new) ≡ one_if (p z) + count_by p ws) tail (count-cons z new)) in
      omega (arith, a, b)
  count-change (y ∷ old) (z ∷ new) (suc c) r x many others was is =
      let same : Some z ≡ Some y = others 0 (λ h. absurd (omega (arith, h))) in
      let head : z ≡ y = cc in
      let rest = count-change old new c r x (omega (arith, many)) (λ k apart. others (suc k) (λ h. apart (omega (arith, h)))) was is in
      let b : count_by p (z ∷ new) ≡ one_if (p y) + count_by p new = subst (λ w. count_by p (z ∷ new) ≡ one_if (p w) + count_by p new) head (count-cons z new) in
      omega (arith, count-cons y old, b, rest)

  pub count-push : (xs : List A) (x : A) → count_by p (xs ++ x ∷ []) ≡ count_by p xs + one_if (p x)
  count-push [] x = omega (arith, count-cons x [])
  count-push (y ∷ xs) x = omega (arith, count-cons y (xs ++ x ∷ []), count-cons y xs, count-push xs x)

  -- one that passes is counted
  pub count-has : (xs : List A) (c : ℕ) (r : A) → slice_get xs c ≡ Some r → p r ≡ true → 1 ≤ count_by p xs
  count-has [] c r is passes = absurd cc
  count-has (y ∷ xs) zero r is passes =
      let same : y ≡ r = cc in
      let here : one_if (p y) ≡ 1 = ap one_if (ap p same ∙ passes) in
      omega (arith, count-cons y xs, here)
  count-has (y ∷ xs) (suc c) r is passes = omega (arith, count-cons y xs, count-has xs c r is passes)

-- a list of length 0
pub no_elements : {A : Type 0} (xs : List A) (n : ℕ) → n ≡ length xs → true ≡ (n == 0) → xs ≡ []
no_elements [] n many is = refl
no_elements (x ∷ xs) n many is = absurd (omega (arith, many, eqb-true n 0 (sym is)))

-- one place is set
pub set_changes : {A : Type 0} (R : A → A → Type 0) (xs : List A) (c : ℕ) (x : A) → c < length xs → ((r : A) → slice_get xs c ≡ Some r → R r x)
    → ChangesAt c R xs (slice_set xs c x)
set_changes R xs c x within changes = record {
  many = length-set xs c x;
  others = λ k apart. get_other xs c k x apart;
  here = λ r y was is.
      let same : Some x ≡ Some y = sym (get_set xs c x within) ∙ is in
      subst (R r) (some_same x y same) (changes r was);
}

pub set_here : {A : Type 0} (xs : List A) (c : ℕ) (x y : A) → c < length xs → slice_get (slice_set xs c x) c ≡ Some y → x ≡ y
set_here xs c x y within is = some_same x y (sym (get_set xs c x within) ∙ is)

-- each place below n changes as R says, and no other changes
pub record ChangesBelow {A : Type 0} (n : ℕ) (R : A → A → Type 0) (old new : List A) : Type 0 where
  pub many : length new ≡ length old
  pub each : (k : ℕ) (r x : A) → k < n → slice_get old k ≡ Some r → slice_get new k ≡ Some x → R r x
  pub rest : (k : ℕ) → n ≤ k → slice_get new k ≡ slice_get old k

-- at first none has
pub below_none : {A : Type 0} (R : A → A → Type 0) (xs : List A) → ChangesBelow 0 R xs xs
below_none R xs = record { many = refl; each = λ k r x below was is. absurd (omega (arith, below)); rest = λ k from. refl }

-- one more place changes
pub changes_more : {A : Type 0} (R : A → A → Type 0) (n : ℕ) (first old new : List A) → ChangesBelow n R first old → ChangesAt n R old new
    → ChangesBelow (n + 1) R first new
changes_more {A} R n first old new so_far change = record {
  many = change.many ∙ so_far.many;
  each = λ k r x below was is. at k r x below was is (same_or_not k n);
  rest = λ k from. change.others k (λ same. omega (arith, from, same)) ∙ so_far.rest k (omega (arith, from));
}
  where
    at : (k : ℕ) (r x : A) → k < n + 1 → slice_get first k ≡ Some r → slice_get new k ≡ Some x → (k ≡ n) ⊎ (k ≢ n) → R r x
    at k r x below was is (inl same) =
        change.here r x (so_far.rest n (omega arith) ∙ subst (λ j. slice_get first j ≡ Some r) same was) (subst (λ j. slice_get new j ≡ Some x) same is)
    at k r x below was is (inr apart) = so_far.each k r x (lt_of_le-ne (omega (arith, below)) apart) was (sym (change.others k apart) ∙ is)

-- all places have changed
pub changes_all : {A : Type 0} (R : A → A → Type 0) (n : ℕ) (old new : List A) → ChangesBelow n R old new → length old ≤ n → ChangesAll R old new
changes_all R n old new below all = record {
  many = below.many;
  each = λ k r x was is.
      let within : k < length old = slice_get_within _ _ _ was in
      below.each k r x (omega (arith, within, all)) was is;
}

-- the places between may stay as they are
pub changes_skip : {A : Type 0} (R : A → A → Type 0) (n m : ℕ) (old new : List A) → ChangesBelow n R old new → n ≤ m
    → ((k : ℕ) (r : A) → n ≤ k → k < m → slice_get new k ≡ Some r → R r r) → ChangesBelow m R old new
changes_skip {A} R n m old new below further stays = record {
  many = below.many;
  each = λ k r x within was is. at k r x within was is (below_or_not k n);
  rest = λ k from. below.rest k (omega (arith, from, further));
}
  where
    at : (k : ℕ) (r x : A) → k < m → slice_get old k ≡ Some r → slice_get new k ≡ Some x → (k < n) ⊎ (n ≤ k) → R r x
    at k r x within was is (inl early) = below.each k r x early was is
    at k r x within was is (inr late) =
        let same : r ≡ x = some_same r x (sym was ∙ sym (below.rest k late) ∙ is) in
        subst (R r) same (stays k r late within (below.rest k late ∙ was))

-- what is said of a list of which one place was set
module _ {A : Type 0} (later xs : List A) (c : ℕ) (x : A) (is : later ≡ slice_set xs c x) where
  pub set_many : length later ≡ length xs
  set_many = ap length is ∙ length-set xs c x

  pub set_others : (k : ℕ) → k ≢ c → slice_get later k ≡ slice_get xs k
  set_others k apart = ap (λ ys. slice_get ys k) is ∙ get_other xs c k x apart

  pub set_at : c < length xs → slice_get later c ≡ Some x
  set_at within = ap (λ ys. slice_get ys c) is ∙ get_set xs c x within
