-- A rising list after a new number, and after a filter.
use Rattle.std.proofs.Common.{◌≡◌, ℕ, ◌<◌, Bool, true, false, cond, ltb, ◌||◌, ◌==◌, List, [], ◌∷◌, ◌++◌, length, count_by, filter, insert, refl, sym, ap, subst, inl, inr, ◌⊎◌, arith}
use Rattle.std.specs.List.{AllByRecursion}
use Rattle.std.proofs.lemmas.Bool.{lt-ltb, le-ltb, ltb-true, eqb-false, true≢false, cases_order}
use Rattle.std.proofs.lemmas.List.Sums.{length-filter}
use Rattle.std.proofs.Math.Seq.{take-append_seam, drop-append_seam}
use Rattle.rpc_channel.specs.Rising.{IsRising, has_id, with_id}

-- each of these is larger
abbrev AllAbove : ℕ → List ℕ → Type 0
AllAbove id xs = AllByRecursion (λ y. id < y) xs

above_above : (a b : ℕ) (xs : List ℕ) → a < b → AllAbove b xs → AllAbove a xs
above_above a b [] lt above = tt
above_above a b (x ∷ xs) lt above = (omega (arith, above.0), above_above a b xs lt above.1)

filter_above : (id : ℕ) (xs : List ℕ) → AllAbove id xs → filter (λ x. ltb x id) xs ≡ []
filter_above id [] above = refl
filter_above id (x ∷ xs) above = rw (le-ltb x id (omega (arith, above.0))) (filter_above id xs above.1)

keep_above : (id : ℕ) (xs : List ℕ) → AllAbove id xs → filter (λ x. ltb id x) xs ≡ xs
keep_above id [] above = refl
keep_above id (x ∷ xs) above = rw (lt-ltb id x above.0) (ap (λ ys. x ∷ ys) (keep_above id xs above.1))

neither : (a b : Bool) → (a || b) ≡ false → (a ≡ false) × (b ≡ false)
neither true b h = absurd (true≢false h)
neither false b h = (refl, h)

-- a rising list without a number is the smaller ones, then the larger ones
parts : (id : ℕ) (xs : List ℕ) → IsRising xs → has_id xs id ≡ false
    → filter (λ x. ltb x id) xs ++ filter (λ x. ltb id x) xs ≡ xs
parts id [] rising new = refl
parts id (x ∷ xs) rising new =
    let apart = neither _ _ new in at apart.0 (parts id xs rising.1 apart.1) (cases_order x id)
  where
    at : (x == id) ≡ false → filter (λ y. ltb y id) xs ++ filter (λ y. ltb id y) xs ≡ xs
        → ((x ≡ id) ⊎ ((x < id) ⊎ (id < x)))
        → filter (λ y. ltb y id) (x ∷ xs) ++ filter (λ y. ltb id y) (x ∷ xs) ≡ x ∷ xs
    at other rest (inl same) = absurd (eqb-false x id other same)
    at other rest (inr (inl less)) =
        rw (lt-ltb x id less, le-ltb id x (omega (arith, less))) (ap (λ ys. x ∷ ys) rest)
    at other rest (inr (inr more)) =
        let above : AllAbove id xs = above_above id x xs more rising.0 in
        rw (le-ltb x id (omega (arith, more)), lt-ltb id x more, filter_above id xs above, keep_above id xs above) refl

-- a new number at the place after the smaller ones
pub insert_with_id : (id : ℕ) (xs : List ℕ) → IsRising xs → has_id xs id ≡ false
    → insert xs (count_by (λ x. ltb x id) xs) id ≡ with_id id xs
insert_with_id id xs rising new =
    let less : List ℕ = filter (λ x. ltb x id) xs in
    let more : List ℕ = filter (λ x. ltb id x) xs in
    let at : (ys : List ℕ) → ys ≡ less ++ more → insert ys (length less) id ≡ less ++ id ∷ more =
    λ ys e. rw (e, take-append_seam less more, drop-append_seam less more) refl in
    subst (λ n. insert xs n id ≡ less ++ id ∷ more) (length-filter _ xs) (at xs (sym (parts id xs rising new)))

AllByRecursion-filter : (P : ℕ → Type 0) (p : ℕ → Bool) (xs : List ℕ) → AllByRecursion P xs → AllByRecursion P (filter p xs)
AllByRecursion-filter P p [] all = tt
AllByRecursion-filter P p (x ∷ xs) all = at (p x) (AllByRecursion-filter P p xs all.1)
  where
    at : (b : Bool) → AllByRecursion P (filter p xs) → AllByRecursion P (cond b (x ∷ filter p xs) (filter p xs))
    at true rest = (all.0, rest)
    at false rest = rest

-- what a filter keeps of a rising list rises
pub IsRising-filter : (p : ℕ → Bool) (xs : List ℕ) → IsRising xs → IsRising (filter p xs)
IsRising-filter p [] rising = tt
IsRising-filter p (x ∷ xs) rising = at (p x) (IsRising-filter p xs rising.1)
  where
    at : (b : Bool) → IsRising (filter p xs) → IsRising (cond b (x ∷ filter p xs) (filter p xs))
    at true rest = (AllByRecursion-filter _ p xs rising.0, rest)
    at false rest = rest

AllByRecursion-append : (P : ℕ → Type 0) (xs ys : List ℕ) → AllByRecursion P xs → AllByRecursion P ys → AllByRecursion P (xs ++ ys)
AllByRecursion-append P [] ys left right = right
AllByRecursion-append P (x ∷ xs) ys left right = (left.0, AllByRecursion-append P xs ys left.1 right)

-- the larger numbers stand above, and the smaller ones below
above_filter : (id : ℕ) (xs : List ℕ) → AllAbove id (filter (λ x. ltb id x) xs)
above_filter id [] = tt
above_filter id (x ∷ xs) = at (ltb id x) refl (above_filter id xs)
  where
    at : (b : Bool) → ltb id x ≡ b → AllAbove id (filter (λ y. ltb id y) xs)
        → AllAbove id (cond b (x ∷ filter (λ y. ltb id y) xs) (filter (λ y. ltb id y) xs))
    at true e rest = (ltb-true id x e, rest)
    at false e rest = rest

-- smaller numbers, a number, and larger ones rise together
IsRising-between : (id : ℕ) (xs ys : List ℕ) → IsRising xs → AllByRecursion (λ x. x < id) xs → IsRising ys → AllAbove id ys
    → IsRising (xs ++ id ∷ ys)
IsRising-between id [] ys left below right above = (above, right)
IsRising-between id (x ∷ xs) ys left below right above = (
  AllByRecursion-append _ xs (id ∷ ys) left.0 (below.0, above_above x id ys below.0 above),
  IsRising-between id xs ys left.1 below.1 right above,
)

below_filter : (id : ℕ) (xs : List ℕ) → AllByRecursion (λ x. x < id) (filter (λ x. ltb x id) xs)
below_filter id [] = tt
below_filter id (x ∷ xs) = at (ltb x id) refl (below_filter id xs)
  where
    at : (b : Bool) → ltb x id ≡ b → AllByRecursion (λ y. y < id) (filter (λ y. ltb y id) xs)
        → AllByRecursion (λ y. y < id) (cond b (x ∷ filter (λ y. ltb y id) xs) (filter (λ y. ltb y id) xs))
    at true e rest = (ltb-true x id e, rest)
    at false e rest = rest

pub IsRising-with_id : (id : ℕ) (xs : List ℕ) → IsRising xs → IsRising (with_id id xs)
IsRising-with_id id xs rising =
    IsRising-between id _ _ (IsRising-filter _ xs rising) (below_filter id xs) (IsRising-filter _ xs rising) (above_filter id xs)
