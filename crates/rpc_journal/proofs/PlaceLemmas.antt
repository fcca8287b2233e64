-- Elements of lists by their places.
use Rattle.std.proofs.Common.{◌≡◌, ◌⊎◌, ℕ, zero, suc, ◌<◌, ◌≤◌, List, [], ◌∷◌, ◌++◌, length, slice_get, get_or, Some, None, refl, ap, sym, ◌∙◌, inl, inr, arith}
use Rattle.std.proofs.lemmas.Option.{slice_get-get_or}

pub below_or_not : (n m : ℕ) → (n < m) ⊎ (m ≤ n)
below_or_not n zero = inr (omega arith)
below_or_not zero (suc m) = inl (omega arith)
below_or_not (suc n) (suc m) = at (below_or_not n m)
  where
    at : (n < m) ⊎ (m ≤ n) → (suc n < suc m) ⊎ (suc m ≤ suc n)
    at (inl h) = inl (omega (arith, h))
    at (inr h) = inr (omega (arith, h))

module _ {A : Type 0} where
  pub some_same : (x y : A) → Some x ≡ Some y → x ≡ y
  some_same x y is = cc

  pub get_front : (xs ys : List A) (k : ℕ) → k < length xs → slice_get (xs ++ ys) k ≡ slice_get xs k
  get_front [] ys k within = absurd (omega arith)
  get_front (x ∷ xs) ys zero within = refl
  get_front (x ∷ xs) ys (suc k) within = get_front xs ys k (omega arith)

  pub get_last : (xs : List A) (y : A) → slice_get (xs ++ y ∷ []) (length xs) ≡ Some y
  get_last [] y = refl
  get_last (x ∷ xs) y = get_last xs y

  pub get_some : (xs : List A) (k : ℕ) → k < length xs → (x : A) × (slice_get xs k ≡ Some x)
  get_some [] k within = absurd (omega arith)
  get_some (x ∷ xs) zero within = (x, refl)
  get_some (x ∷ xs) (suc k) within = get_some xs k (omega arith)

  pub get_none : (xs : List A) (k : ℕ) → slice_get xs k ≡ None → length xs ≤ k
  get_none [] k none = omega arith
  get_none (x ∷ xs) zero none = absurd cc
  get_none (x ∷ xs) (suc k) none = omega (arith, get_none xs k none)

  -- the element that an index reads
  pub get_read : (xs : List A) (k : ℕ) (x : A) → k < length xs → x ≡ get_or xs k x → slice_get xs k ≡ Some x
  get_read xs k x within is = slice_get-get_or xs k x within ∙ ap Some (sym is)
