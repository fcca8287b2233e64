-- What entries do to each call that passes a test.
use Rattle.std.proofs.Common.{◌≡◌, ℕ, zero, suc, ◌+◌, ◌<◌, ◌≤◌, Bool, true, false, not, ◌&&◌, ◌||◌, ◌==◌, List, [], ◌∷◌, length, map, slice_get, Option, Some, None, if◌then◌else◌, refl, ap, sym, ◌∙◌, eq-eqb, ne_eqb, arith}
use Rattle.std.specs.List.{list_any}
use Rattle.rpc_journal.specs.Calls.{of_call}
use Rattle.rpc_journal.specs.Effect.{Opening}
use Rattle.rpc_journal.specs.Entries.{each_from, made_from}
use Rattle.rpc_journal.specs.Kinds.{is_empty}

module _ {A : Type 0} (test : ℕ → Opening → Bool) (value : A) where
  -- none is put to a call of a lower number
  pub none_before : (os : List Opening) (n k : ℕ) → k < n → of_call k (each_from n test value os) ≡ []
  none_before [] n k below = refl
  none_before (o ∷ os) n k below = at (test n o) (none_before os (n + 1) k (omega (arith, below)))
    where
      at : (b : Bool) → of_call k (each_from (n + 1) test value os) ≡ []
          → of_call k (if b then (n, value) ∷ each_from (n + 1) test value os else each_from (n + 1) test value os) ≡ []
      at true rest = rw (ne_eqb n k (λ same. omega (arith, same, below))) rest
      at false rest = rest

  -- one is put where the test says so
  pub one_put : (os : List Opening) (n k j : ℕ) (o : Opening) → slice_get os j ≡ Some o → k ≡ n + j
      → of_call k (each_from n test value os) ≡ (if test k o then value ∷ [] else [])
  one_put [] n k j o there is = absurd cc
  one_put (p ∷ os) n k zero o there is =
      let here : k ≡ n = omega (arith, is) in
      let it : p ≡ o = cc in
      rw (here, sym it) (at (test n p) (none_before os (n + 1) n (omega arith)))
    where
      at : (b : Bool) → of_call n (each_from (n + 1) test value os) ≡ []
          → of_call n (if b then (n, value) ∷ each_from (n + 1) test value os else each_from (n + 1) test value os) ≡ (if b then value ∷ [] else [])
      at true rest = rw (eq-eqb n n refl, rest) refl
      at false rest = rest
  one_put (p ∷ os) n k (suc j) o there is =
      at (test n p) (one_put os (n + 1) k j o there (omega (arith, is)))
    where
      at : (b : Bool) → of_call k (each_from (n + 1) test value os) ≡ (if test k o then value ∷ [] else [])
          → of_call k (if b then (n, value) ∷ each_from (n + 1) test value os else each_from (n + 1) test value os) ≡ (if test k o then value ∷ [] else [])
      at true rest = rw (ne_eqb n k (λ same. omega (arith, same, is))) rest
      at false rest = rest

  -- none is put behind the last call
  pub none_past : (os : List Opening) (n k : ℕ) → n + length os ≤ k → of_call k (each_from n test value os) ≡ []
  none_past [] n k past = refl
  none_past (o ∷ os) n k past = at (test n o) (none_past os (n + 1) k (omega (arith, past)))
    where
      at : (b : Bool) → of_call k (each_from (n + 1) test value os) ≡ []
          → of_call k (if b then (n, value) ∷ each_from (n + 1) test value os else each_from (n + 1) test value os) ≡ []
      at true rest = rw (ne_eqb n k (λ same. omega (arith, same, past))) rest
      at false rest = rest

-- a number is among those of a list of pairs where something stands with it
pub has_number : {A : Type 0} (k : ℕ) (xs : List (ℕ × A)) → list_any (λ x. x == k) (map (λ x. x.0) xs) ≡ not (is_empty (of_call k xs))
has_number k [] = refl
has_number k (x ∷ xs) = at (x.0 == k) (has_number k xs)
  where
    at : (b : Bool) → list_any (λ y. y == k) (map (λ y. y.0) xs) ≡ not (is_empty (of_call k xs))
        → (b || list_any (λ y. y == k) (map (λ y. y.0) xs)) ≡ not (is_empty (if b then x.1 ∷ of_call k xs else of_call k xs))
    at true rest = refl
    at false rest = rest

-- no more is made than there are calls
pub made_length : {A B : Type 0} (test : ℕ → Opening → Bool) (make : ℕ → Opening → A) (other : ℕ → Opening → B) (n : ℕ) (os : List Opening)
    → length (made_from n test make os) ≡ length (made_from n test other os)
made_length test make other n [] = refl
made_length test make other n (o ∷ os) = at (test n o) (made_length test make other (n + 1) os)
  where
    at : (b : Bool) → length (made_from (n + 1) test make os) ≡ length (made_from (n + 1) test other os)
        → length (if b then make n o ∷ made_from (n + 1) test make os else made_from (n + 1) test make os) ≡ length (if b then other n o ∷ made_from (n + 1) test other os else made_from (n + 1) test other os)
    at true rest = ap suc rest
    at false rest = rest
