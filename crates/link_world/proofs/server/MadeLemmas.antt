-- What is made of calls, one call after another.
use Rattle.std.proofs.Common.{◌≡◌, ◌⊎◌, ℕ, suc, ◌+◌, ◌<◌, ◌≤◌, Bool, true, false, if◌then◌else◌, List, [], ◌∷◌, ◌++◌, drop, get_or, length, slice_get, take, Option, Some, None, refl, ap, sym, ◌∙◌, inl, inr, arith, append-nil, length-take}
use Rattle.std.specs.Prelude.{filter_map}
use Rattle.std.specs.List.{cons_option}
use Rattle.std.proofs.lemmas.List.{take-append-drop, take_more}
use Rattle.std.proofs.lemmas.Option.{slice_get_cases}
use Rattle.std.proofs.Math.Seq.{drop-cons}
use Rattle.rpc_journal.specs.Effect.{Opening}
use Rattle.rpc_journal.specs.Entries.{made_from}
use Rattle.rpc_journal.proofs.PlaceLemmas.{some_same}

-- what stands at a place
pub record StandsAt {A : Type 0} (xs : List A) (i : ℕ) : Type 0 where
  pub here : A
  pub at : slice_get xs i ≡ Some here
  pub parts : xs ≡ take i xs ++ here ∷ drop (suc i) xs
  pub more : take (i + 1) xs ≡ take i xs ++ here ∷ []

pub stands_at : {A : Type 0} (xs : List A) (i : ℕ) → i < length xs → StandsAt xs i
stands_at xs i within = at (slice_get_cases xs i).1
  where
    at : ((item : _) × (i < length xs) × (slice_get xs i ≡ Some item) × (get_or xs i item ≡ item)) ⊎ ((length xs ≤ i) × (slice_get xs i ≡ None)) → StandsAt xs i
    at (inl found) = record {
      here = found.0;
      at = found.2;
      parts = sym (take-append-drop i xs) ∙ ap (λ rest. take i xs ++ rest) (drop-cons xs i found.0 within ∙ ap (λ x. x ∷ drop (suc i) xs) found.3);
      more = take_more xs i found.0 within ∙ ap (λ x. take i xs ++ x ∷ []) found.3;
    }
    at (inr beyond) = absurd (omega (arith, within, beyond.0))

module _ (test : ℕ → Opening → Bool) where
  pub made_append : (n : ℕ) (xs ys : List Opening)
      → made_from n test (λ c o. c) (xs ++ ys) ≡ made_from n test (λ c o. c) xs ++ made_from (n + length xs) test (λ c o. c) ys
  made_append n [] ys = ap (λ m. made_from m test (λ c o. c) ys) (omega arith)
  made_append n (x ∷ xs) ys =
      at (test n x) (made_append (n + 1) xs ys ∙ ap (λ m. made_from (n + 1) test (λ c o. c) xs ++ made_from m test (λ c o. c) ys) (omega arith))
    where
      at : (b : Bool) → made_from (n + 1) test (λ c o. c) (xs ++ ys) ≡ made_from (n + 1) test (λ c o. c) xs ++ made_from (n + length (x ∷ xs)) test (λ c o. c) ys
          → (if b then n ∷ made_from (n + 1) test (λ c o. c) (xs ++ ys) else made_from (n + 1) test (λ c o. c) (xs ++ ys))
          ≡ (if b then n ∷ made_from (n + 1) test (λ c o. c) xs else made_from (n + 1) test (λ c o. c) xs) ++ made_from (n + length (x ∷ xs)) test (λ c o. c) ys
      at true rest = ap (λ cs. n ∷ cs) rest
      at false rest = rest

  length_before : (xs : List Opening) (i : ℕ) → i < length xs → length (take i xs) ≡ i
  length_before xs i within = omega (arith, length-take i xs, within)

  -- one call more
  pub made_more : (xs : List Opening) (i : ℕ) (within : i < length xs) → (o : Opening) → slice_get xs i ≡ Some o
      → made_from 0 test (λ c x. c) (take (i + 1) xs) ≡ made_from 0 test (λ c x. c) (take i xs) ++ (if test i o then i ∷ [] else [])
  made_more xs i within o found =
      let s = stands_at xs i within in
      let same : s.here ≡ o = some_same _ _ (sym s.at ∙ found) in
      ap (made_from 0 test (λ c x. c)) s.more ∙ (made_append 0 (take i xs) (s.here ∷ [])
      ∙ (ap (λ n. made_from 0 test (λ c x. c) (take i xs) ++ made_from n test (λ c x. c) (s.here ∷ [])) (omega (arith, length_before xs i within))
      ∙ ap (λ x. made_from 0 test (λ c y. c) (take i xs) ++ (if test i x then i ∷ [] else [])) same))

  -- all, by one call that passes
  pub made_all : (xs : List Opening) (i : ℕ) (within : i < length xs) → (o : Opening) → slice_get xs i ≡ Some o → test i o ≡ true
      → made_from 0 test (λ c x. c) xs ≡ made_from 0 test (λ c x. c) (take i xs) ++ i ∷ made_from (i + 1) test (λ c x. c) (drop (suc i) xs)
  made_all xs i within o found passes =
      let s = stands_at xs i within in
      let same : s.here ≡ o = some_same _ _ (sym s.at ∙ found) in
      ap (made_from 0 test (λ c x. c)) s.parts ∙ (made_append 0 (take i xs) (s.here ∷ drop (suc i) xs)
      ∙ (ap (λ n. made_from 0 test (λ c x. c) (take i xs) ++ made_from n test (λ c x. c) (s.here ∷ drop (suc i) xs)) (omega (arith, length_before xs i within))
      ∙ ap (λ b. made_from 0 test (λ c x. c) (take i xs) ++ (if b then i ∷ made_from (i + 1) test (λ c x. c) (drop (suc i) xs) else made_from (i + 1) test (λ c x. c) (drop (suc i) xs)))
      (ap (test i) same ∙ passes)))

-- the first of what is there
pub first_of_all : {A : Type 0} (xs rest all : List A) (x : A) → all ≡ xs ++ x ∷ rest → xs ≡ [] → slice_get all 0 ≡ Some x
first_of_all xs rest all x is none = ap (λ ys. slice_get ys 0) (is ∙ ap (λ ys. ys ++ x ∷ rest) none)

pub filtered_append : {A B : Type 0} (f : A → Option B) (xs ys : List A) → filter_map f (xs ++ ys) ≡ filter_map f xs ++ filter_map f ys
filtered_append f [] ys = refl
filtered_append f (x ∷ xs) ys = at (f x) (filtered_append f xs ys)
  where
    at : (o : Option _) → filter_map f (xs ++ ys) ≡ filter_map f xs ++ filter_map f ys
        → cons_option o (filter_map f (xs ++ ys)) ≡ cons_option o (filter_map f xs) ++ filter_map f ys
    at None rest = rest
    at (Some y) rest = ap (λ zs. y ∷ zs) rest

-- What is found first among what is made of the calls that pass.
module _ (f : ℕ → Option ℕ) (test : ℕ → Opening → Bool) (xs : List Opening) (i : ℕ) (within : i < length xs) (o : Opening) (found : slice_get xs i ≡ Some o)
    (none : filter_map f (made_from 0 test (λ c x. c) (take i xs)) ≡ []) where
  pub found_first : (value : ℕ) → (if test i o then f i else None) ≡ Some value → slice_get (filter_map f (made_from 0 test (λ c x. c) xs)) 0 ≡ Some value
  found_first value is = at (test i o) refl is
    where
      at : (b : Bool) → test i o ≡ b → (if b then f i else None) ≡ Some value → slice_get (filter_map f (made_from 0 test (λ c x. c) xs)) 0 ≡ Some value
      at true passes here =
          ap (λ cs. slice_get (filter_map f cs) 0) (made_all test xs i within o found passes)
          ∙ (ap (λ vs. slice_get vs 0) (filtered_append f (made_from 0 test (λ c x. c) (take i xs)) (i ∷ made_from (i + 1) test (λ c x. c) (drop (suc i) xs)))
          ∙ (ap (λ vs. slice_get (vs ++ cons_option (f i) (filter_map f (made_from (i + 1) test (λ c x. c) (drop (suc i) xs)))) 0) none
          ∙ ap (λ v. slice_get (cons_option v (filter_map f (made_from (i + 1) test (λ c x. c) (drop (suc i) xs)))) 0) here))
      at false fails here = absurd cc

  pub found_none : (if test i o then f i else None) ≡ None → filter_map f (made_from 0 test (λ c x. c) (take (i + 1) xs)) ≡ []
  found_none is = at (test i o) refl is
    where
      at : (b : Bool) → test i o ≡ b → (if b then f i else None) ≡ None → filter_map f (made_from 0 test (λ c x. c) (take (i + 1) xs)) ≡ []
      at true passes here =
          ap (filter_map f) (made_more test xs i within o found ∙ ap (λ b. made_from 0 test (λ c x. c) (take i xs) ++ (if b then i ∷ [] else [])) passes)
          ∙ (filtered_append f (made_from 0 test (λ c x. c) (take i xs)) (i ∷ [])
          ∙ (ap (λ vs. vs ++ cons_option (f i) []) none ∙ ap (λ v. cons_option v []) here))
      at false fails here =
          ap (filter_map f) (made_more test xs i within o found ∙ ap (λ b. made_from 0 test (λ c x. c) (take i xs) ++ (if b then i ∷ [] else [])) fails)
          ∙ (ap (filter_map f) (append-nil (made_from 0 test (λ c x. c) (take i xs))) ∙ none)
