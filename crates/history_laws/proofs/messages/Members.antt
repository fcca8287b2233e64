-- Members of lists.
use Rattle.std.proofs.Common.{◌⊎◌, ℕ, zero, suc, List, [], ◌∷◌, ◌++◌, drop, flat_map, take, inl, inr, refl, sym, subst}
use Rattle.std.specs.List.{AllByRecursion}
use mathlib.Core.List.{IsPrefix}
use Rattle.history_laws.specs.messages.Messages.{IsIn}

module _ {A : Type 0} where
  pub in_all : (P : A → Type 0) (xs : List A) (x : A) → AllByRecursion P xs → IsIn x xs → P x
  in_all P [] x all is = absurd is
  in_all P (y ∷ ys) x all (inl same) = subst P (sym same) all.0
  in_all P (y ∷ ys) x all (inr later) = in_all P ys x all.1 later

  pub all_in : (P : A → Type 0) (xs : List A) → ((x : A) → IsIn x xs → P x) → AllByRecursion P xs
  all_in P [] each = tt
  all_in P (y ∷ ys) each = (each y (inl refl), all_in P ys (λ x is. each x (inr is)))

  pub all_weaken : (P Q : A → Type 0) (xs : List A) → ((x : A) → P x → Q x) → AllByRecursion P xs → AllByRecursion Q xs
  all_weaken P Q [] f all = tt
  all_weaken P Q (x ∷ xs) f all = (f x all.0, all_weaken P Q xs f all.1)

  pub all_join : (P : A → Type 0) (xs ys : List A) → AllByRecursion P xs → AllByRecursion P ys → AllByRecursion P (xs ++ ys)
  all_join P [] ys first second = second
  all_join P (x ∷ xs) ys first second = (first.0, all_join P xs ys first.1 second)

  pub all_dropped : (P : A → Type 0) (n : ℕ) (xs : List A) → AllByRecursion P xs → AllByRecursion P (drop n xs)
  all_dropped P zero xs all = all
  all_dropped P (suc n) [] all = tt
  all_dropped P (suc n) (x ∷ xs) all = all_dropped P n xs all.1

  pub in_front : (x : A) (xs ys : List A) → IsIn x xs → IsIn x (xs ++ ys)
  in_front x [] ys is = absurd is
  in_front x (z ∷ zs) ys (inl same) = inl same
  in_front x (z ∷ zs) ys (inr later) = inr (in_front x zs ys later)

  pub in_back : (x : A) (xs ys : List A) → IsIn x ys → IsIn x (xs ++ ys)
  in_back x [] ys is = is
  in_back x (z ∷ zs) ys is = inr (in_back x zs ys is)

  pub in_either : (x : A) (xs ys : List A) → IsIn x (xs ++ ys) → IsIn x xs ⊎ IsIn x ys
  in_either x [] ys is = inr is
  in_either x (z ∷ zs) ys (inl same) = inl (inl same)
  in_either x (z ∷ zs) ys (inr later) = at (in_either x zs ys later)
    where
      at : IsIn x zs ⊎ IsIn x ys → IsIn x (z ∷ zs) ⊎ IsIn x ys
      at (inl front) = inl (inr front)
      at (inr back) = inr back

  pub in_prefix : (x : A) (xs ys : List A) → IsPrefix xs ys → IsIn x xs → IsIn x ys
  in_prefix x xs ys begin is = subst (IsIn x) begin.1 (in_front x xs begin.0 is)

  pub in_dropped : (x : A) (n : ℕ) (xs : List A) → IsIn x (drop n xs) → IsIn x xs
  in_dropped x zero xs is = is
  in_dropped x (suc n) [] is = is
  in_dropped x (suc n) (y ∷ ys) is = inr (in_dropped x n ys is)

  pub in_taken : (x : A) (n : ℕ) (xs : List A) → IsIn x (take n xs) → IsIn x xs
  in_taken x zero xs is = absurd is
  in_taken x (suc n) [] is = is
  in_taken x (suc n) (y ∷ ys) (inl same) = inl same
  in_taken x (suc n) (y ∷ ys) (inr later) = inr (in_taken x n ys later)

module _ {A B : Type 0} (f : A → List B) where
  -- what is made of all of them was made of one
  pub record MadeOf (y : B) (xs : List A) : Type 0 where
    pub from : A
    pub is_in : IsIn from xs
    pub made : IsIn y (f from)

  pub made_of : (xs : List A) (y : B) → IsIn y (flat_map f xs) → MadeOf y xs
  made_of [] y is = absurd is
  made_of (x ∷ xs) y is = at (λ later. made_of xs y later) (in_either y (f x) (flat_map f xs) is)
    where
      behind : MadeOf y xs → MadeOf y (x ∷ xs)
      behind m = record { from = m.from; is_in = inr m.is_in; made = m.made }

      at : (IsIn y (flat_map f xs) → MadeOf y xs) → IsIn y (f x) ⊎ IsIn y (flat_map f xs) → MadeOf y (x ∷ xs)
      at more (inl here) = record { from = x; is_in = inl refl; made = here }
      at more (inr later) = behind (more later)

  pub in_made : (xs : List A) (x : A) (y : B) → IsIn x xs → IsIn y (f x) → IsIn y (flat_map f xs)
  in_made [] x y is made = absurd is
  in_made (z ∷ zs) x y (inl same) made = in_front y (f z) (flat_map f zs) (subst (λ a. IsIn y (f a)) same made)
  in_made (z ∷ zs) x y (inr later) made = in_back y (f z) (flat_map f zs) (in_made zs x y later made)
