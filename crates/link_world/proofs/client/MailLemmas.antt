-- What is made of the events of a call, one event more.
use Rattle.std.proofs.Common.{◌≡◌, ◌≢◌, ℕ, ◌+◌, ◌<◌, ◌==◌, Bool, true, false, if◌then◌else◌, List, [], ◌∷◌, ◌++◌, drop, length, get_or, take, refl, ap, sym, ◌∙◌, append-nil, append_assoc, flat_map}
use Rattle.std.proofs.lemmas.Bool.{eq-eqb, ne_eqb}
use Rattle.std.proofs.lemmas.List.{take-append-drop, take_more}
use Rattle.rpc_handlers.specs.declared.event.Event.{Event}
use Rattle.rpc_journal.specs.Calls.{of_call}

module _ {A : Type 0} (f : Event → List A) where
  among_append : (c : ℕ) (xs ys : List (ℕ × Event)) → flat_map f (of_call c (xs ++ ys)) ≡ flat_map f (of_call c xs) ++ flat_map f (of_call c ys)
  among_append c [] ys = refl
  among_append c (x ∷ xs) ys = at (x.0 == c) (among_append c xs ys)
    where
      at : (b : Bool) → flat_map f (of_call c (xs ++ ys)) ≡ flat_map f (of_call c xs) ++ flat_map f (of_call c ys)
          → flat_map f (if b then x.1 ∷ of_call c (xs ++ ys) else of_call c (xs ++ ys)) ≡ flat_map f (if b then x.1 ∷ of_call c xs else of_call c xs) ++ flat_map f (of_call c ys)
      at true rest = ap (λ ms. f x.1 ++ ms) rest ∙ sym (append_assoc (f x.1) (flat_map f (of_call c xs)) (flat_map f (of_call c ys)))
      at false rest = rest

  one_among : (c : ℕ) (x : ℕ × Event) → flat_map f (of_call c (x ∷ [])) ≡ (if x.0 == c then f x.1 else [])
  one_among c x = at (x.0 == c)
    where
      at : (b : Bool) → flat_map f (if b then x.1 ∷ [] else []) ≡ (if b then f x.1 else [])
      at true = append-nil (f x.1)
      at false = refl

  -- one event more
  pub more : (c : ℕ) (xs : List (ℕ × Event)) (i : ℕ) (x : ℕ × Event) → i < length xs → x ≡ get_or xs i x
      → flat_map f (of_call c (take (i + 1) xs)) ≡ flat_map f (of_call c (take i xs)) ++ (if x.0 == c then f x.1 else [])
  more c xs i x within is =
      ap (λ events. flat_map f (of_call c events)) (take_more xs i x within ∙ ap (λ y. take i xs ++ y ∷ []) (sym is))
      ∙ (among_append c (take i xs) (x ∷ []) ∙ ap (λ ms. flat_map f (of_call c (take i xs)) ++ ms) (one_among c x))

  pub mail_more : (c : ℕ) (xs : List (ℕ × Event)) (i : ℕ) (x : ℕ × Event) → i < length xs → x ≡ get_or xs i x → x.0 ≡ c
      → flat_map f (of_call c (take (i + 1) xs)) ≡ flat_map f (of_call c (take i xs)) ++ f x.1
  mail_more c xs i x within is own =
      more c xs i x within is ∙ ap (λ b. flat_map f (of_call c (take i xs)) ++ (if b then f x.1 else [])) (eq-eqb x.0 c own)

  pub mail_same : (c : ℕ) (xs : List (ℕ × Event)) (i : ℕ) (x : ℕ × Event) → i < length xs → x ≡ get_or xs i x → x.0 ≢ c
      → flat_map f (of_call c (take (i + 1) xs)) ≡ flat_map f (of_call c (take i xs))
  mail_same c xs i x within is other =
      more c xs i x within is
      ∙ (ap (λ b. flat_map f (of_call c (take i xs)) ++ (if b then f x.1 else [])) (ne_eqb x.0 c other) ∙ append-nil (flat_map f (of_call c (take i xs))))

  -- all events, by one of them
  pub among_from : (c : ℕ) (xs : List (ℕ × Event)) (i : ℕ) (x : ℕ × Event) → i < length xs → x ≡ get_or xs i x
      → flat_map f (of_call c xs) ≡ (flat_map f (of_call c (take i xs)) ++ (if x.0 == c then f x.1 else [])) ++ flat_map f (of_call c (drop (i + 1) xs))
  among_from c xs i x within is =
      ap (λ events. flat_map f (of_call c events)) (sym (take-append-drop (i + 1) xs))
      ∙ (among_append c (take (i + 1) xs) (drop (i + 1) xs) ∙ ap (λ ms. ms ++ flat_map f (of_call c (drop (i + 1) xs))) (more c xs i x within is))
