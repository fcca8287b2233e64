-- What a registry knows after one more method.
use Rattle.std.proofs.Common.{◌≡◌, ℕ, List, [], ◌∷◌, ◌++◌, Bool, true, cond, is_some, slice_index_or, Option, Some, None, IsSome, IsNone, refl, ◌∙◌, ap, eqb, eq-eqb, ◌&&◌, sym}
use Rattle.std.proofs.lemmas.Bool.{false≢true}
use Rattle.std.proofs.lemmas.List.Elements.{All-nil, All-append, All-cons}
use Rattle.std.proofs.lemmas.List.Folds.{find-append}
use Rattle.std.specs.List.{find}
use Rattle.std.specs.Option.{option_or}
use Rattle.rpc_ids.specs.declared.method.MethodRef.{MethodRef}
use Rattle.rpc_ids.specs.Registry.{method_of, has_ids, FindsEach}

first_of_both : {T : Type 0} (a b : Option T) → IsSome a → option_or a b ≡ a
first_of_both (Some x) b h = refl
first_of_both None b h = absurd (false≢true h)

second_of_both : {T : Type 0} (a b : Option T) → IsNone a → option_or a b ≡ b
second_of_both (Some x) b h = absurd (false≢true (sym h))
second_of_both None b h = refl

-- what is found in a list is found in a longer one
pub find_longer : {T : Type 0} (p : T → Bool) (xs ys : List T) → IsSome (find p xs) → find p (xs ++ ys) ≡ find p xs
find_longer p xs ys h = find-append p xs ys ∙ first_of_both (find p xs) (find p ys) h

-- an element is found at the end, where none before it passes
pub find_last : {T : Type 0} (p : T → Bool) (xs : List T) (x : T) → IsNone (find p xs) → p x ≡ true → find p (xs ++ x ∷ []) ≡ Some x
find_last p xs x none passes =
    find-append p xs (x ∷ [])
    ∙ (second_of_both (find p xs) (find p (x ∷ [])) none
    ∙ ap (λ b. cond b (Some x) None) passes)

own_ids : (s t : ℕ) → eqb s s && eqb t t ≡ true
own_ids s t = rw (eq-eqb s s refl, eq-eqb t t refl) refl

-- a method that was added is found by its ids
pub added_is_found : (rows : List MethodRef) (m : MethodRef) → IsNone (method_of rows m.service m.method) → method_of (rows ++ m ∷ []) m.service m.method ≡ Some m
added_is_found rows m none = find_last (has_ids m.service m.method) rows m none (own_ids m.service m.method)

-- and each other one as before
pub others_are_found : (rows : List MethodRef) (m : MethodRef) (s t : ℕ) → IsSome (method_of rows s t) → method_of (rows ++ m ∷ []) s t ≡ method_of rows s t
others_are_found rows m s t h = find_longer (has_ids s t) rows (m ∷ []) h

-- so each one is found by its ids still
pub finds_each_added : (rows : List MethodRef) (m : MethodRef) → IsNone (method_of rows m.service m.method) → FindsEach rows → FindsEach (rows ++ m ∷ [])
finds_each_added rows m none each =
    let longer = rows ++ m ∷ [] in
    let Found : MethodRef → Type 0 = λ r. method_of longer r.service r.method ≡ Some r in
    let still : (r : MethodRef) → method_of rows r.service r.method ≡ Some r → Found r = λ r is. others_are_found rows m r.service r.method (ap is_some is) ∙ is in
    All-append Found rows (m ∷ []) (λ k d h. still (slice_index_or rows k d) (each k d h)) (All-cons Found m [] (added_is_found rows m none) (All-nil Found))
