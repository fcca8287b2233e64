-- How names are looked up, one behind the other.
use Rattle.std.proofs.Common.{◌≡◌, ℕ, zero, suc, ◌+◌, ◌<◌, Bool, true, false, cond, List, [], ◌∷◌, length, get_or, take, Option, Some, None, refl, ap, ◌∙◌, arith}
use Rattle.std.specs.List.{find}
use Rattle.stream_dump.specs.declared.names.MethodName.{MethodName}
use Rattle.stream_dump.specs.Names.{Name, name_of, names_of}

none_if : (b : Bool) (x : Name) (r : Option Name) → cond b (Some x) r ≡ None → (b ≡ false) × (r ≡ None)
none_if true x r h = absurd (cc)
none_if false x r h = (refl, h)

-- behind names that fail the test, the one that passes is the first
pub found_at : (p : Name → Bool) (names : List MethodName) (i : ℕ) (d : MethodName) → i < length names → find p (names_of (take i names)) ≡ None
    → p (name_of (get_or names i d)) ≡ true → find p (names_of names) ≡ Some (name_of (get_or names i d))
found_at p [] i d below none here = absurd (omega arith)
found_at p (n ∷ ns) zero d below none here = ap (λ b. cond b (Some (name_of n)) (find p (names_of ns))) here
found_at p (n ∷ ns) (suc i) d below none here =
    let parts = none_if (p (name_of n)) (name_of n) (find p (names_of (take i ns))) none in
    ap (λ b. cond b (Some (name_of n)) (find p (names_of ns))) parts.0 ∙ found_at p ns i d (omega arith) parts.1 here

none_suc : (p : Name → Bool) (names : List MethodName) (i : ℕ) (d : MethodName) → i < length names → find p (names_of (take i names)) ≡ None
    → p (name_of (get_or names i d)) ≡ false → find p (names_of (take (suc i) names)) ≡ None
none_suc p [] i d below none here = absurd (omega arith)
none_suc p (n ∷ []) zero d below none here = ap (λ b. cond b (Some (name_of n)) None) here
none_suc p (n ∷ m ∷ ns) zero d below none here = ap (λ b. cond b (Some (name_of n)) None) here
none_suc p (n ∷ ns) (suc i) d below none here =
    let parts = none_if (p (name_of n)) (name_of n) (find p (names_of (take i ns))) none in
    ap (λ b. cond b (Some (name_of n)) (find p (names_of (take (suc i) ns)))) parts.0 ∙ none_suc p ns i d (omega arith) parts.1 here

one_later : (i : ℕ) → i + 1 ≡ suc i
one_later i = omega arith

-- and where one more fails it, all do
pub none_more : (p : Name → Bool) (names : List MethodName) (i : ℕ) (d : MethodName) → i < length names → find p (names_of (take i names)) ≡ None
    → p (name_of (get_or names i d)) ≡ false → find p (names_of (take (i + 1) names)) ≡ None
none_more p names i d below none here = ap (λ k. find p (names_of (take k names))) (one_later i) ∙ none_suc p names i d below none here
