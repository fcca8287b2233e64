-- A name and a number behind further words are found.
use Rattle.std.proofs.Common.{◌≡◌, ℕ, ◌+◌, ◌-◌, ◌<◌, ◌≤◌, Bool, true, false, not, List, [], ◌∷◌, ◌++◌, ◌^◌, length, map, string_bytes, String, Global, take, drop, get_or, Option, Some, None, refl, ap, ap₂, sym, ◌∙◌, subst, arith, append_assoc, length-append}
use Rattle.std.proofs.lemmas.Bool.{true≢false}
use Rattle.std.proofs.lemmas.List.{append-nil, get_or-map, length-map, map-append, take_all, take_more}
use Rattle.std.proofs.lemmas.Fmt.{decimal_injective}
use Rattle.std.specs.Fmt.{decimal}
use Rattle.pw_run.specs.Trailing.{EndsOtherwise, EndsWithName, IsUpTo, named_number}

-- two words more than nothing are just two
too_short : {A : Type 0} (xs : List A) (x a b c d : A) → x ∷ (xs ++ a ∷ b ∷ []) ≡ c ∷ d ∷ [] → ⊥
too_short xs x a b c d is = let n = ap length is in omega (arith, n, length-append xs (a ∷ b ∷ []))

pub record TwoLast {A : Type 0} (xs ys : List A) (a b c d : A) : Type 0 where
  pub front : xs ≡ ys
  pub first : a ≡ c
  pub second : b ≡ d

pub two_last : {A : Type 0} (xs ys : List A) (a b c d : A) → xs ++ a ∷ b ∷ [] ≡ ys ++ c ∷ d ∷ [] → TwoLast xs ys a b c d
two_last [] [] a b c d is = record { front = refl; first = cc is; second = cc is }
two_last [] (y ∷ ys) a b c d is = absurd (too_short ys y c d a b (sym is))
two_last (x ∷ xs) [] a b c d is = absurd (too_short xs x a b c d is)
two_last (x ∷ xs) (y ∷ ys) a b c d is =
    let rest = two_last xs ys a b c d (cc is) in
    let same : x ≡ y = cc is in
    record { front = ap (λ z. z ∷ xs) same ∙ ap (λ zs. y ∷ zs) rest.front; first = rest.first; second = rest.second }

-- where the name stands elsewhere there is no number
pub record Found (front front' : List (List ℕ)) (number number' : Option ℕ) : Type 0 where
  pub front_is : front ≡ front'
  pub number_is : number ≡ number'

pub none_behind : (name : List ℕ) (words front : List (List ℕ)) (number : Option ℕ) → EndsOtherwise name words → words ≡ front ++ named_number name number → Found words front None number
none_behind name words front None other is = record { front_is = is ∙ append-nil front; number_is = refl }
none_behind name words front (Some n) other is = absurd (other front (decimal n) is)

-- where it stands there, the last word is the number
pub record FoundSome (front front' : List (List ℕ)) (last : List ℕ) (number : Option ℕ) : Type 0 where
  pub front_is : front ≡ front'
  pub n : ℕ
  pub number_is : number ≡ Some n
  pub last_is : last ≡ decimal n

pub some_behind : (name last : List ℕ) (words front front' : List (List ℕ)) (number : Option ℕ) → EndsWithName name front last words → words ≡ front' ++ named_number name number → EndsOtherwise name front' → FoundSome front front' last number
some_behind name last words front front' None ends is other = absurd (other front last (sym (is ∙ append-nil front') ∙ ends))
some_behind name last words front front' (Some n) ends is other =
    let two = two_last front front' name last name (decimal n) (sym ends ∙ is) in
    record { front_is = two.front; n = n; number_is = refl; last_is = two.second }

-- a name and a number behind words that don't end so are one
pub named_same : (name : List ℕ) (most : ℕ) (front front' : List (List ℕ)) (number number' : Option ℕ) → most < 2 ^ 32 → EndsOtherwise name front → EndsOtherwise name front' → IsUpTo most number → IsUpTo most number'
    → front ++ named_number name number ≡ front' ++ named_number name number' → Found front front' number number'
named_same name most front front' None None small first second up up' is = record { front_is = sym (append-nil front) ∙ (is ∙ append-nil front'); number_is = refl }
named_same name most front front' None (Some n) small first second up up' is = absurd (first front' (decimal n) (sym (append-nil front) ∙ is))
named_same name most front front' (Some m) None small first second up up' is = absurd (second front (decimal m) (sym (append-nil front') ∙ sym is))
named_same name most front front' (Some m) (Some n) small first second up up' is =
    let two = two_last front front' name (decimal m) name (decimal n) is in
    record { front_is = two.front; number_is = ap Some (decimal_injective m n (omega (arith, up.1, small)) (omega (arith, up'.1, small)) two.second) }

-- behind another name and its number the words don't end with this name
pub otherwise : (name other : List ℕ) (front : List (List ℕ)) (number : Option ℕ) → (other ≡ name → ⊥) → EndsOtherwise name front → EndsOtherwise name (front ++ named_number other number)
otherwise name other front None apart so f last is = so f last (sym (append-nil front) ∙ is)
otherwise name other front (Some n) apart so f last is = apart (two_last front f other (decimal n) name last is).first

-- ---- a list by its items

pub last_are : {A : Type 0} (xs : List A) (n : ℕ) (a b : A) → length xs ≡ n + 2 → a ≡ get_or xs n a → b ≡ get_or xs (n + 1) b → xs ≡ take n xs ++ a ∷ b ∷ []
last_are xs n a b many first second =
    sym (take_all ((n + 1) + 1) xs (omega (arith, many)))
    ∙ (take_more xs (n + 1) b (omega (arith, many))
    ∙ (ap (λ ys. ys ++ get_or xs (n + 1) b ∷ []) (take_more xs n a (omega (arith, many)))
    ∙ (append_assoc (take n xs) (get_or xs n a ∷ []) (get_or xs (n + 1) b ∷ [])
    ∙ ap₂ (λ u v. take n xs ++ u ∷ v ∷ []) (sym first) (sym second))))

pub ends_so : (name last : List ℕ) (ws : List (String Global)) (n : ℕ) (a b : String Global) → length ws ≡ n + 2 → a ≡ get_or ws n a → b ≡ get_or ws (n + 1) b → string_bytes a ≡ name → string_bytes b ≡ last
    → EndsWithName name (map string_bytes (take n ws)) last (map string_bytes ws)
ends_so name last ws n a b many first second is same =
    ap (map string_bytes) (last_are ws n a b many first second)
    ∙ (map-append string_bytes (take n ws) (a ∷ b ∷ []) ∙ ap₂ (λ u v. map string_bytes (take n ws) ++ u ∷ v ∷ []) is same)

pub few_otherwise : (name : List ℕ) (words : List (List ℕ)) → length words < 2 → EndsOtherwise name words
few_otherwise name words few front last is = let n = ap length is in omega (arith, n, few, length-append front (name ∷ last ∷ []))

there_is : {A : Type 0} (front : List A) (a b d : A) → get_or (front ++ a ∷ b ∷ []) (length front) d ≡ a
there_is [] a b d = refl
there_is (x ∷ front) a b d = there_is front a b d

pub other_otherwise : (name : List ℕ) (ws : List (String Global)) (n : ℕ) (d : String Global) → length ws ≡ n + 2 → (string_bytes (get_or ws n d) ≡ name → ⊥) → EndsOtherwise name (map string_bytes ws)
other_otherwise name ws n d many apart front last is =
    let count = ap length is in
    let same : length front ≡ n = omega (arith, count, many, length-append front (name ∷ last ∷ []), length-map ws string_bytes) in
    apart
    (sym (get_or-map string_bytes ws n d (string_bytes d) (omega (arith, many)))
    ∙ (ap (λ ws. get_or ws n (string_bytes d)) is ∙ subst (λ k. get_or (front ++ name ∷ last ∷ []) k (string_bytes d) ≡ name) same (there_is front name last (string_bytes d))))

pub not_false : (b : Bool) → not b ≡ false → b ≡ true
not_false true is = refl
not_false false is = absurd (true≢false is)

pub five_are : {A : Type 0} (xs : List A) (a b c d e : A) → 5 ≤ length xs → a ≡ get_or xs 0 a → b ≡ get_or xs 1 b → c ≡ get_or xs 2 c → d ≡ get_or xs 3 d → e ≡ get_or xs 4 e → xs ≡ a ∷ b ∷ c ∷ d ∷ e ∷ take (length xs - 5) (drop 5 xs)
five_are [] a b c d e low ea eb ec ed ee = absurd (omega arith)
five_are (x0 ∷ []) a b c d e low ea eb ec ed ee = absurd (omega arith)
five_are (x0 ∷ x1 ∷ []) a b c d e low ea eb ec ed ee = absurd (omega arith)
five_are (x0 ∷ x1 ∷ x2 ∷ []) a b c d e low ea eb ec ed ee = absurd (omega arith)
five_are (x0 ∷ x1 ∷ x2 ∷ x3 ∷ []) a b c d e low ea eb ec ed ee = absurd (omega arith)
five_are (x0 ∷ x1 ∷ x2 ∷ x3 ∷ x4 ∷ xs) a b c d e low ea eb ec ed ee = ap₂ ◌∷◌ (sym ea) (ap₂ ◌∷◌ (sym eb) (ap₂ ◌∷◌ (sym ec) (ap₂ ◌∷◌ (sym ed) (ap₂ ◌∷◌ (sym ee) (sym (take_all (length (x0 ∷ x1 ∷ x2 ∷ x3 ∷ x4 ∷ xs) - 5) xs (omega arith)))))))
