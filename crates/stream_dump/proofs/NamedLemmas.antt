-- Words and the methods that they name.
use Rattle.std.proofs.Common.{◌≡◌, ℕ, zero, suc, ◌<◌, ◌==◌, true, not, List, [], ◌∷◌, ◌++◌, length, get_or, map, string_bytes, String, Global, refl, sym, ap, ap₂, ◌∙◌, arith}
use Rattle.std.specs.Prelude.{◌≢◌}
use Rattle.std.specs.List.{list_all}
use Rattle.std.proofs.lemmas.Bool.{and_parts}
use Rattle.std.proofs.Math.ListN.{get_or-map}
use Rattle.std.proofs.lemmas.List.{length-map}
use Rattle.std.proofs.lemmas.List.Elements.{All-nil, All-cons, All-head, All-tail}
use Rattle.text_fields.specs.Splits.{Lacks}
use Rattle.stream_dump.specs.declared.named.TheConstants.{SLASH}
use Rattle.stream_dump.specs.Named.{IsNamed, has_good_names, is_name, is_name_octet, word_of}
use Rattle.stream_dump.specs.Names.{Name}

other_octet : (octet : ℕ) → is_name_octet octet ≡ true → octet ≢ SLASH
other_octet octet good = λ is. cc (sym good ∙ ap is_name_octet is)

all_lack : (text : List ℕ) → list_all is_name_octet text ≡ true → Lacks SLASH text
all_lack [] good = All-nil (λ b. b ≢ SLASH)
all_lack (octet ∷ octets) good =
    let parts = and_parts (is_name_octet octet) (list_all is_name_octet octets) good in
    All-cons (λ b. b ≢ SLASH) octet octets (other_octet octet parts.0) (all_lack octets parts.1)

-- no slash is in a name
pub name_lacks : (text : List ℕ) → is_name text ≡ true → Lacks SLASH text
name_lacks text good = all_lack text (and_parts (not (length text == 0)) (list_all is_name_octet text) good).1

head_is : (x y : ℕ) (xs ys : List ℕ) → x ∷ xs ≡ y ∷ ys → x ≡ y
head_is x y xs ys is = cc

tail_is : (x y : ℕ) (xs ys : List ℕ) → x ∷ xs ≡ y ∷ ys → xs ≡ ys
tail_is x y xs ys is = cc

-- in front of the first slash, and behind it
parts_are : (a b x y : List ℕ) → Lacks SLASH a → Lacks SLASH b → a ++ SLASH ∷ x ≡ b ++ SLASH ∷ y → (a ≡ b) × (x ≡ y)
parts_are [] [] x y la lb is = (refl, tail_is SLASH SLASH x y is)
parts_are [] (q ∷ qs) x y la lb is = absurd (All-head (λ b. b ≢ SLASH) q qs lb (sym (head_is SLASH q x (qs ++ SLASH ∷ y) is)))
parts_are (p ∷ ps) [] x y la lb is = absurd (All-head (λ b. b ≢ SLASH) p ps la (head_is p SLASH (ps ++ SLASH ∷ x) y is))
parts_are (p ∷ ps) (q ∷ qs) x y la lb is =
    let more = parts_are ps qs x y (All-tail (λ b. b ≢ SLASH) p ps la) (All-tail (λ b. b ≢ SLASH) q qs lb) (tail_is p q (ps ++ SLASH ∷ x) (qs ++ SLASH ∷ y) is) in
    (ap₂ (λ h t. h ∷ t) (head_is p q (ps ++ SLASH ∷ x) (qs ++ SLASH ∷ y) is) more.0, more.1)

same_name : (a b : Name) → has_good_names a ≡ true → has_good_names b ≡ true → word_of a ≡ word_of b → a ≡ b
same_name a b good_a good_b is =
    let of_a = and_parts (is_name a.service) (is_name a.method) good_a in
    let of_b = and_parts (is_name b.service) (is_name b.method) good_b in
    let parts = parts_are a.service b.service a.method b.method (name_lacks a.service of_a.0) (name_lacks b.service of_b.0) is in
    ap₂ (λ s m. record { service = s; method = m }) parts.0 parts.1

word_is : (v w : List ℕ) (vs ws : List (List ℕ)) → v ∷ vs ≡ w ∷ ws → v ≡ w
word_is v w vs ws is = cc

words_are : (v w : List ℕ) (vs ws : List (List ℕ)) → v ∷ vs ≡ w ∷ ws → vs ≡ ws
words_are v w vs ws is = cc

-- words name methods in one way
pub same_names : (a b : List Name) → list_all has_good_names a ≡ true → list_all has_good_names b ≡ true → map word_of a ≡ map word_of b → a ≡ b
same_names [] [] good_a good_b is = refl
same_names [] (q ∷ qs) good_a good_b is = cc
same_names (p ∷ ps) [] good_a good_b is = cc
same_names (p ∷ ps) (q ∷ qs) good_a good_b is =
    let of_a = and_parts (has_good_names p) (list_all has_good_names ps) good_a in
    let of_b = and_parts (has_good_names q) (list_all has_good_names qs) good_b in
    ap₂ (λ (h : Name) (t : List Name). h ∷ t)
    (same_name p q of_a.0 of_b.0 (word_is (word_of p) (word_of q) (map word_of ps) (map word_of qs) is))
    (same_names ps qs of_a.1 of_b.1 (words_are (word_of p) (word_of q) (map word_of ps) (map word_of qs) is))

-- each of the words names one
named_in : (names : List Name) (i : ℕ) (d : List ℕ) → i < length (map word_of names) → list_all has_good_names names ≡ true
    → (name : Name) × IsNamed (get_or (map word_of names) i d) name
named_in [] i d below good = absurd (omega arith)
named_in (n ∷ ns) zero d below good = (n, record { spelled = refl; good = (and_parts (has_good_names n) (list_all has_good_names ns) good).0 })
named_in (n ∷ ns) (suc i) d below good = named_in ns i d (omega arith) (and_parts (has_good_names n) (list_all has_good_names ns) good).1

pub named_at : (words : List (List ℕ)) (names : List Name) (i : ℕ) (d : List ℕ) → i < length words → words ≡ map word_of names
    → list_all has_good_names names ≡ true → (name : Name) × IsNamed (get_or words i d) name
named_at words names i d below is good =
    let found = named_in names i d (omega (arith, below, ap length is)) good in
    (found.0, record { spelled = ap (λ l. get_or l i d) is ∙ found.1.spelled; good = found.1.good })

-- a word that names no method is in no list of words that do
pub none_named : (ws : List (String Global)) (names : List Name) (i : ℕ) (d : String Global) → i < length ws → map string_bytes ws ≡ map word_of names
    → list_all has_good_names names ≡ true → ((name : Name) → IsNamed (string_bytes (get_or ws i d)) name → ⊥) → ⊥
none_named ws names i d below is good none =
    let found = named_at (map string_bytes ws) names i (string_bytes d) (grind (arith, length-map)) is good in
    none found.0 (record { spelled = sym (get_or-map string_bytes ws i d) ∙ found.1.spelled; good = found.1.good })
