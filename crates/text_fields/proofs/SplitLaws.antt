-- A text has one first separator.
use Rattle.std.proofs.Common.{◌≡◌, ℕ, ◌+◌, ◌-◌, ◌<◌, List, [], ◌∷◌, ◌++◌, length, Bor, get_or, take, drop, Option, Some, None, refl, sym, ◌∙◌, add-one, arith}
use Rattle.std.specs.Prelude.{◌≢◌, IfSome, IsSomeAnd, MatchOption}
use Rattle.std.proofs.Math.Seq.{drop-cons}
use Rattle.std.proofs.lemmas.Bool.{eqb-true}
use Rattle.std.proofs.lemmas.Bool.Decides.{Decides-eqb}
use Rattle.std.proofs.lemmas.List.{get_or-take, length-take, append_cancel_left, take-append-drop, take_rest}
use Rattle.std.proofs.lemmas.List.Elements.{All-head, All-tail, All-from_get_or}
use Rattle.memchr.specs.Find.{IsFirstByte, is_byte}
use Rattle.text_fields.specs.Splits.{IsSplitAt, Lacks}

-- what lacks the byte lacks it behind a front too
lacks_behind : (separator : ℕ) (front rest : List ℕ) → Lacks separator (front ++ rest) → Lacks separator rest
lacks_behind separator [] rest lacks = lacks
lacks_behind separator (x ∷ front) rest lacks =
    lacks_behind separator front rest (All-tail (λ b. b ≢ separator) x (front ++ rest) lacks)

-- what a search for the separator found is a split
pub found_is_split :
    (separator : ℕ) (text : List ℕ) (at : ℕ) → IsFirstByte (is_byte separator) text (Some at) →
    IsSplitAt separator text (take at text) (take (length text - (at + 1)) (drop (at + 1) text))
found_is_split separator text at found =
    let here : get_or text at 0 ≡ separator = eqb-true (get_or text at 0) separator found.1 in
    let behind : drop at text ≡ get_or text at 0 ∷ drop (at + 1) text = rw add-one (drop-cons text at 0 found.0.high) in
    let whole : take at text ++ drop at text ≡ text = take-append-drop at text in
    record {
      spelled = rw (take_rest text (at + 1), ← here, ← behind) (sym whole);
      first = All-from_get_or (λ b. b ≢ separator) (take at text) 0 (λ i below is.
          let near : i < at = omega (arith, length-take at text, below) in
          let there : get_or text i 0 ≡ separator = sym (get_or-take at text i 0 near) ∙ is in
          found.0.before i (omega arith) near ((Decides-eqb (get_or text i 0) separator).1 there));
    }

-- a field in front and a rest are found in one way alone
one_split :
    (separator : ℕ) (front rest front' rest' : List ℕ) → Lacks separator front → Lacks separator front' →
    front ++ separator ∷ rest ≡ front' ++ separator ∷ rest' → (front ≡ front') × (rest ≡ rest')
one_split separator [] rest [] rest' lacks lacks' same = (refl, cc)
one_split separator [] rest (x ∷ front') rest' lacks lacks' same =
    absurd (All-head (λ b. b ≢ separator) x front' lacks' cc)
one_split separator (x ∷ front) rest [] rest' lacks lacks' same =
    absurd (All-head (λ b. b ≢ separator) x front lacks cc)
one_split separator (x ∷ front) rest (y ∷ front') rest' lacks lacks' same =
    let head : x ≡ y = cc in
    let tail : front ++ separator ∷ rest ≡ front' ++ separator ∷ rest' = cc in
    let later = All-tail (λ b. b ≢ separator) x front lacks in
    let later' = All-tail (λ b. b ≢ separator) y front' lacks' in
    let rest_same = one_split separator front rest front' rest' later later' tail in
    (rw (head, rest_same.0) refl, rest_same.1)

-- a text is split at its first separator in one way alone
pub one_found :
    (separator : ℕ) (text front rest front' rest' : List ℕ) → IsSplitAt separator text front rest →
    IsSplitAt separator text front' rest' → (front ≡ front') × (rest ≡ rest')
one_found separator text front rest front' rest' split split' =
    one_split separator front rest front' rest' split.first split'.first (sym split.spelled ∙ split'.spelled)

-- where a search finds no separator there is no split
pub none_is_lacking : (separator : ℕ) (text : List ℕ) → IsFirstByte (is_byte separator) text None → Lacks separator text
none_is_lacking separator text none =
    All-from_get_or (λ b. b ≢ separator) text 0 (λ i below is. none i (omega arith) below ((Decides-eqb (get_or text i 0) separator).1 is))

-- a text without the separator has no split
pub no_split : (separator : ℕ) (text front rest : List ℕ) → Lacks separator text → IsSplitAt separator text front rest → ⊥
no_split separator text front rest lacks split =
    let part : Lacks separator (front ++ separator ∷ rest) = rw split.spelled at lacks in
    All-head (λ b. b ≢ separator) separator rest (lacks_behind separator front (separator ∷ rest) part) refl

-- what stands behind a word, from the cases of a search for it
pub stripped :
    (text word : List ℕ) (found : Option (Bor (List ℕ))) →
    MatchOption found ((rest : List ℕ) → text ≢ word ++ rest) (λ behind. text ≡ word ++ behind.now) →
    IfSome found (λ rest. text ≡ word ++ rest.now)
stripped text word (Some behind) cases = cases
stripped text word None cases = tt

pub stripped_only :
    (text word : List ℕ) (found : Option (Bor (List ℕ))) →
    MatchOption found ((rest : List ℕ) → text ≢ word ++ rest) (λ behind. text ≡ word ++ behind.now) →
    (rest : List ℕ) → text ≡ word ++ rest → IsSomeAnd found (λ behind. behind.now ≡ rest)
stripped_only text word (Some behind) cases rest spelled = append_cancel_left word behind.now rest (sym cases ∙ spelled)
stripped_only text word None cases rest spelled = absurd (cases rest spelled)
