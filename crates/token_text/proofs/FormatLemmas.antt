-- How a format is read part by part.
use Rattle.std.proofs.Common.{◌≡◌, ℕ, suc, ◌+◌, ◌-◌, ◌<◌, ◌≤◌, ◌^◌, ◌%◌, Bool, true, false, cond, eqb, leb, ltb, not, ◌&&◌, List, [], ◌∷◌, ◌++◌, length, get_or, take, drop, Some, None, refl, ap, sym, ◌∙◌, arith, subst, length-append, append_assoc, eq-eqb, le-leb, lt-ltb}
use Rattle.std.specs.Prelude.{◌≢◌, ◌==◌, All, position}
use Rattle.std.specs.Int.{from_bool}
use Rattle.std.specs.List.{list_all, prefix_len}
use Rattle.std.specs.Fmt.{decimal}
use Rattle.std.proofs.Math.Seq.{take-append_seam, drop-append_seam}
use Rattle.std.proofs.lemmas.Bool.{eqb-true}
use Rattle.std.proofs.lemmas.Fmt.{first_decimal, decimal_nonempty, decimal_by_steps}
use Rattle.std.proofs.lemmas.List.Folds.{list_all-append}
use Rattle.text_fields.proofs.NumberTexts.{decimal_lacks}
use Rattle.std.proofs.lemmas.List.{append-nil}
use Rattle.std.proofs.lemmas.List.Elements.{All-nil, All-cons, All-head, All-tail}
use Rattle.proto_wire.proofs.OptionLemmas.{both_passed}
use Rattle.token_text.specs.Format.{HasNoPart, HasParts, HasWrongPart, here, later, IsFormat, IsPadding, IsPart, IsWidth, is_no_digit, letter, counted, format_text, is_argument, padding_text, part_text, percent}
use Rattle.token_text.specs.declared.part.Notation.{Notation}
use Rattle.token_text.specs.declared.part.Notation.TheVariants as notation
use Rattle.token_text.specs.declared.part.Padding.{Padding}
use Rattle.token_text.specs.declared.part.Padding.TheVariants as padding
use Rattle.token_text.specs.declared.part.Part.{Part}
use Rattle.token_text.specs.declared.part.Part.TheVariants as part

-- a width doesn't begin with a zero
plain_width : (w : ℕ) (ds : List ℕ) → IsWidth w → 48 ∷ ds ≡ decimal w → ⊥
plain_width w ds h e =
    let first : 48 < get_or (decimal w) 0 0 = first_decimal w (omega (arith, h.0)) (omega (arith, h.1)) in
    let zero : get_or (decimal w) 0 0 ≡ 48 = ap (λ l. get_or l 0 0) (sym e) in
    omega (arith, first, zero)

-- digits behind a zero are the width that is filled up with zeros
pub zeros_width : (p : Padding) (ds : List ℕ) → IsPadding p → 48 ∷ ds ≡ padding_text p → (w : ℕ) × (p ≡ padding.Zeros w) × IsWidth w × (ds ≡ decimal w)
zeros_width padding.Bare ds h e = absurd (let f : ⊥ = cc in f)
zeros_width (padding.Spaces w) ds h e = absurd (plain_width w ds h e)
zeros_width (padding.Zeros w) ds h e = (w, refl, h, cc)

-- without digits nothing is filled up
pub bare_width : (p : Padding) → IsPadding p → [] ≡ padding_text p → padding.Bare ≡ p
bare_width padding.Bare h e = refl
bare_width (padding.Spaces w) h e =
    let long : 0 < length (decimal w) = decimal_nonempty w (omega (arith, h.1)) in
    let none : length (decimal w) ≡ 0 = ap length (sym e) in
    absurd (omega (arith, long, none))
bare_width (padding.Zeros w) h e = absurd (let f : ⊥ = cc in f)

byte_long : (t : Bool) (b : ℕ) → 1 ≤ length (cond t (percent ∷ percent ∷ []) (b ∷ []))
byte_long true b = omega arith
byte_long false b = omega arith

-- a part is written in at least one byte
pub part_long : (p : Part) → 1 ≤ length (part_text p)
part_long (part.Byte b) = byte_long _ b
part_long (part.Number filled written) = omega arith
part_long part.Text = omega arith

-- the parts of a text, of which some were read, with this many arguments, and the rest is left
pub record LeadsOn (text : List ℕ) (before : ℕ) (rest : List ℕ) : Type 0 where
  pub forth : (qs : List Part) → HasParts before rest qs → (ps : List Part) × HasParts 0 text ps
  pub back : (ps : List Part) → HasParts 0 text ps → (qs : List Part) × HasParts before rest qs
  pub wrong : (k : ℕ) → HasWrongPart before rest k → HasWrongPart 0 text ((length text - length rest) + k)
  pub few : before ≤ 16
  pub shorter : length rest ≤ length text

-- the part p stands at the front of the rest, and no other
pub record HasFirst (rest : List ℕ) (p : Part) (behind : List ℕ) : Type 0 where
  pub allowed : IsPart p
  pub whole : rest ≡ part_text p ++ behind
  pub only : (q : Part) (r : List ℕ) → IsPart q → rest ≡ part_text q ++ r → (q ≡ p) × (r ≡ behind)

first_long : (rest : List ℕ) (p : Part) (behind : List ℕ) → rest ≡ part_text p ++ behind → length rest ≡ length (part_text p) + length behind
first_long rest p behind e = ap length e ∙ length-append (part_text p) behind

not_empty : (rest : List ℕ) (p : Part) (behind : List ℕ) → rest ≡ part_text p ++ behind → rest ≡ [] → ⊥
not_empty rest p behind e none =
    let long : 1 ≤ length (part_text p) = part_long p in
    let size = first_long rest p behind e in
    let zero : length rest ≡ 0 = ap length none in
    omega (arith, long, size, zero)

pub first_not_empty : (rest : List ℕ) (p : Part) (behind : List ℕ) → HasFirst rest p behind → rest ≢ []
first_not_empty rest p behind first none = not_empty rest p behind first.whole none

pub empty_list : (l : List ℕ) → length l ≡ 0 → l ≡ []
empty_list [] h = refl
empty_list (x ∷ l) h = absurd (omega (arith, h))

-- a test whether a list is empty
pub is_nil : (l : List ℕ) (b : Bool) → b ≡ (length l == 0) → b ≡ true → l ≡ []
is_nil l b e h = empty_list l (eqb-true (length l) 0 (sym e ∙ h))

pub not_nil : (l : List ℕ) (b : Bool) → b ≡ (length l == 0) → b ≡ false → l ≢ []
not_nil [] b e h none = let f : ⊥ = cc in f
not_nil (x ∷ l) b e h none = let f : ⊥ = cc in f

-- a `bool` as a number
pub weight_of : (b : Bool) → from_bool b ≡ counted b
weight_of true = refl
weight_of false = refl

last_by : (b : Bool) (before : ℕ) → before ≤ 16 → 16 < before + counted b → (b ≡ true) × (before ≡ 16)
last_by true before few many = (refl, omega (arith, few, many))
last_by false before few many = absurd (omega (arith, few, many))

-- a part that is one argument too many
pub too_many : (rest : List ℕ) (p : Part) (behind : List ℕ) (before : ℕ) → HasFirst rest p behind → before ≤ 16 → 16 < before + counted (is_argument p) → HasNoPart before rest
too_many rest p behind before first few many q r allowed whole =
    let last = last_by (is_argument p) before few many in
    let same = first.only q r allowed whole in
    (ap (λ x. is_argument x) same.0 ∙ last.0, last.1)

-- a format has no more parts than bytes
pub parts_few : (ps : List Part) → length ps ≤ length (format_text ps)
parts_few [] = omega arith
parts_few (p ∷ ps) =
    let long : 1 ≤ length (part_text p) = part_long p in
    let more : length ps ≤ length (format_text ps) = parts_few ps in
    let size = length-append (part_text p) (format_text ps) in
    omega (arith, long, more, size)

pub format_few : (text : List ℕ) (ps : List Part) → IsFormat text ps → length ps ≤ 256
format_few text ps h =
    let few = parts_few ps in
    let size : length text ≡ length (format_text ps) = ap length h.parts_are.spelled in
    omega (arith, few, size, h.short)

with_part : (before : ℕ) (rest : List ℕ) (p : Part) (behind : List ℕ) (qs : List Part) → IsPart p → rest ≡ part_text p ++ behind →
    HasParts (before + counted (is_argument p)) behind qs → HasParts before rest (p ∷ qs)
with_part before rest p behind qs allowed whole h = record {
  spelled = whole ∙ ap (λ l. part_text p ++ l) h.spelled;
  allowed = All-cons IsPart p qs allowed h.allowed;
  few = omega (arith, h.few);
}

without_part : (before : ℕ) (rest : List ℕ) (p : Part) (behind : List ℕ) (qs : List Part) → HasFirst rest p behind →
    HasParts before rest qs → (rs : List Part) × HasParts (before + counted (is_argument p)) behind rs
without_part before rest p behind [] first h = absurd (not_empty rest p behind first.whole h.spelled)
without_part before rest p behind (q ∷ qs) first h =
    let same = first.only q (format_text qs) (All-head IsPart q qs h.allowed) h.spelled in
    let weight : counted (is_argument q) ≡ counted (is_argument p) = ap (λ r. counted (is_argument r)) same.0 in (
      qs,
      record {
        spelled = sym same.1;
        allowed = All-tail IsPart q qs h.allowed;
        few = omega (arith, h.few, weight);
      },
    )

-- one more part was read
pub leads_more : (text : List ℕ) (before : ℕ) (rest : List ℕ) (p : Part) (behind : List ℕ) → LeadsOn text before rest → HasFirst rest p behind →
    before + counted (is_argument p) ≤ 16 → LeadsOn text (before + counted (is_argument p)) behind
leads_more text before rest p behind leads first few =
    let size = first_long rest p behind first.whole in
    record {
      forth = λ qs h. leads.forth (p ∷ qs) (with_part before rest p behind qs first.allowed first.whole h);
      back = λ ps h. let qs = leads.back ps h in without_part before rest p behind qs.0 first qs.1;
      wrong = λ k h.
          let P : List ℕ → Type 0 = λ l. HasWrongPart before l (length (part_text p) + k) in
          let here : HasWrongPart before rest (length (part_text p) + k) = subst P (sym first.whole) (later before p behind k first.allowed few h) in
          let e : (length text - length rest) + (length (part_text p) + k) ≡ (length text - length behind) + k = omega (arith, size, leads.shorter) in
          subst (HasWrongPart 0 text) e (leads.wrong _ here);
      few = few;
      shorter = omega (arith, size, leads.shorter);
    }

-- no part is allowed next
pub leads_wrong : (text : List ℕ) (before : ℕ) (rest : List ℕ) → LeadsOn text before rest → rest ≢ [] → HasNoPart before rest → HasWrongPart 0 text (length text - length rest)
leads_wrong text before rest leads more none =
    let e : (length text - length rest) + 0 ≡ length text - length rest = omega arith in
    subst (HasWrongPart 0 text) e (leads.wrong 0 (here before rest more none))

stuck : (before : ℕ) (rest : List ℕ) (qs : List Part) → rest ≢ [] → HasNoPart before rest → HasParts before rest qs → ⊥
stuck before rest [] more none h = more h.spelled
stuck before rest (q ∷ qs) more none h =
    let last = none q (format_text qs) (All-head IsPart q qs h.allowed) h.spelled in
    let weight : counted (is_argument q) ≡ 1 = ap counted last.0 in
    omega (arith, h.few, weight, last.1)

-- and then the text is no format
pub leads_stuck : (text : List ℕ) (before : ℕ) (rest : List ℕ) (ps : List Part) → LeadsOn text before rest → rest ≢ [] → HasNoPart before rest → HasParts 0 text ps → ⊥
leads_stuck text before rest ps leads more none h = let qs = leads.back ps h in stuck before rest qs.0 more none qs.1

-- nothing is left
pub leads_done : (text : List ℕ) (before : ℕ) (rest : List ℕ) → LeadsOn text before rest → rest ≡ [] → (ps : List Part) × HasParts 0 text ps
leads_done text before rest leads none =
    leads.forth [] (record { spelled = none; allowed = All-nil IsPart; few = omega (arith, leads.few) })

-- the parts that are still to be read of a format
abbrev pub Remaining : List ℕ → List Part → List Part → Type 0
Remaining rest seen ps = (qs : List Part) × (ps ≡ seen ++ qs) × (rest ≡ format_text qs) × All IsPart qs

remaining_by : (rest : List ℕ) (seen ps : List Part) (p : Part) (behind : List ℕ) (qs : List Part) → HasFirst rest p behind →
    ps ≡ seen ++ qs → rest ≡ format_text qs → All IsPart qs → Remaining behind (seen ++ p ∷ []) ps
remaining_by rest seen ps p behind [] first is spelled allowed = absurd (not_empty rest p behind first.whole spelled)
remaining_by rest seen ps p behind (q ∷ qs) first is spelled allowed =
    let same = first.only q (format_text qs) (All-head IsPart q qs allowed) spelled in (
      qs,
      is ∙ (ap (λ r. seen ++ (r ∷ qs)) same.0 ∙ sym (append_assoc seen (p ∷ []) qs)),
      sym same.1,
      All-tail IsPart q qs allowed,
    )

pub remaining_more : (rest : List ℕ) (seen ps : List Part) (p : Part) (behind : List ℕ) → HasFirst rest p behind →
    Remaining rest seen ps → Remaining behind (seen ++ p ∷ []) ps
remaining_more rest seen ps p behind first h = remaining_by rest seen ps p behind h.0 first h.1 h.2 h.3

remaining_none : (rest : List ℕ) (seen ps qs : List Part) → ((q : Part) (r : List ℕ) → IsPart q → rest ≡ part_text q ++ r → ⊥) →
    ps ≡ seen ++ qs → rest ≡ format_text qs → All IsPart qs → seen ≡ ps
remaining_none rest seen ps [] none is spelled allowed = sym (is ∙ append-nil seen)
remaining_none rest seen ps (q ∷ qs) none is spelled allowed = absurd (none q (format_text qs) (All-head IsPart q qs allowed) spelled)

-- no part is left
pub remaining_end : (rest : List ℕ) (seen ps : List Part) → ((q : Part) (r : List ℕ) → IsPart q → rest ≡ part_text q ++ r → ⊥) →
    Remaining rest seen ps → seen ≡ ps
remaining_end rest seen ps none h = remaining_none rest seen ps h.0 none h.1 h.2 h.3

letter_other : (written : Notation) → (letter written ≢ 37) × (letter written ≢ 115)
letter_other notation.Signed = (λ e. omega (arith, e), λ e. omega (arith, e))
letter_other notation.Unsigned = (λ e. omega (arith, e), λ e. omega (arith, e))
letter_other notation.Hexadecimal = (λ e. omega (arith, e), λ e. omega (arith, e))

head_is : (ds : List ℕ) (c : ℕ) (behind tail : List ℕ) → 0 < length ds → c ∷ behind ≡ ds ++ tail → c ≡ get_or ds 0 0
head_is [] c behind tail some e = absurd (omega (arith, some))
head_is (d ∷ ds) c behind tail some e = cc

-- behind the percent sign of a number no further percent sign stands, and no `s`
number_second : (filled : Padding) (written : Notation) (c : ℕ) (behind r : List ℕ) → IsPadding filled →
    c ∷ behind ≡ (padding_text filled ++ letter written ∷ []) ++ r → (c ≢ 37) × (c ≢ 115)
number_second padding.Bare written c behind r h e =
    let is : c ≡ letter written = cc in
    let other = letter_other written in
    (λ same. other.0 (sym is ∙ same), λ same. other.1 (sym is ∙ same))
number_second (padding.Spaces w) written c behind r h e =
    let small : w < 2 ^ 64 = omega (arith, h.1) in
    let some : 0 < length (decimal w) = decimal_nonempty w small in
    let is : c ≡ get_or (decimal w) 0 0 = head_is (decimal w) c behind ((letter written ∷ []) ++ r) some (e ∙ append_assoc (decimal w) (letter written ∷ []) r) in
    let no_percent = decimal_lacks w 37 small (λ range. omega (arith, range)) 0 0 some in
    let no_s = decimal_lacks w 115 small (λ range. omega (arith, range)) 0 0 some in
    (λ same. no_percent (sym is ∙ same), λ same. no_s (sym is ∙ same))
number_second (padding.Zeros w) written c behind r h e =
    let is : c ≡ 48 = cc in
    (λ same. omega (arith, is, same), λ same. omega (arith, is, same))

byte_escaped : (t : Bool) (b c : ℕ) (behind rest : List ℕ) → eqb b percent ≡ t → percent ∷ c ∷ behind ≡ cond t (percent ∷ percent ∷ []) (b ∷ []) ++ rest →
    (b ≡ percent) × (c ≡ percent) × (behind ≡ rest)
byte_escaped true b c behind rest test e = (eqb-true b percent test, cc, cc)
byte_escaped false b c behind rest test e =
    let is : percent ≡ b = cc in
    let same : eqb b percent ≡ true = eq-eqb b percent (sym is) in
    absurd (let f : ⊥ = cc in f)

-- two percent signs are the byte
pub escaped_percent : (p : Part) (behind rest : List ℕ) → IsPart p → percent ∷ percent ∷ behind ≡ part_text p ++ rest → (part.Byte percent ≡ p) × (behind ≡ rest)
escaped_percent (part.Byte b) behind rest h e = let r = byte_escaped (eqb b percent) b percent behind rest refl e in (ap (λ x. part.Byte x) (sym r.0), r.2)
escaped_percent (part.Number filled written) behind rest h e =
    let tail : percent ∷ behind ≡ (padding_text filled ++ letter written ∷ []) ++ rest = cc in
    absurd ((number_second filled written percent behind rest h tail).0 refl)
escaped_percent part.Text behind rest h e = let f : percent ≡ 115 = cc in absurd (omega (arith, f))

-- a percent sign and `s` are a text
pub escaped_text : (p : Part) (behind rest : List ℕ) → IsPart p → percent ∷ 115 ∷ behind ≡ part_text p ++ rest → (part.Text ≡ p) × (behind ≡ rest)
escaped_text (part.Byte b) behind rest h e = let r = byte_escaped (eqb b percent) b 115 behind rest refl e in absurd (omega (arith, r.1))
escaped_text (part.Number filled written) behind rest h e =
    let tail : 115 ∷ behind ≡ (padding_text filled ++ letter written ∷ []) ++ rest = cc in
    absurd ((number_second filled written 115 behind rest h tail).1 refl)
escaped_text part.Text behind rest h e = (refl, cc)

-- the bytes that pass stop at the first one that doesn't
stop_at : (p : ℕ → Bool) (ds : List ℕ) (c : ℕ) (rest : List ℕ) → list_all p ds ≡ true → p c ≡ false → prefix_len p (ds ++ c ∷ rest) ≡ length ds
stop_at p [] c rest all stops = ap (λ b. cond b (1 + prefix_len p rest) 0) stops
stop_at p (d ∷ ds) c rest all stops =
    let parts = both_passed (p d) (list_all p ds) all in
    let more = stop_at p ds c rest parts.1 stops in
    let e : 1 + prefix_len p (ds ++ c ∷ rest) ≡ suc (length ds) = omega (arith, more) in
    ap (λ b. cond b (1 + prefix_len p (ds ++ c ∷ rest)) 0) parts.0 ∙ e

is_digit : ℕ → Bool
is_digit b = not (is_no_digit b)

digit_test : (n : ℕ) → n < 10 → is_digit (48 + n) ≡ true
unfolding is_digit
digit_test n h =
    let low : leb 48 (48 + n) ≡ true = le-leb 48 (48 + n) (omega arith) in
    let high : leb (48 + n) 57 ≡ true = le-leb (48 + n) 57 (omega (arith, h)) in
    ap (λ b. not (not (b && leb (48 + n) 57))) low ∙ ap (λ b. not (not b)) high

decimal_digits : (n : ℕ) → n < 2 ^ 64 → list_all is_digit (decimal n) ≡ true
decimal_digits n small =
    decimal_by_steps (λ n ds. list_all is_digit ds ≡ true)
    (λ n h. ap (λ b. b && true) (digit_test n h))
    (λ n ds big before.
    let last : is_digit (48 + n % 10) ≡ true = digit_test (n % 10) (omega arith) in
    list_all-append is_digit ds ((48 + n % 10) ∷ []) ∙ (ap (λ b. b && (is_digit (48 + n % 10) && true)) before ∙ ap (λ b. b && true) last))
    n small

padding_digits : (filled : Padding) → IsPadding filled → list_all is_digit (padding_text filled) ≡ true
unfolding is_digit
padding_digits padding.Bare h = refl
padding_digits (padding.Spaces w) h = decimal_digits w (omega (arith, h.1))
padding_digits (padding.Zeros w) h = decimal_digits w (omega (arith, h.1))

letter_stops : (written : Notation) → is_digit (letter written) ≡ false
unfolding is_digit
letter_stops notation.Signed = refl
letter_stops notation.Unsigned = refl
letter_stops notation.Hexadecimal = refl

counted_by : (p : ℕ → Bool) (ds : List ℕ) (c : ℕ) (rest : List ℕ) → list_all (λ b. not (p b)) ds ≡ true → not (p c) ≡ false → position p (ds ++ c ∷ rest) ≡ Some (length ds)
counted_by p ds c rest all stops =
    let inside : length ds < length (ds ++ c ∷ rest) = rw length-append (omega arith) in
    ap (λ n. cond (ltb n (length (ds ++ c ∷ rest))) (Some n) None) (stop_at (λ b. not (p b)) ds c rest all stops)
    ∙ ap (λ b. cond b (Some (length ds)) None) (lt-ltb (length ds) (length (ds ++ c ∷ rest)) inside)

-- the digits of a number end at its letter
pub counted_digits : (filled : Padding) (written : Notation) (rest : List ℕ) → IsPadding filled →
    position is_no_digit (padding_text filled ++ letter written ∷ rest) ≡ Some (length (padding_text filled))
unfolding is_digit
counted_digits filled written rest h = counted_by is_no_digit (padding_text filled) (letter written) rest (padding_digits filled h) (letter_stops written)

-- so these are the digits, the letter, and what stands behind it
pub number_parts : (text : List ℕ) (n : ℕ) (filled : Padding) (written : Notation) (rest : List ℕ) → IsPadding filled →
    text ≡ padding_text filled ++ letter written ∷ rest → Some n ≡ position is_no_digit text →
    (take n text ≡ padding_text filled) × (drop n text ≡ letter written ∷ rest)
number_parts text n filled written rest h e count =
    let found : position is_no_digit text ≡ Some (length (padding_text filled)) = ap (λ l. position is_no_digit l) e ∙ counted_digits filled written rest h in
    let size : n ≡ length (padding_text filled) = cc in (
      ap (λ l. take n l) e ∙ (ap (λ k. take k (padding_text filled ++ letter written ∷ rest)) size ∙ take-append_seam (padding_text filled) (letter written ∷ rest)),
      ap (λ l. drop n l) e ∙ (ap (λ k. drop k (padding_text filled ++ letter written ∷ rest)) size ∙ drop-append_seam (padding_text filled) (letter written ∷ rest)),
    )
