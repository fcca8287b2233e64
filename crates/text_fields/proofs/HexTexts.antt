-- Bytes and their texts of hexadecimal digits.
use Rattle.std.proofs.Common.{◌≡◌, ℕ, zero, suc, ◌+◌, ◌*◌, ◌/◌, ◌%◌, ◌<◌, ◌==◌, Bool, true, false, ◌&&◌, if◌then◌else◌, nat_lt, List, [], ◌∷◌, slice_index, Some, Result, Ok, Err, inl, inr, refl, sym, ap, ◌∙◌, arith}
use Rattle.std.specs.Prelude.{◌≢◌, All}
use Rattle.std.specs.Result.{result_unwrap_or}
use Rattle.std.specs.Char.{is_ascii_uppercase}
use Rattle.std.specs.List.{list_any}
use Rattle.hex.specs.Hex.{IsBytes, decode_of, decode_pairs, encode_lower, encode_with, hex_digit_value, is_hex_digit, lower_digits, pair_value, value_at, ◌>>=◌}
use Rattle.hex.specs.declared.error.FromHexError.{FromHexError}
use Rattle.hex.proofs.HexLemmas.{decode_of-even, decode_of-ok}
use Rattle.text_fields.specs.Splits.{Lacks}
use Rattle.std.proofs.lemmas.List.Elements.{All-nil, All-cons}
use Rattle.std.proofs.lemmas.List.Folds.{list_any_none}
use Rattle.std.proofs.lemmas.Bool.{and_parts, or_parts, cases_lt, eqb-true}

-- the digit of a value below 16: 48 is `0`, and 87 + 10 is `a`
abbrev digit_of : ℕ → ℕ
digit_of v = if nat_lt v 10 then 48 + v else 87 + v

-- the test of the table of digits, up to a value
abbrev all_digits_below : ℕ → Bool
all_digits_below zero = true
all_digits_below (suc n) = (slice_index lower_digits n == digit_of n) && all_digits_below n

digit_below : (n v : ℕ) → all_digits_below n ≡ true → v < n → slice_index lower_digits v ≡ digit_of v
digit_below zero v all below = absurd (omega arith)
digit_below (suc n) v all below =
    let parts = and_parts (slice_index lower_digits n == digit_of n) (all_digits_below n) all in
    elim (cases_lt v n) [
      | inl less ↦ digit_below n v parts.1 less
      | inr last ↦
          let e : v ≡ n = omega arith in
          rw e (eqb-true _ _ parts.0)
    ]

lower_digit : (byte v : ℕ) → hex_digit_value byte ≡ Some v → is_ascii_uppercase byte ≡ false → slice_index lower_digits v ≡ byte
lower_digit byte v value small =
    let below : v < 16 = grind (arith) in
    let digit : digit_of v ≡ byte = grind (arith) in
    digit_below 16 v refl below ∙ digit

-- what an `Ok` behind `>>=` shows
bind_ok :
    {A B : Type 0} (r : Result A FromHexError) (f : A → Result B FromHexError) (y : B) → (r >>= f) ≡ Ok y →
    (x : A) × (r ≡ Ok x) × (f x ≡ Ok y)
bind_ok (Ok x) f y h = (x, refl, h)
bind_ok (Err e) f y h = cc h

digit_read : (byte i v : ℕ) → value_at byte i ≡ Ok v → hex_digit_value byte ≡ Some v
digit_read byte i v read = grind (arith)

value_below : (byte v : ℕ) → hex_digit_value byte ≡ Some v → v < 16
value_below byte v value = grind (arith)

small_digit : (d : ℕ) → d < 16 → is_ascii_uppercase (digit_of d) ≡ false
small_digit d small = grind (arith)

reads_back : (d : ℕ) → d < 16 → is_hex_digit (digit_of d) ≡ true
reads_back d small = grind (arith)

-- a text of pairs without a capital is the lower-case text of the bytes that it decodes to
lower_pairs :
    (i : ℕ) (text bytes : List ℕ) → decode_pairs i text ≡ Ok bytes →
    list_any is_ascii_uppercase text ≡ false → text ≡ encode_lower bytes
unfolding decode_pairs encode_with
lower_pairs i [] bytes read small =
    let none : [] ≡ bytes = ap (λ (r : Result (List ℕ) FromHexError). result_unwrap_or r []) read in
    rw (← none) refl
lower_pairs i (a ∷ []) bytes read small = cc read
lower_pairs i (a ∷ b ∷ rest) bytes read small =
    let first = or_parts (is_ascii_uppercase a) (list_any is_ascii_uppercase (b ∷ rest)) small in
    let second = or_parts (is_ascii_uppercase b) (list_any is_ascii_uppercase rest) first.1 in
    let pair = bind_ok (pair_value a b i) _ bytes read in
    let high = bind_ok (value_at a i) _ pair.0 pair.1 in
    let low = bind_ok (value_at b (i + 1)) _ pair.0 high.2 in
    let more = bind_ok (decode_pairs (i + 2) rest) _ bytes pair.2 in
    let high_read = digit_read a i high.0 high.1 in
    let low_read = digit_read b (i + 1) low.0 low.1 in
    let high_digit = lower_digit a high.0 high_read first.0 in
    let low_digit = lower_digit b low.0 low_read second.0 in
    let high_small = value_below a high.0 high_read in
    let low_small = value_below b low.0 low_read in
    let byte : high.0 * 16 + low.0 ≡ pair.0 = ap (λ (r : Result ℕ FromHexError). result_unwrap_or r 0) low.2 in
    let whole : pair.0 ∷ more.0 ≡ bytes = ap (λ (r : Result (List ℕ) FromHexError). result_unwrap_or r []) more.2 in
    let upper_half : pair.0 / 16 ≡ high.0 = omega arith in
    let lower_half : pair.0 % 16 ≡ low.0 = omega arith in
    let later = lower_pairs (i + 2) rest more.0 more.1 second.1 in
    rw (← whole, upper_half, lower_half, high_digit, low_digit, ← later) refl

-- a text without a capital is the lower-case text of the bytes that it decodes to
pub lower_text :
    (text bytes : List ℕ) → decode_of text ≡ Ok bytes → list_any is_ascii_uppercase text ≡ false → text ≡ encode_lower bytes
lower_text text bytes read small =
    lower_pairs 0 text bytes (sym (decode_of-even text (decode_of-ok text bytes read).0) ∙ read) small

-- what holds of each lower-case digit holds throughout a lower-case text
encoded_all :
    (P : ℕ → Type 0) → ((d : ℕ) → d < 16 → P (slice_index lower_digits d)) →
    (bytes : List ℕ) → IsBytes bytes → All P (encode_lower bytes)
unfolding encode_with
encoded_all P digit [] octets = All-nil P
encoded_all P digit (byte ∷ bytes) octets =
    let small : byte < 256 = octets 0 in
    let high = slice_index lower_digits (byte / 16) in
    let low = slice_index lower_digits (byte % 16) in
    let later = encoded_all P digit bytes (λ i. octets (suc i)) in
    All-cons P high (low ∷ encode_lower bytes) (digit (byte / 16) (omega arith))
    (All-cons P low (encode_lower bytes) (digit (byte % 16) (omega arith)) later)

-- a lower-case text has no capital
pub encoded_has_no_capital : (bytes : List ℕ) → IsBytes bytes → list_any is_ascii_uppercase (encode_lower bytes) ≡ false
encoded_has_no_capital bytes octets =
    list_any_none is_ascii_uppercase (encode_lower bytes)
    (encoded_all (λ c. is_ascii_uppercase c ≡ false) (λ d small. rw (digit_below 16 d refl small) (small_digit d small)) bytes octets)

-- a byte that is no digit is nowhere in a lower-case text
pub encoded_lacks : (byte : ℕ) (bytes : List ℕ) → IsBytes bytes → is_hex_digit byte ≡ false → Lacks byte (encode_lower bytes)
encoded_lacks byte bytes octets other =
    encoded_all (λ c. c ≢ byte) (λ d small is.
    let digit : digit_of d ≡ byte = sym (digit_below 16 d refl small) ∙ is in
    let reads : is_hex_digit byte ≡ true = rw digit at (reads_back d small) in
    cc (sym reads ∙ other)) bytes octets
