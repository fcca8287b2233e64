-- Which words tell a payload.
use Rattle.std.proofs.Common.{◌≡◌, ◌≢◌, ℕ, ◌*◌, ◌%◌, ◌==◌, ◌<◌, ◌≤◌, ◌&&◌, ◌||◌, not, Bool, true, false, List, [], ◌∷◌, length, codes, nat_le, nat_lt, refl, ap, sym, ◌∙◌, subst, arith}
use Rattle.std.proofs.lemmas.Bool.{and_parts, and_from, eqb-true, eq-eqb, leb-true, le-leb, ltb-true, lt-ltb, false≢true, true≢false}
use Rattle.std.proofs.lemmas.List.Sums.{AllPass-from_list_all, list_all-from_AllPass}
use Rattle.std.specs.Char.{is_ascii_uppercase}
use Rattle.std.specs.List.{list_all, list_any}
use Rattle.hex.specs.Hex.{IsBytes, decode_of, encode_lower, encode_with, is_hex_digit}
use Rattle.hex.proofs.HexLemmas.{decode_of-digits, decode_of-encode_lower, decode_of-ok}
use Rattle.text_fields.proofs.HexTexts.{encoded_has_no_capital, lower_text}
use Rattle.rpc_handlers.specs.declared.answer.TheConstants.{MAX_PAYLOAD}
use Rattle.pw_run.specs.Payload.{IsPayload, are_digits, is_length, lower_digit}

-- ---- a digit of small letters

both_parts : (h u : Bool) → (h && not u) ≡ true → (h ≡ true) × (u ≡ false)
both_parts true false is = (refl, refl)
both_parts true true is = absurd (false≢true is)
both_parts false u is = absurd (false≢true is)

split_digits : (text : List ℕ) → list_all lower_digit text ≡ true → (list_all is_hex_digit text ≡ true) × (list_any is_ascii_uppercase text ≡ false)
split_digits [] all = (refl, refl)
split_digits (c ∷ text) all =
    let parts = and_parts (lower_digit c) (list_all lower_digit text) all in
    let first = both_parts (is_hex_digit c) (is_ascii_uppercase c) parts.0 in
    let rest = split_digits text parts.1 in
    (and_from (is_hex_digit c) (list_all is_hex_digit text) first.0 rest.0, ap (λ b. b || list_any is_ascii_uppercase text) first.1 ∙ rest.1)

small_first : (u v : Bool) → (u || v) ≡ false → (u ≡ false) × (v ≡ false)
small_first false false is = (refl, refl)
small_first false true is = absurd (true≢false is)
small_first true v is = absurd (true≢false is)

join_digits : (text : List ℕ) → list_all is_hex_digit text ≡ true → list_any is_ascii_uppercase text ≡ false → list_all lower_digit text ≡ true
join_digits [] all small = refl
join_digits (c ∷ text) all small =
    let parts = and_parts (is_hex_digit c) (list_all is_hex_digit text) all in
    let first = small_first (is_ascii_uppercase c) (list_any is_ascii_uppercase text) small in
    and_from (lower_digit c) (list_all lower_digit text) (and_from (is_hex_digit c) (not (is_ascii_uppercase c)) parts.0 (ap not first.0)) (join_digits text parts.1 first.1)

-- ---- a word

pub dash_tells : IsPayload (codes "-") []
dash_tells = record { spelled = refl; octets = λ i. omega arith; short = omega arith }

-- a dash tells no byte
pub dash_only : (word bytes : List ℕ) → word ≡ codes "-" → IsPayload word bytes → [] ≡ bytes
unfolding encode_with
dash_only word [] dash told = refl
dash_only word (byte ∷ bytes) dash told = cc (sym dash ∙ told.spelled)

-- another word has the digits of its bytes, of which there are some
pub other_digits : (word bytes : List ℕ) → (word ≡ codes "-" → ⊥) → IsPayload word bytes → (word ≡ encode_lower bytes) × (bytes ≢ [])
other_digits word [] other told = absurd (other told.spelled)
other_digits word (byte ∷ bytes) other told = (told.spelled, λ is. cc is)

-- digits tell their bytes, where there are some
pub digits_spell : (word bytes : List ℕ) → word ≡ encode_lower bytes → bytes ≢ [] → IsBytes bytes → length bytes ≤ MAX_PAYLOAD → IsPayload word bytes
digits_spell word [] is some octets short = absurd (some refl)
digits_spell word (byte ∷ bytes) is some octets short = record { spelled = is; octets = octets; short = short }

pub digits_tell : (text : List ℕ) → are_digits text ≡ true → (bytes : List ℕ) × IsPayload text bytes
digits_tell text are =
    let parts = and_parts (is_length (length text)) (list_all lower_digit text) are in
    let first = and_parts (nat_lt 0 (length text) && nat_le (length text) 16000) (length text % 2 == 0) parts.0 in
    let rest = and_parts (nat_lt 0 (length text)) (nat_le (length text) 16000) first.0 in
    let digits = split_digits text parts.1 in
    let read = decode_of-digits text (eqb-true (length text % 2) 0 first.1) (AllPass-from_list_all is_hex_digit text digits.0) in
    let ok = decode_of-ok text read.0 read.1 in
    let some : 0 < length text = ltb-true 0 (length text) rest.0 in
    let short : length text ≤ 16000 = leb-true (length text) 16000 rest.1 in (
      read.0,
      digits_spell text read.0 (lower_text text read.0 read.1 digits.1) (λ none. let n = ap length none in omega (arith, ok.2, n, some)) ok.3 (omega (arith, short, ok.2)),
    )

pub tell_digits : (text bytes : List ℕ) → text ≡ encode_lower bytes → bytes ≢ [] → IsBytes bytes → length bytes ≤ MAX_PAYLOAD → are_digits text ≡ true
tell_digits text bytes is some octets short =
    let ok = decode_of-ok text bytes (ap (λ t. decode_of t) is ∙ decode_of-encode_lower bytes octets) in
    and_from (is_length (length text)) (list_all lower_digit text)
    (and_from (nat_lt 0 (length text) && nat_le (length text) 16000) (length text % 2 == 0)
    (and_from (nat_lt 0 (length text)) (nat_le (length text) 16000) (lt-ltb 0 (length text) (more bytes ok.2 some)) (le-leb (length text) 16000 (omega (arith, ok.2, short))))
    (eq-eqb (length text % 2) 0 ok.0))
    (join_digits text (list_all-from_AllPass is_hex_digit text ok.1) (ap (list_any is_ascii_uppercase) is ∙ encoded_has_no_capital bytes octets))
  where
    more : (bytes : List ℕ) → length text ≡ 2 * length bytes → bytes ≢ [] → 0 < length text
    more [] same some = absurd (some refl)
    more (b ∷ bytes) same some = omega (arith, same)

-- ---- one payload

encoded_same : (a b : List ℕ) → IsBytes a → IsBytes b → encode_lower a ≡ encode_lower b → a ≡ b
encoded_same a b first second same = cc (sym (decode_of-encode_lower a first) ∙ (ap decode_of same ∙ decode_of-encode_lower b second))

pub one_payload : (word a b : List ℕ) → IsPayload word a → IsPayload word b → a ≡ b
unfolding encode_with
one_payload word [] [] first second = refl
one_payload word [] (y ∷ b) first second = cc (sym first.spelled ∙ second.spelled)
one_payload word (x ∷ a) [] first second = cc (sym first.spelled ∙ second.spelled)
one_payload word (x ∷ a) (y ∷ b) first second = encoded_same (x ∷ a) (y ∷ b) first.octets second.octets (sym first.spelled ∙ second.spelled)

-- bytes whose digits a word is, where it tells some, are those
pub read_tells : (word bytes : List ℕ) → (word ≡ codes "-" → ⊥) → word ≡ encode_lower bytes → IsBytes bytes → (other : List ℕ) → IsPayload word other → IsPayload word bytes
read_tells word bytes not_dash spelled octets other told =
    let digits = other_digits word other not_dash told in
    subst (IsPayload word) (encoded_same other bytes told.octets octets (sym digits.0 ∙ spelled)) told

-- some bytes have these digits
pub none_read : (word other : List ℕ) → (word ≡ codes "-" → ⊥) → IsPayload word other → ((bytes : List ℕ) → IsBytes bytes → word ≡ encode_lower bytes → ⊥) → ⊥
none_read word other not_dash told none = none other told.octets (other_digits word other not_dash told).0
