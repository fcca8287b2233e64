-- Fields have no blank, and a text has one first field.
use Rattle.std.proofs.Common.{◌≡◌, ℕ, ◌^◌, ◌<◌, ◌⊎◌, Bool, true, false, not, ◌==◌, ◌&&◌, nat_le, Option, Some, None, List, [], ◌∷◌, ◌++◌, Bor, codes, inl, inr, refl, sym, ◌∙◌, arith}
use Rattle.std.specs.Prelude.{◌≢◌}
use Rattle.std.specs.Fmt.{decimal}
use Rattle.std.proofs.lemmas.Bool.{and_parts}
use Rattle.std.proofs.lemmas.Bool.Decides.{nat_tests}
use Rattle.std.proofs.lemmas.List.Elements.{All-head, All-tail, All-nil, All-cons, All-append}
use Rattle.hex.specs.Hex.{IsBytes, encode_lower, is_hex_digit}
use Rattle.rpc_handlers.specs.declared.answer.End.{End}
use Rattle.rpc_handlers.specs.declared.answer.Out.{Out}
use Rattle.rpc_handlers.specs.declared.answer.Out.TheVariants.{Say as Message, Begin, Append, Commit, Leave}
use Rattle.text_fields.specs.Splits.{IsSplitAt, Lacks}
use Rattle.text_fields.proofs.HexTexts.{encoded_lacks}
use Rattle.text_fields.proofs.NumberTexts.{decimal_lacks}
use Rattle.journal_text.specs.Fields.{behind}
use Rattle.journal_text.specs.Line.{item_text}
use Rattle.journal_text.specs.Reading.{IsEnd, IsOut}

-- a number has no byte that is no digit
pub number_lacks : (n separator : ℕ) → n < 2 ^ 64 → (separator < 48 ⊎ 57 < separator) → Lacks separator (decimal n)
number_lacks n separator small other =
    decimal_lacks n separator small (λ digit. elim other [ inl below ↦ omega arith | inr above ↦ omega arith ])

-- a number in front of a byte that is no digit stands in front of the first such byte
pub number_split :
    (text rest : List ℕ) (n separator : ℕ) → n < 2 ^ 32 → (separator < 48 ⊎ 57 < separator) →
    text ≡ decimal n ++ separator ∷ rest → IsSplitAt separator text (decimal n) rest
number_split text rest n separator small other is = record {
  spelled = is;
  first = number_lacks n separator (omega arith) other;
}

-- whether a word has no byte of this value
abbrev pub has_none : ℕ → List ℕ → Bool
has_none x [] = true
has_none x (b ∷ word) = not (b == x) && has_none x word

pub plain_lacks : (x : ℕ) (word : List ℕ) → has_none x word ≡ true → Lacks x word
plain_lacks x [] none = All-nil (λ b. b ≢ x)
plain_lacks x (b ∷ word) none =
    let parts = and_parts (not (b == x)) (has_none x word) none in
    All-cons (λ b. b ≢ x) b word (λ is. let first = parts.0 in grind (arith, nat_tests)) (plain_lacks x word parts.1)

pub join_lacks : (x : ℕ) (front back : List ℕ) → Lacks x front → Lacks x back → Lacks x (front ++ back)
join_lacks x front back first second = All-append (λ b. b ≢ x) front back first second

-- all bytes of fields stand from 45 on, the number of the dash
small_lacks : (x n : ℕ) → x < 45 → n < 2 ^ 32 → Lacks x (decimal n)
small_lacks x n low small = number_lacks n x (omega arith) (inl (omega arith))

large_lacks : (x n : ℕ) → x < 45 → n < 2 ^ 64 → Lacks x (decimal n)
large_lacks x n low small = number_lacks n x small (inl (omega arith))

no_digit : (x : ℕ) → x < 45 → is_hex_digit x ≡ false
no_digit x low = grind (arith, nat_tests)

hex_lacks : (x : ℕ) (bytes : List ℕ) → x < 45 → IsBytes bytes → Lacks x (encode_lower bytes)
hex_lacks x bytes low octets = encoded_lacks x bytes octets (no_digit x low)

-- whether all bytes of a word stand from 45 on
abbrev is_high : List ℕ → Bool
is_high [] = true
is_high (b ∷ word) = nat_le 45 b && is_high word

word_lacks : (x : ℕ) (word text : List ℕ) → x < 45 → is_high word ≡ true → Lacks x text → Lacks x (word ++ text)
word_lacks x [] text low high lacks = lacks
word_lacks x (b ∷ word) text low high lacks =
    let parts = and_parts (nat_le 45 b) (is_high word) high in
    All-cons (λ b. b ≢ x) b (word ++ text) (λ is. let first = parts.0 in grind (arith, nat_tests))
    (word_lacks x word text low parts.1 lacks)

-- two fields with a colon between them
colon_lacks : (x : ℕ) (front back : List ℕ) → x < 45 → Lacks x front → Lacks x back → Lacks x (front ++ 58 ∷ back)
colon_lacks x front back low first second = join_lacks x front (58 ∷ back) first (word_lacks x (58 ∷ []) back low refl second)

-- an item has no such byte
pub item_lacks : (x : ℕ) (item : Out) → x < 45 → IsOut item → Lacks x (item_text item)
item_lacks x (Message payload) low fits = word_lacks x (codes "say:") _ low refl (hex_lacks x payload low fits)
item_lacks x (Begin session resource offset) low fits =
    word_lacks x (codes "begin:") _ low refl
    (colon_lacks x (decimal session) _ low (small_lacks x session low fits.0)
    (colon_lacks x (decimal resource) _ low (small_lacks x resource low fits.1) (large_lacks x offset low fits.2)))
item_lacks x (Append session bytes) low fits =
    word_lacks x (codes "append:") _ low refl
    (colon_lacks x (decimal session) _ low (small_lacks x session low fits.0) (hex_lacks x bytes low fits.1))
item_lacks x (Commit session) low fits = word_lacks x (codes "commit:") _ low refl (small_lacks x session low fits)
item_lacks x (Leave session) low fits = word_lacks x (codes "leave:") _ low refl (small_lacks x session low fits)

-- an end has no such byte
pub end_lacks : (x : ℕ) (text : List ℕ) (end : Option End) → x < 45 → IsEnd text end → Lacks x text
end_lacks x text None low is = rw is (word_lacks x (45 ∷ []) [] low refl (All-nil (λ b. b ≢ x)))
end_lacks x text (Some end) low is =
    rw is.spelled
    (colon_lacks x (decimal is.number) (encode_lower end.payload) low (small_lacks x is.number low is.fits)
    (hex_lacks x end.payload low is.payload))

-- the text is empty, or a blank stands first
abbrev pub IsBlankLed : List ℕ → Type 0
IsBlankLed [] = Unit {0}
IsBlankLed (b ∷ text) = b ≡ 32

pub behind_led : (rest : Option (Bor (List ℕ))) → IsBlankLed (behind rest)
behind_led None = tt
behind_led (Some text) = refl

-- a text has one first field
pub one_field :
    (front rest front' rest' : List ℕ) → Lacks 32 front → Lacks 32 front' → IsBlankLed rest → IsBlankLed rest' →
    front ++ rest ≡ front' ++ rest' → (front ≡ front') × (rest ≡ rest')
one_field [] rest [] rest' lacks lacks' led led' same = (refl, same)
one_field [] [] (x ∷ front') rest' lacks lacks' led led' same = absurd cc
one_field [] (b ∷ rest) (x ∷ front') rest' lacks lacks' led led' same =
    let e : b ≡ x = cc in
    absurd (All-head (λ b. b ≢ 32) x front' lacks' (sym e ∙ led))
one_field (x ∷ front) rest [] [] lacks lacks' led led' same = absurd cc
one_field (x ∷ front) rest [] (b ∷ rest') lacks lacks' led led' same =
    let e : x ≡ b = cc in
    absurd (All-head (λ b. b ≢ 32) x front lacks (e ∙ led'))
one_field (x ∷ front) rest (y ∷ front') rest' lacks lacks' led led' same =
    let head : x ≡ y = cc in
    let tail : front ++ rest ≡ front' ++ rest' = cc in
    let more = one_field front rest front' rest' (All-tail (λ b. b ≢ 32) x front lacks) (All-tail (λ b. b ≢ 32) y front' lacks')
    led led' tail in
    (rw (head, more.0) refl, more.1)
