-- No spelling of a field is shorter than the one that is written.
use Rattle.std.proofs.Common.{ℕ, ◌+◌, ◌<◌, ◌≤◌, List, ◌++◌, length, get_or, ap, arith, inl, inr, subst}
use Rattle.std.proofs.lemmas.Bool.{cases_lt}
use Rattle.std.proofs.lemmas.List.{get_or_append_left, get_or-append-add, get_or_past, length-append}
use Rattle.byteorder.specs.Numbers.{length-bytes_low_first}
use Rattle.proto_wire.specs.Field.{WireValue, Varint, Fixed64, Bytes, Fixed32, WireField, IsField, IsValue, tag_of}
use Rattle.proto_wire.specs.Spelling.{AreBytes, field_text, value_text}
use Rattle.proto_wire.specs.Varint.{IsVarint, varint_text}
use Rattle.proto_wire.proofs.SpellingLaws.{varint_text_shortest}

byte_at : (bytes : List ℕ) (i : ℕ) → AreBytes bytes → get_or bytes i 0 < 256
byte_at bytes i fit = elim (cases_lt i (length bytes)) [
  | inl w ↦ fit i 0 w
  | inr w ↦ rw (get_or_past bytes i 0 w) (omega arith)
]

front_bytes : (xs ys : List ℕ) → AreBytes (xs ++ ys) → AreBytes xs
front_bytes xs ys fit = λ k d below. rw (← get_or_append_left xs ys d k below) (fit k d (omega (arith, length-append xs ys)))

back_bytes : (xs ys : List ℕ) → AreBytes (xs ++ ys) → AreBytes ys
back_bytes xs ys fit = λ k d below. rw (← get_or-append-add xs ys k d) (fit (length xs + k) d (omega (arith, length-append xs ys)))

varint_shortest : (text : List ℕ) (n : ℕ) → AreBytes text → IsVarint text n → length (varint_text n) ≤ length text
varint_shortest text n fit is = varint_text_shortest text n is (λ i. byte_at text i fit)

value_shortest : (v : WireValue) (text : List ℕ) → AreBytes text → IsValue v text → length (value_text v) ≤ length text
value_shortest (Varint n) text fit is = varint_shortest text n fit is
value_shortest (Fixed64 n) text fit is = omega (arith, is.0, length-bytes_low_first 0 8 n)
value_shortest (Bytes content) text fit is =
    let size = is.0 in
    let fits : AreBytes (size ++ content) = subst AreBytes is.2 fit in
    let short = varint_shortest size (length content) (front_bytes size content fits) is.1 in
    omega (arith, short, ap length is.2, length-append size content, length-append (varint_text (length content)) content)
value_shortest (Fixed32 n) text fit is = omega (arith, is.0, length-bytes_low_first 0 4 n)

pub field_shortest : (f : WireField) (text : List ℕ) → AreBytes text → IsField text f → length (field_text f) ≤ length text
unfolding field_text
field_shortest f text fit is =
    let fits : AreBytes (is.tag ++ is.value) = subst AreBytes is.whole fit in
    let tag = varint_shortest is.tag (tag_of f) (front_bytes is.tag is.value fits) is.tagged in
    let value = value_shortest f.value is.value (back_bytes is.tag is.value fits) is.valued in
    omega (arith, tag, value, ap length is.whole, length-append is.tag is.value, length-append (varint_text (tag_of f)) (value_text f.value))
