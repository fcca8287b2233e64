-- How fields are written: each in its shortest spelling.
use Rattle.std.specs.Prelude.{ℕ, ◌<◌, ◌≤◌, ◌^◌, List, ◌++◌, length}
use Rattle.std.specs.List.{All}
use Rattle.byteorder.specs.Endian.{little_bytes}
use Rattle.proto_wire.specs.Varint.{varint_text}
use Rattle.proto_wire.specs.Field.{WireValue, Varint, Fixed64, Bytes, Fixed32, WireField, tag_of}

abbrev pub value_text : WireValue → List ℕ
value_text (Varint n) = varint_text n
value_text (Fixed64 n) = little_bytes 8 n
value_text (Bytes content) = varint_text (length content) ++ content
value_text (Fixed32 n) = little_bytes 4 n

-- a field's shortest spelling
unfoldable pub field_text : WireField → List ℕ
field_text f = varint_text (tag_of f) ++ value_text f.value

-- the value fits its wire type
abbrev pub FitsWire : WireValue → Type 0
FitsWire (Varint n) = n < 2 ^ 64
FitsWire (Fixed64 n) = n < 2 ^ 64
FitsWire (Bytes content) = length content < 2 ^ 64
FitsWire (Fixed32 n) = n < 2 ^ 32

-- a field that has a spelling
pub record IsWritable (f : WireField) : Type 0 where
  pub low : 1 ≤ f.number
  pub high : f.number ≤ 536870911
  pub fits : FitsWire f.value

abbrev pub AreBytes : List ℕ → Type 0
AreBytes bytes = All (λ byte. byte < 256) bytes
