-- The fields of a Protocol Buffers message, and how bytes spell them.
use Rattle.std.specs.Prelude.{◌≡◌, ℕ, ◌+◌, ◌*◌, ◌^◌, ◌<◌, ◌≤◌, List, ◌++◌, length}
use Rattle.byteorder.specs.Endian.{little_number}
use Rattle.proto_wire.specs.Varint.{IsVarint}

-- a value as the wire carries it
pub data WireValue : Type 0 where
  Varint : (n : ℕ) → WireValue
  Fixed64 : (n : ℕ) → WireValue
  Bytes : (content : List ℕ) → WireValue
  Fixed32 : (n : ℕ) → WireValue

-- the wire type of a value; the types 3, 4, 6 and 7 have none
abbrev pub wire_type : WireValue → ℕ
wire_type (Varint n) = 0
wire_type (Fixed64 n) = 1
wire_type (Bytes content) = 2
wire_type (Fixed32 n) = 5

-- a field number and its value
pub record WireField : Type 0 where
  pub number : ℕ
  pub value : WireValue

-- the text spells the value: a varint, eight or four bytes with the lowest first, or so many bytes behind their length
abbrev pub IsValue : WireValue → List ℕ → Type 0
IsValue (Varint n) text = IsVarint text n
IsValue (Fixed64 n) text = (length text ≡ 8) × (n ≡ little_number 8 text)
IsValue (Bytes content) text = (size : List ℕ) × IsVarint size (length content) × (text ≡ size ++ content)
IsValue (Fixed32 n) text = (length text ≡ 4) × (n ≡ little_number 4 text)

-- the number in the tag of a field
abbrev pub tag_of : WireField → ℕ
tag_of f = f.number * 8 + wire_type f.value

-- the text spells the field: its tag, which is below 2^32 and has a number of at least 1, and then its value
pub record IsField (text : List ℕ) (f : WireField) : Type 0 where
  pub tag : List ℕ
  pub value : List ℕ
  pub whole : text ≡ tag ++ value
  pub tagged : IsVarint tag (tag_of f)
  pub low : 1 ≤ f.number
  pub high : tag_of f < 2 ^ 32
  pub valued : IsValue f.value value
