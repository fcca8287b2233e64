-- What a message that declares its fields makes of them.
use Rattle.std.specs.Prelude.{ℕ, ◌^◌, ◌==◌, nat_lt, if◌then◌else◌, Bool, true, is_some, List, [], ◌∷◌, Option, Some, None}
use Rattle.proto_wire.specs.Field.{WireValue, Varint, Fixed64, Bytes, Fixed32, WireField}
use Rattle.proto_wire.specs.Message.{Placed, Message}

-- the values that a field of each type may have: `uint64`, `uint32`, `fixed32` and `bytes`
abbrev pub uint64_of : WireValue → Option ℕ
uint64_of (Varint n) = Some n
uint64_of (Fixed64 n) = None
uint64_of (Bytes content) = None
uint64_of (Fixed32 n) = None

abbrev pub uint32_of : WireValue → Option ℕ
uint32_of (Varint n) = if nat_lt n (2 ^ 32) then Some n else None
uint32_of (Fixed64 n) = None
uint32_of (Bytes content) = None
uint32_of (Fixed32 n) = None

abbrev pub fixed32_of : WireValue → Option ℕ
fixed32_of (Varint n) = None
fixed32_of (Fixed64 n) = None
fixed32_of (Bytes content) = None
fixed32_of (Fixed32 n) = Some n

abbrev pub bytes_of : WireValue → Option (List ℕ)
bytes_of (Varint n) = None
bytes_of (Fixed64 n) = None
bytes_of (Bytes content) = Some content
bytes_of (Fixed32 n) = None

-- how a message declares a field; a number that it doesn't declare is skipped
pub data FieldType : Type 0 where
  Undeclared : FieldType
  Uint64 : FieldType
  Uint32 : FieldType
  FourBytes : FieldType
  SomeBytes : FieldType

-- a field of this type may have this value
abbrev pub may_have : FieldType → WireValue → Bool
may_have Undeclared v = true
may_have Uint64 v = is_some (uint64_of v)
may_have Uint32 v = is_some (uint32_of v)
may_have FourBytes v = is_some (fixed32_of v)
may_have SomeBytes v = is_some (bytes_of v)

-- the offset of the first field that its declaration doesn't allow, or else where no field can be read
abbrev pub fault_among : (ℕ → FieldType) → List Placed → Option ℕ → Option ℕ
fault_among declared [] fault = fault
fault_among declared (p ∷ ps) fault =
    if may_have (declared p.field.number) p.field.value then fault_among declared ps fault else Some p.at

abbrev pub fault_of : (ℕ → FieldType) → Message → Option ℕ
fault_of declared m = fault_among declared m.fields m.fault

-- the number that a value stands for, whatever its width
abbrev pub number_in : WireValue → ℕ
number_in (Varint n) = n
number_in (Fixed64 n) = n
number_in (Bytes content) = 0
number_in (Fixed32 n) = n

abbrev pub some_number_in : WireValue → Option ℕ
some_number_in v = Some (number_in v)

abbrev pub content_in : WireValue → List ℕ
content_in (Varint n) = []
content_in (Fixed64 n) = []
content_in (Bytes content) = content
content_in (Fixed32 n) = []

-- what the last field of a number has, or `before` where there is none
abbrev pub last_after : {X : Type 0} → (WireValue → X) → X → ℕ → List WireField → X
last_after read before number [] = before
last_after read before number (f ∷ fs) = last_after read (if f.number == number then read f.value else before) number fs

-- of a repeated number the last field counts; without one the value is 0, absent or empty
abbrev pub last_number : ℕ → List WireField → ℕ
last_number number fs = last_after number_in 0 number fs

abbrev pub last_content : ℕ → List WireField → List ℕ
last_content number fs = last_after content_in [] number fs
