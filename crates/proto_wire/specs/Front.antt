-- How the field at the front of some bytes is read.
use Rattle.std.specs.Prelude.{ℕ, ◌/◌, ◌%◌, ◌^◌, nat_lt, nat_le, ◌==◌, ◌&&◌, if◌then◌else◌, List, length, take, drop, Option, Some, None, option_map, option_and_then}
use Rattle.byteorder.specs.Endian.{little_number}
use Rattle.proto_wire.specs.Varint.{Number, varint_front}
use Rattle.proto_wire.specs.Field.{WireValue, Varint, Fixed64, Bytes, Fixed32, WireField}

-- a value, and the bytes behind it
pub record ValueFront : Type 0 where
  pub value : WireValue
  pub rest : List ℕ

-- a field, and the bytes behind it
pub record FieldFront : Type 0 where
  pub field : WireField
  pub rest : List ℕ

abbrev pub varint_value : Number → ValueFront
varint_value r = record { value = Varint r.value; rest = r.rest }

-- the first bytes after a length, where there are so many
abbrev pub sized_bytes : Number → Option ValueFront
sized_bytes r =
    if nat_le r.value (length r.rest) then Some (record { value = Bytes (take r.value r.rest); rest = drop r.value r.rest }) else None

abbrev pub fixed64_front : List ℕ → Option ValueFront
fixed64_front bytes =
    if nat_le 8 (length bytes) then Some (record { value = Fixed64 (little_number 8 (take 8 bytes)); rest = drop 8 bytes }) else None

abbrev pub fixed32_front : List ℕ → Option ValueFront
fixed32_front bytes =
    if nat_le 4 (length bytes) then Some (record { value = Fixed32 (little_number 4 (take 4 bytes)); rest = drop 4 bytes }) else None

-- the value of a wire type at the front
unfoldable pub value_front : ℕ → List ℕ → Option ValueFront
value_front wire bytes =
    if wire == 0 then option_map varint_value (varint_front bytes)
    else if wire == 1 then fixed64_front bytes
    else if wire == 2 then option_and_then sized_bytes (varint_front bytes)
    else if wire == 5 then fixed32_front bytes
    else None

-- the value behind a tag, as a field
abbrev pub tagged_value : Number → Option FieldFront
tagged_value tag =
    if nat_le 8 tag.value && nat_lt tag.value (2 ^ 32)
    then option_map (λ r. record { field = record { number = tag.value / 8; value = r.value }; rest = r.rest }) (value_front (tag.value % 8) tag.rest)
    else None

-- the field at the front
unfoldable pub field_front : List ℕ → Option FieldFront
field_front bytes = option_and_then tagged_value (varint_front bytes)
