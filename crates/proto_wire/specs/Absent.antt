-- Values that a writer leaves out.
use Rattle.std.specs.Prelude.{ℕ, ◌==◌, if◌then◌else◌, List, length, Option, Some, None}
use Rattle.proto_wire.specs.Field.{WireValue, Varint, Bytes, Fixed32}

-- a number that is left out where it is 0, and bytes that are left out where there are none
abbrev pub nonzero_varint : ℕ → Option WireValue
nonzero_varint n = if n == 0 then None else Some (Varint n)

abbrev pub nonzero_fixed32 : ℕ → Option WireValue
nonzero_fixed32 n = if n == 0 then None else Some (Fixed32 n)

abbrev pub nonempty_bytes : List ℕ → Option WireValue
nonempty_bytes content = if length content == 0 then None else Some (Bytes content)
