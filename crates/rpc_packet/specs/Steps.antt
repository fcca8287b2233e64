-- The private steps of a reader, field by field. No public contract cites them.
use Rattle.std.specs.Prelude.{ℕ, List, [], ◌∷◌, Option, Some, None, option_map, Result, Err, ◌==◌, if◌then◌else◌}
use Rattle.proto_wire.specs.Field.{WireField}
use Rattle.proto_wire.specs.Message.{Placed}
use Rattle.proto_wire.specs.Reads.{unless_fault}
use Rattle.proto_wire.specs.Typed.{uint64_of, uint32_of, fixed32_of, bytes_of}
use Rattle.rpc_packet.specs.Message.{Message}

-- what is said with one more field, if that is as it is declared.
unfoldable pub with_field : Message → WireField → Option Message
with_field m f =
    if f.number == 1 then option_map (λ n. record m { ptype = n }) (uint64_of f.value)
    else if f.number == 2 then option_map (λ n. record m { name = record m.name { channel = n } }) (uint32_of f.value)
    else if f.number == 3 then option_map (λ n. record m { name = record m.name { service = n } }) (fixed32_of f.value)
    else if f.number == 4 then option_map (λ n. record m { name = record m.name { method = n } }) (fixed32_of f.value)
    else if f.number == 5 then option_map (λ content. record m { payload = content }) (bytes_of f.value)
    else if f.number == 6 then option_map (λ n. record m { status = n }) (uint32_of f.value)
    else if f.number == 7 then option_map (λ n. record m { name = record m.name { call = n } }) (uint32_of f.value)
    else Some m

-- what is read behind the field at this offset, if that made a message
abbrev pub then_fields : ℕ → (Message → Result Message ℕ) → Option Message → Result Message ℕ
then_fields at more None = Err at
then_fields at more (Some m) = more m

-- what is read of these fields behind a message
unfoldable pub read_on : List Placed → Option ℕ → Message → Result Message ℕ
read_on [] fault m = unless_fault m fault
read_on (p ∷ fields) fault m = then_fields p.at (read_on fields fault) (with_field m p.field)

-- what no field says
abbrev pub nothing_said : Message
nothing_said = record { ptype = 0; name = record { channel = 0; service = 0; method = 0; call = 0 }; payload = []; status = 0 }
