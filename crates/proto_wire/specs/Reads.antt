-- What the bytes of a message say that declares its fields, or where they are at fault.
use Rattle.std.specs.Prelude.{◌≡◌, ℕ, List, Option, Some, None, Result, Ok, Err}
use Rattle.proto_wire.specs.declared.fields.Malformed.{Malformed}
use Rattle.proto_wire.specs.Field.{WireField}
use Rattle.proto_wire.specs.Message.{Message, IsRead, fields_of, wire_fields}
use Rattle.proto_wire.specs.Typed.{FieldType, fault_of}

-- The bytes are read as fields, all as they are declared, and this is what the fields say.
pub record Reads {X : Type 0} (declared : ℕ → FieldType) (said : List WireField → X) (bytes : List ℕ) (value : X) : Type 0 where
  pub fields : Message
  pub read : IsRead 0 bytes fields
  pub whole : fault_of declared fields ≡ None
  pub says : value ≡ said (wire_fields fields)

-- At this offset, and at none before, a field isn't as it is declared, or none can be read.
pub record IsAtFault (declared : ℕ → FieldType) (bytes : List ℕ) (at : ℕ) : Type 0 where
  pub fields : Message
  pub read : IsRead 0 bytes fields
  pub fault : fault_of declared fields ≡ Some at

-- what is said where there is no fault, or else where the fault is
abbrev pub unless_fault : {X : Type 0} → X → Option ℕ → Result X ℕ
unless_fault value None = Ok value
unless_fault value (Some at) = Err at

-- the same computed
abbrev pub value_of : {X : Type 0} → (ℕ → FieldType) → (List WireField → X) → List ℕ → Result X ℕ
value_of declared said bytes = unless_fault (said (wire_fields (fields_of bytes))) (fault_of declared (fields_of bytes))

-- the answer of a reader, with the view of what it lends
abbrev pub answered : {L X : Type 0} → (L → X) → Result L Malformed → Result X ℕ
answered view (Ok lent) = Ok (view lent)
answered view (Err e) = Err e.at
