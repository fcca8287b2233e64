-- What the computed answer of a reader says of the bytes.
use Rattle.std.proofs.Common.{◌≡◌, ℕ, List, Option, Some, None, Result, Ok, Err, IfOk, IfErr, refl}
use Rattle.proto_wire.specs.declared.fields.Malformed.{Malformed}
use Rattle.proto_wire.specs.Field.{WireField}
use Rattle.proto_wire.specs.Message.{wire_fields, fields_of}
use Rattle.proto_wire.specs.Reads.{Reads, IsAtFault, answered, unless_fault, value_of}
use Rattle.proto_wire.specs.Typed.{FieldType, fault_of}
use Rattle.proto_wire.proofs.UnreadLaws.{IsRead-fields_from, IsRead_same}

unless_ok : {X : Type 0} (value other : X) (fault : Option ℕ) → Ok other ≡ unless_fault value fault → (fault ≡ None) × (other ≡ value)
unless_ok value other None e = (refl, cc)
unless_ok value other (Some at) e = absurd cc

unless_err : {X : Type 0} (value : X) (at : ℕ) (fault : Option ℕ) → Err at ≡ unless_fault value fault → fault ≡ Some at
unless_err value at None e = absurd cc
unless_err value at (Some told) e = cc

-- an answer that was computed is what the bytes say
pub value_read :
    {L X : Type 0} (view : L → X) (declared : ℕ → FieldType) (said : List WireField → X) (bytes : List ℕ) (answer : Result L Malformed) →
    answered view answer ≡ value_of declared said bytes → IfOk answer (λ lent. Reads declared said bytes (view lent))
value_read view declared said bytes (Ok lent) e =
    let found = unless_ok (said (wire_fields (fields_of bytes))) (view lent) (fault_of declared (fields_of bytes)) e in
    record { fields = fields_of bytes; read = IsRead-fields_from 0 bytes; whole = found.0; says = found.1 }
value_read view declared said bytes (Err f) e = tt

-- a fault that was computed is the first one
pub fault_read :
    {L X : Type 0} (view : L → X) (declared : ℕ → FieldType) (said : List WireField → X) (bytes : List ℕ) (answer : Result L Malformed) →
    answered view answer ≡ value_of declared said bytes → IfErr answer (λ f. IsAtFault declared bytes f.at)
fault_read view declared said bytes (Ok lent) e = tt
fault_read view declared said bytes (Err f) e =
    record {
      fields = fields_of bytes;
      read = IsRead-fields_from 0 bytes;
      fault = unless_err (said (wire_fields (fields_of bytes))) f.at (fault_of declared (fields_of bytes)) e;
    }

-- the bytes say nothing else
pub only_value :
    {X : Type 0} (declared : ℕ → FieldType) (said : List WireField → X) (bytes : List ℕ) (value : X) →
    Reads declared said bytes value → value_of declared said bytes ≡ Ok value
only_value declared said bytes value is =
    let same = IsRead_same is.read in
    rw (← same, is.whole, ← is.says) refl
