-- The fields of a message in order, each with its offset, up to the first offset where none can be read.
use Rattle.std.specs.Prelude.{◌≡◌, ◌≢◌, ℕ, ◌+◌, ◌-◌, List, [], ◌∷◌, ◌++◌, length, map, Option, Some, None}
use Rattle.std.proofs.Common.{zero, suc}
use Rattle.proto_wire.specs.Field.{WireField, IsField}
use Rattle.proto_wire.specs.Front.{FieldFront, field_front}

-- a field, and the offset of its tag
pub record Placed : Type 0 where
  pub at : ℕ
  pub field : WireField

-- the fields that were read, and the offset where no field could be read, if there is one
pub record Message : Type 0 where
  pub fields : List Placed
  pub fault : Option ℕ

-- the fields without their offsets
abbrev pub wire_fields : Message → List WireField
wire_fields m = map (λ p. p.field) m.fields

abbrev pub no_fields : Message
no_fields = record { fields = []; fault = None }

abbrev pub faulty : ℕ → Message
faulty at = record { fields = []; fault = Some at }

-- the message with a field in front
abbrev pub with_field : ℕ → WireField → Message → Message
with_field at f m = record { fields = record { at = at; field = f } ∷ m.fields; fault = m.fault }

-- no field stands at the front of these bytes
abbrev pub HasNoField : List ℕ → Type 0
HasNoField bytes = (text rest : List ℕ) (f : WireField) → bytes ≡ text ++ rest → IsField text f → ⊥

-- These bytes, of which the first has this offset, are read as this message.
pub data IsRead : ℕ → List ℕ → Message → Type 0 where
  ended : (at : ℕ) → IsRead at [] no_fields
  field : (at : ℕ) (text rest : List ℕ) (f : WireField) (m : Message) → IsField text f → IsRead (at + length text) rest m → IsRead at (text ++ rest) (with_field at f m)
  fault : (at : ℕ) (bytes : List ℕ) → bytes ≢ [] → HasNoField bytes → IsRead at bytes (faulty at)

-- what follows a field that was read at the front of these bytes
abbrev pub then_more : ℕ → List ℕ → (ℕ → List ℕ → Message) → Option FieldFront → Message
then_more at bytes more None = faulty at
then_more at bytes more (Some r) = with_field at r.field (more (at + (length bytes - length r.rest)) r.rest)

-- as `fields_from`, for at most so many fields
unfoldable pub fields_within : ℕ → ℕ → List ℕ → Message
fields_within k at [] = no_fields
fields_within zero at (b ∷ bytes) = faulty at
fields_within (suc k) at (b ∷ bytes) = then_more at (b ∷ bytes) (fields_within k) (field_front (b ∷ bytes))

-- what these bytes are read as, of which the first has this offset
unfoldable pub fields_from : ℕ → List ℕ → Message
fields_from at bytes = fields_within (length bytes) at bytes

-- what a message's bytes are read as
abbrev pub fields_of : List ℕ → Message
fields_of bytes = fields_from 0 bytes
