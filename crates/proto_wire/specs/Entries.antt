-- A message's fields as they are written: each where it has a value.
use Rattle.std.specs.Prelude.{◌≡◌, ℕ, ◌≤◌, true, List, [], ◌∷◌, ◌++◌, Option, Some, None, option_map, map, IfSome}
use Rattle.proto_wire.specs.declared.writer.OptionalField.{OptionalField}
use Rattle.proto_wire.specs.Field.{WireValue, WireField}
use Rattle.proto_wire.specs.Spelling.{field_text, FitsWire}
use Rattle.proto_wire.specs.Typed.{FieldType, may_have}
use Rattle.proto_wire.specs.Views.{wire_value}

-- a field number, and its value where it has one
pub record Entry : Type 0 where
  pub number : ℕ
  pub value : Option WireValue

abbrev pub entry_of : OptionalField → Entry
entry_of f = record { number = f.number; value = option_map wire_value f.value }

abbrev pub entries_of : List OptionalField → List Entry
entries_of fs = map entry_of fs

-- the field that an entry is written as, in front of others
abbrev pub with_entry : ℕ → Option WireValue → List WireField → List WireField
with_entry number None fs = fs
with_entry number (Some v) fs = record { number = number; value = v } ∷ fs

-- the fields of those entries that have a value
abbrev pub present : List Entry → List WireField
present [] = []
present (e ∷ es) = with_entry e.number e.value (present es)

-- their spelling, one after another
abbrev pub fields_text : List WireField → List ℕ
fields_text [] = []
fields_text (f ∷ fs) = field_text f ++ fields_text fs

abbrev pub entry_text : Entry → List ℕ
entry_text e = fields_text (with_entry e.number e.value [])

-- the numbers are those of fields
abbrev pub AllNumbered : List Entry → Type 0
AllNumbered [] = Unit {0}
AllNumbered (e ∷ es) = (1 ≤ e.number) × (e.number ≤ 536870911) × AllNumbered es

-- the entry can be written, and a message that declares its fields so can have it
pub record IsFitting (declared : ℕ → FieldType) (e : Entry) : Type 0 where
  pub low : 1 ≤ e.number
  pub high : e.number ≤ 536870911
  pub fits : IfSome e.value FitsWire
  pub suits : IfSome e.value (λ v. may_have (declared e.number) v ≡ true)

abbrev pub AllFitting : (ℕ → FieldType) → List Entry → Type 0
AllFitting declared [] = Unit {0}
AllFitting declared (e ∷ es) = IsFitting declared e × AllFitting declared es
