-- What each step of a reading gives.
use Rattle.std.specs.Prelude.{◌≡◌, ◌≢◌, ℕ, ◌+◌, true, false, ◌⊎◌, List, [], ◌++◌, length, Option, Some, None, Result, Ok, Err}
use Rattle.proto_wire.specs.declared.field.Field.{Field}
use Rattle.proto_wire.specs.declared.fields.Malformed.{Malformed}
use Rattle.proto_wire.specs.Field.{WireField, IsField}
use Rattle.proto_wire.specs.Message.{HasNoField}
use Rattle.proto_wire.specs.Reading.{Reading}
use Rattle.proto_wire.specs.Views.{wire_field}

-- the field stood at the front of what was left
pub record GivesField (old : Reading) (f : WireField) (new : Reading) : Type 0 where
  pub text : List ℕ
  pub spelled : IsField text f
  pub left : old.left ≡ text ++ new.left
  pub at : new.at ≡ old.at + length text
  pub going : old.failed ≡ false
  pub well : new.failed ≡ false

-- no field stood at the front of what was left, and the reading has ended there
pub record GivesFault (old : Reading) (told : ℕ) (new : Reading) : Type 0 where
  pub at : told ≡ old.at
  pub more : old.left ≢ []
  pub none : HasNoField old.left
  pub going : old.failed ≡ false
  pub ended : new ≡ record old { failed = true }

-- A step gives the field at the front, or the offset where no field can be read, once; at the end nothing more.
abbrev pub Gives : Reading → Option (Result Field Malformed) → Reading → Type 0
Gives old None new = (new ≡ old) × ((old.failed ≡ true) ⊎ (old.left ≡ []))
Gives old (Some (Ok f)) new = GivesField old (wire_field f) new
Gives old (Some (Err e)) new = GivesFault old e.at new
