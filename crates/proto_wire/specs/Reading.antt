-- A reading of fields that is under way.
use Rattle.std.specs.Prelude.{ℕ, Bool, if◌then◌else◌, List}
use Rattle.proto_wire.specs.Message.{Message, no_fields, fields_from}

-- what is left to read, the offset of its first byte, and whether no field could be read there
pub record Reading : Type 0 where
  pub left : List ℕ
  pub at : ℕ
  pub failed : Bool

-- what the reading will still give
unfoldable pub unread : Reading → Message
unread r = if r.failed then no_fields else fields_from r.at r.left
