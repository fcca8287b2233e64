-- A server before its first input.
use Rattle.std.specs.Prelude.{◌≡◌, [], None}
use Rattle.rpc_schedule.specs.Serving.{Serving}

-- its journal is empty, it keeps no run, and it refused nothing
pub record IsFresh (s : Serving) : Type 0 where
  pub no_entry : s.table.entries ≡ []
  pub unkept : s.kept ≡ None
  pub accepts : s.refused ≡ None
