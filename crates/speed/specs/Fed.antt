-- The table that is measured.
use Rattle.std.specs.Prelude.{◌≡◌, []}
use Rattle.demo_services.specs.Transfer.{demo_seed}
use Rattle.rpc_handlers.specs.declared.event.Memo.{Memo}
use Rattle.rpc_ids.specs.declared.method.Role.TheVariants.{Server}
use Rattle.rpc_journal.specs.Conditions.{IsInputOpen}
use Rattle.rpc_journal.specs.CallTable.{Table}

-- the seed of a maker with an empty shelf
abbrev pub bare_seed : Memo
bare_seed = demo_seed (record { full = []; left = [] }) 4 256

-- a server's table with that seed, whose input hasn't ended
pub record IsFed (t : Table) : Type 0 where
  pub role : t.setting.role ≡ Server
  pub seeded : bare_seed ≡ t.setting.seed
  pub input : IsInputOpen t.setting t.entries 0
