-- What contracts see of a journal.
use Rattle.std.specs.Prelude.{ℕ, List}
use Rattle.rpc_journal.specs.declared.entry.Entry.{Entry}

-- the entries in order, and how many more can be added without memory
pub record Recorded : Type 0 where
  pub entries : List Entry
  pub spare : ℕ
