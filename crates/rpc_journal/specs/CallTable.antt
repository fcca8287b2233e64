-- What contracts see of a call table: what is fixed with it, and its entries in order.
use Rattle.std.specs.Prelude.{List}
use Rattle.rpc_journal.specs.declared.entry.Entry.{Entry}
use Rattle.rpc_journal.specs.declared.setting.Setting.{Setting}
use Rattle.rpc_journal.specs.Effect.{Deed}
use Rattle.rpc_journal.specs.History.{history}

pub record Table : Type 0 where
  pub setting : Setting
  pub entries : List Entry

-- its deeds, the newest first
abbrev pub past : Table → List Deed
past t = history t.setting t.entries
