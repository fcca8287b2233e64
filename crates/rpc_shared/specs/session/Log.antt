-- The log of the items that a session made.
use Rattle.std.specs.Prelude.{◌≡◌, ℕ, ◌-◌, ◌≤◌, true, List, ◌++◌, vec_len, vec_capacity}
use Rattle.rpc_journal.specs.declared.item.Item.{Item}
use Rattle.rpc_shared.specs.declared.session.item_log.ItemLog.{ItemLog}

-- these items were added, where the log keeps items
pub record Logs (old new : ItemLog) (items : List Item) : Type 0 where
  pub same : new.keeps ≡ old.keeps
  pub added : old.keeps ≡ true → new.items.items ≡ old.items.items ++ items

-- there are places for so many more
abbrev pub HasPlaces : ItemLog → ℕ → Type 0
HasPlaces log n = log.keeps ≡ true → n ≤ vec_capacity log.items - vec_len log.items
