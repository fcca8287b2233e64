-- The uploads that a connection has under way, and how they are left.
use Rattle.std.specs.Prelude.{◌≡◌, List, [], ◌++◌, map, Option, Some}
use Rattle.std.specs.Map.{keys_of}
use mathlib.Core.List.{IsPrefix}
use Rattle.link_io.specs.declared.store.StoreKey.{StoreKey}
use Rattle.link_io.specs.Stored.{Stored}
use Rattle.rpc_handlers.specs.declared.answer.Out.TheVariants.{Leave}
use Rattle.rpc_journal.specs.declared.item.Act.TheVariants.{Keep}
use Rattle.rpc_journal.specs.declared.item.Item.{Item}
use Rattle.rpc_schedule.specs.Kept.{Holds, kept}

-- a store with nothing in it
abbrev pub nothing : Stored
nothing = record { full = []; left = []; work = [] }

-- the uploads that these items begin and don't end, by rising key: those that a store with nothing in it has under way behind them
abbrev pub under_way : List Item → List StoreKey
under_way items = keys_of (kept items nothing).work

-- the item that leaves an upload
abbrev pub leave_of : StoreKey → Item
leave_of key = record { call = Some key.call; act = Keep (Leave key.session) }

-- the items that leave these uploads
abbrev pub leaves : List StoreKey → List Item
leaves keys = map leave_of keys

-- the first ones of these uploads were left, and no others
abbrev pub LeavesSome : List StoreKey → Option Stored → Option Stored → Type 0
LeavesSome keys before after = (front : List StoreKey) × IsPrefix front keys × Holds (leaves front) before after

-- where all that is under way behind some items is left, nothing is under way
abbrev pub LeavesNone : Type 0
LeavesNone = (items : List Item) → (kept (items ++ leaves (under_way items)) nothing).work ≡ []
