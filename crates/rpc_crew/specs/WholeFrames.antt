-- What a link got that never failed.
use Rattle.std.specs.Prelude.{◌≡◌, ◌⊎◌, ℕ, ◌≤◌, List, ◌++◌, length, Option}
use Rattle.std.specs.Io.Iter.{u64_saturate}
use Rattle.std.specs.Io.KnownBytes.{Appends}
use mathlib.Core.List.{IsPrefix}
use Rattle.rpc_journal.specs.declared.entry.Entry.{Entry}
use Rattle.rpc_journal.specs.declared.item.Item.{Item}
use Rattle.rpc_journal.specs.declared.setting.Setting.{Setting}
use Rattle.rpc_journal.specs.History.{history}
use Rattle.rpc_journal.specs.Items.{items_sent}
use Rattle.rpc_shared.specs.declared.session.parcel.Parcel.{Parcel}
use Rattle.rpc_shared.specs.session.Ring.{closed, parcels}
use Rattle.rpc_shared.specs.session.Sessions.{wire}

-- Of the items in these parcels all but at most the last one were made, and the link got their frames, each whole.
pub record WritesWholeFrames (written_old written_new : Option (List ℕ)) (got : List Parcel) (done : ℕ) : Type 0 where
  pub items : List Item
  pub rest : List Item
  pub received : (got ≡ parcels (items ++ rest)) ⊎ (got ≡ closed (items ++ rest))
  pub few : length rest ≤ 1
  pub written : Appends written_old written_new (wire items)
  pub counted : done ≡ u64_saturate (length items)

-- The link got the frames of the first items of the journal, each whole, and of no other: as many items as were made.
pub record SendsWholeFrames (set : Setting) (written_old written_new : Option (List ℕ)) (done : ℕ) (h : List Entry) : Type 0 where
  pub items : List Item
  pub sent : IsPrefix items (items_sent (history set h))
  pub written : Appends written_old written_new (wire items)
  pub counted : done ≡ length items
