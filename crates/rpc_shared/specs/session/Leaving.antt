-- How a link is left by who writes to it.
use Rattle.std.specs.Prelude.{◌≡◌, ◌⊎◌, ℕ, Bool, true, false, List}
use mathlib.Core.List.{IsPrefix}
use Rattle.link_io.specs.Causes.{Rose}
use Rattle.rpc_journal.specs.declared.entry.Entry.{Entry}
use Rattle.rpc_journal.specs.declared.item.Item.{Item}
use Rattle.rpc_journal.specs.declared.setting.Setting.{Setting}
use Rattle.rpc_journal.specs.History.{history}
use Rattle.rpc_journal.specs.Quiet.{is_settled}
use Rattle.rpc_shared.specs.declared.session.parcel.Parcel.{Parcel}
use Rattle.rpc_shared.specs.session.Ring.{closed}
use Rattle.rpc_shared.specs.session.Sessions.{is_halted}

-- it was told that nothing more comes, or a call of it failed
abbrev pub HangsUp : Bool → ℕ → ℕ → Type 0
HangsUp finished before now = (finished ≡ true) ⊎ Rose before now

-- the end of all items came through the ring
abbrev pub HasEnd : List Parcel → Type 0
HasEnd got = (items : List Item) × (got ≡ closed items)

-- By the writer: it stays open where the end came through the ring; at a halt, which the writer has seen, it is told.
abbrev pub WriterLeaves : Setting → List Entry → List Parcel → Bool → ℕ → ℕ → Type 0
WriterLeaves set seen got finished before now =
    (HasEnd got × (finished ≡ false)) ⊎ ((is_halted set seen ≡ true) × HangsUp finished before now)

-- at some moment of this history the table was settled
pub record WasSettled (set : Setting) (h : List Entry) : Type 0 where
  pub front : List Entry
  pub begins : IsPrefix front h
  pub settled : is_settled (history set front) ≡ true

-- By a session: it stays open where nothing halted the table. At a halt it was told that nothing more comes, so that the other end
-- meets the end of its input, or a call of it failed; or the table was settled before, so that all had been heard and written.
pub record LeavesLink (set : Setting) (h : List Entry) (finished : Bool) (before now : ℕ) : Type 0 where
  pub stays_open : is_halted set h ≡ false → finished ≡ false
  pub hung_up : is_halted set h ≡ true → HangsUp finished before now ⊎ WasSettled set h
