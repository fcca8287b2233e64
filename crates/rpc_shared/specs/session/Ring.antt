-- What goes through the ring between the pump and the writer, and what both did.
use Rattle.std.specs.Prelude.{◌≡◌, ◌⊎◌, ℕ, ◌+◌, ◌≤◌, true, List, [], ◌∷◌, ◌++◌, map, length, take, Option}
use Rattle.std.specs.Option.{option_to_list}
use Rattle.std.specs.Io.Iter.{u64_saturate}
use Rattle.std.specs.Io.KnownBytes.{Appends}
use mathlib.Core.List.{IsPrefix}
use Rattle.link_io.specs.declared.why.Why.{Why}
use Rattle.link_io.specs.Stored.{Stored}
use Rattle.rpc_handlers.specs.HandlerRule.{HandlerRule}
use Rattle.rpc_journal.specs.declared.entry.Entry.{Entry}
use Rattle.rpc_journal.specs.declared.entry.EntryKind.TheVariants.{Halt}
use Rattle.rpc_journal.specs.declared.item.Item.{Item}
use Rattle.rpc_journal.specs.History.{history}
use Rattle.rpc_journal.specs.Items.{flushes, items_sent, moments}
use Rattle.rpc_journal.specs.Quiet.{is_settled}
use Rattle.rpc_schedule.specs.Kept as store
use Rattle.rpc_shared.specs.declared.session.parcel.Parcel.{Parcel}
use Rattle.rpc_shared.specs.declared.session.parcel.Parcel.TheVariants.{Put, End}
use Rattle.rpc_shared.specs.session.Crew.{AreOf, Lock, Seat, Stands, is_pumps, is_stop}
use Rattle.rpc_shared.specs.declared.session.item_log.ItemLog.{ItemLog}
use Rattle.rpc_shared.specs.session.Log.{Logs}
use Rattle.rpc_shared.specs.session.Sessions.{AreSpaced, is_halted, last_from, wire}

abbrev pub parcels : List Item → List Parcel
parcels items = map Put items

-- all of them, and no more
abbrev pub closed : List Item → List Parcel
closed items = parcels items ++ End ∷ []

-- The pass of the pump, which has flushed these items: they are a beginning of the journal's.
pub record Takes (rule : HandlerRule) (r : Lock) (items : List Item) (p : Seat) : Type 0 where
  pub stands : Stands rule r p
  pub number : p.view.known.number ≡ 1
  pub kinds : AreOf is_pumps p.view.known.mine
  pub front : IsPrefix items (items_sent (history r.base p.view.known.seen))
  pub count : length items ≡ flushes p.view.known.mine

-- what it flushed it has put into the ring, but for the parcel in its hand
pub record Pumps (rule : HandlerRule) (r : Lock) (put : List Parcel) (hand : Option Parcel) (p : Seat) : Type 0 where
  pub items : List Item
  pub takes : Takes rule r items p
  pub placed : put ++ option_to_list hand ≡ parcels items

-- The pump ends: the table is settled, and the ring has had all items and the end; or the table is halted, and the ring has had a
-- beginning of the items flushed.
pub record PumpEnded (rule : HandlerRule) (r : Lock) (put : List Parcel) (p : Seat) : Type 0 where
  pub items : List Item
  pub takes : Takes rule r items p
  pub cause :
      ((put ≡ closed items) × (is_settled (history r.base p.view.known.seen) ≡ true))
      ⊎ ((hand : List Parcel) × (put ++ hand ≡ parcels items) × (is_halted r.base p.view.known.seen ≡ true))

-- the pump's Ticks are spaced from this moment on, and its last one is known
pub record Ticked (start : ℕ) (mine : List Entry) (ticked last : ℕ) : Type 0 where
  pub spaced : AreSpaced start (moments mine)
  pub last_is : last_from start (moments mine) ≡ ticked
  pub past : ticked ≤ last

-- just these items were made: the link got their frames, the store their actions, and the log the items
pub record Made (w0 w : Option (List ℕ)) (d0 d : Option Stored) (l0 l : ItemLog) (items : List Item) : Type 0 where
  pub written : Appends w0 w (wire items)
  pub stored : store.Holds items d0 d
  pub logged : Logs l0 l items

-- the writer between two items: it made all that it received
pub record Writes (rule : HandlerRule) (r : Lock) (w0 w : Option (List ℕ)) (d0 d : Option Stored) (l0 l : ItemLog) (got : List Parcel) (done : ℕ) (p : Seat) : Type 0 where
  pub stands : Stands rule r p
  pub none : p.view.known.mine ≡ []
  pub items : List Item
  pub received : got ≡ parcels items
  pub made : Made w0 w d0 d l0 l items
  pub counted : done ≡ u64_saturate (length items)

-- a part of the frame of the next item, and not all of it; of an item that is no packet nothing
pub record IsUnfinished (part : List ℕ) (rest : List Item) : Type 0 where
  pub unwritten : List ℕ
  pub begins : part ++ unwritten ≡ wire (take 1 rest)
  pub unmade : unwritten ≡ [] → part ≡ []

-- Of items in this order those in front were made, and counted from a number on. The link got their frames, and behind them at most
-- a part of the frame of the next one.
pub record MakesSome (w0 w : Option (List ℕ)) (d0 d : Option Stored) (l0 l : ItemLog) (all : List Item) (before done : ℕ) : Type 0 where
  pub items : List Item
  pub rest : List Item
  pub part : List ℕ
  pub parts : all ≡ items ++ rest
  pub begun : IsUnfinished part rest
  pub written : Appends w0 w (wire items ++ part)
  pub stored : store.Holds items d0 d
  pub logged : Logs l0 l items
  pub counted : done ≡ u64_saturate (before + length items)

-- The writer ends: at the end in the ring, with all items made that it received; or the table is halted, with some of them made.
pub record WriterEnded (rule : HandlerRule) (r : Lock) (w0 w : Option (List ℕ)) (d0 d : Option Stored) (l0 l : ItemLog) (got : List Parcel) (done : ℕ) (p : Seat) : Type 0 where
  pub stands : Stands rule r p
  pub kinds : AreOf is_stop p.view.known.mine
  pub came : List Item
  pub received : (got ≡ parcels came) ⊎ (got ≡ closed came)
  pub makes : MakesSome w0 w d0 d l0 l came 0 done
  pub cause : ((got ≡ closed came) × (makes.rest ≡ [])) ⊎ (is_halted r.base p.view.known.seen ≡ true)

-- there is a Halt for this reason among these entries
abbrev pub HaltsFor : Why → List Entry → Type 0
HaltsFor why [] = ⊥
HaltsFor why (e ∷ es) = (e.kind ≡ Halt why) ⊎ HaltsFor why es
