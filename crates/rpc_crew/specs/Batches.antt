-- Frames that go out together, and what the writer does in a round.
use Rattle.std.specs.Prelude.{◌≡◌, ◌⊎◌, ℕ, ◌+◌, ◌<◌, ◌≤◌, List, [], ◌∷◌, ◌++◌, map, length, Option}
use Rattle.std.specs.Io.Iter.{u64_saturate}
use Rattle.std.specs.Io.KnownBytes.{Appends}
use Rattle.link_io.specs.Stored.{Stored}
use Rattle.rpc_packet.specs.declared.owned.Packet.{Packet}
use Rattle.rpc_journal.specs.declared.item.Act.TheVariants.{Send}
use Rattle.rpc_journal.specs.declared.item.Item.{Item}
use Rattle.rpc_journal.specs.Items.{packet_of}
use Rattle.rpc_schedule.specs.Kept as store
use Rattle.rpc_shared.specs.declared.session.item_log.ItemLog.{ItemLog}
use Rattle.rpc_shared.specs.declared.session.parcel.Parcel.{Parcel}
use Rattle.rpc_shared.specs.declared.session.parcel.Parcel.TheVariants.{Put, End}
use Rattle.rpc_shared.specs.session.Log.{HasPlaces, Logs}
use Rattle.rpc_shared.specs.session.Ring.{Made, MakesSome, closed, parcels}
use Rattle.rpc_shared.specs.session.Sessions.{wire}
use Rattle.rpc_crew.specs.declared.batch.Framed.{Framed}
use Rattle.rpc_crew.specs.declared.gathering.Behind.{Behind}
use Rattle.rpc_crew.specs.declared.gathering.Behind.TheVariants as behind
use Rattle.rpc_crew.specs.declared.writing.Step.{Step}
use Rattle.rpc_crew.specs.declared.writing.Step.TheVariants.{Ended}

-- the frames that wait to be written, one behind the other, and the items that they carry
pub record BatchView : Type 0 where
  pub bytes : List ℕ
  pub framed : List Framed

abbrev pub no_batch : BatchView
no_batch = record { bytes = []; framed = [] }

abbrev pub items_in : List Framed → List Item
items_in framed = map (λ f. f.item) framed

abbrev pub IsPacket : Item → Type 0
IsPacket item = (p : Packet) × (item.act ≡ Send p)

-- it is no packet
abbrev pub IsAction : Item → Type 0
IsAction item = packet_of item.act ≡ []

-- one item more
abbrev pub with_frame : Item → BatchView → BatchView
with_frame item batch = record {
  bytes = batch.bytes ++ wire (item ∷ []);
  framed = batch.framed ++ (record { item = item; end = length batch.bytes + length (wire (item ∷ [])) }) ∷ [];
}

-- packets whose frames stand one behind the other, the first at this place, and where each ends
abbrev pub AreFramed : ℕ → List Framed → Type 0
AreFramed start [] = Unit {0}
AreFramed start (f ∷ fs) = IsPacket f.item × (f.end ≡ start + length (wire (f.item ∷ []))) × AreFramed f.end fs

-- a batch has the frames of its items
pub record IsBatch (batch : BatchView) : Type 0 where
  pub bytes : batch.bytes ≡ wire (items_in batch.framed)
  pub framed : AreFramed 0 batch.framed

-- these frames end within so many bytes
abbrev pub AreWithin : ℕ → List Framed → Type 0
AreWithin written [] = Unit {0}
AreWithin written (f ∷ fs) = (f.end ≤ written) × AreWithin written fs

-- the first of these doesn't
abbrev pub EndsPast : ℕ → List Framed → Type 0
EndsPast written [] = Unit {0}
EndsPast written (f ∷ fs) = written < f.end

-- Of these items those in front, whose frames end within so many bytes, were taken out, logged and counted.
pub record TakesWhole (written : ℕ) (framed rest : List Framed) (l0 l : ItemLog) (before done : ℕ) : Type 0 where
  pub whole : List Framed
  pub parts : framed ≡ whole ++ rest
  pub within : AreWithin written whole
  pub logged : Logs l0 l (items_in whole)
  pub counted : done ≡ u64_saturate (before + length whole)

-- what came of the ring behind the frames that were gathered
abbrev pub CameBehind : Behind → List Parcel → Type 0
CameBehind behind.Full came = came ≡ []
CameBehind behind.Nothing came = came ≡ []
CameBehind behind.Close came = came ≡ End ∷ []
CameBehind (behind.Act item) came = IsAction item × (came ≡ Put item ∷ [])
CameBehind behind.Unfit came = (item : Item) × (came ≡ Put item ∷ [])

-- the places that the log has to have for what came
abbrev pub places_for : Behind → ℕ → ℕ
places_for (behind.Act item) n = n + 1
places_for _ n = n

-- What was gathered of a ring: the frames in the batch, in order, and behind them this came. Nothing was logged yet.
pub record Gathers (before now : List Parcel) (batch : BatchView) (next : Behind) (l0 l : ItemLog) : Type 0 where
  pub batch_is : IsBatch batch
  pub came : List Parcel
  pub behind : CameBehind next came
  pub received : now ≡ before ++ (parcels (items_in batch.framed) ++ came)
  pub logged : Logs l0 l []
  pub places : HasPlaces l (places_for next (length batch.framed))

-- the parcel that ends it all
abbrev pub closing : Step → List Parcel
closing Ended = End ∷ []
closing _ = []

-- what came behind the frames was made: an action on the store, or nothing
pub record MakesBehind (came : List Parcel) (d0 d : Option Stored) (l0 l : ItemLog) (start done : ℕ) (step : Step) : Type 0 where
  pub items : List Item
  pub received : came ≡ parcels items ++ closing step
  pub silent : wire items ≡ []
  pub stored : store.Holds items d0 d
  pub logged : Logs l0 l items
  pub counted : done ≡ u64_saturate (start + length items)

-- one item that came wasn't made
pub record FailsBehind (came : List Parcel) (d0 d : Option Stored) (l0 l : ItemLog) (start done : ℕ) : Type 0 where
  pub item : Item
  pub received : came ≡ parcels (item ∷ [])
  pub kept : d ≡ d0
  pub logged : Logs l0 l []
  pub counted : done ≡ start

-- a round of the writer: items came, and were made; the end may have come behind them
pub record MakesRound (before now : List Parcel) (w0 w : Option (List ℕ)) (d0 d : Option Stored) (l0 l : ItemLog) (start done : ℕ) (step : Step) : Type 0 where
  pub items : List Item
  pub received : now ≡ before ++ (parcels items ++ closing step)
  pub made : Made w0 w d0 d l0 l items
  pub counted : done ≡ u64_saturate (start + length items)

-- a round that failed: of the items that came some were made; the end may have come behind them
pub record FailsRound (before now : List Parcel) (w0 w : Option (List ℕ)) (d0 d : Option Stored) (l0 l : ItemLog) (start done : ℕ) : Type 0 where
  pub came : List Item
  pub received : (now ≡ before ++ parcels came) ⊎ (now ≡ before ++ closed came)
  pub makes : MakesSome w0 w d0 d l0 l came start done

-- A round that failed, but not for the link: of the items that came all but the last one were made, and of that nothing was written.
pub record FailsAtLast (before now : List Parcel) (w0 w : Option (List ℕ)) (start done : ℕ) : Type 0 where
  pub made : List Item
  pub item : Item
  pub received : now ≡ before ++ parcels (made ++ item ∷ [])
  pub written : Appends w0 w (wire made)
  pub counted : done ≡ u64_saturate (start + length made)
