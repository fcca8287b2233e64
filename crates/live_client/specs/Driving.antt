-- What the driver's pass of the table knows, and what the link and the store have got.
use Rattle.std.specs.Prelude.{◌≡◌, ◌⊎◌, ℕ, ◌==◌, ◌&&◌, ◌≤◌, Bool, true, false, if◌then◌else◌, List, [], ◌∷◌, ◌++◌, length, slice_get, Option, Some, None, is_some}
use Rattle.std.specs.List.{list_any}
use Rattle.std.specs.Option.{option_to_list}
use Rattle.std.specs.Io.KnownBytes.{Appends}
use mathlib.Core.List.{IsPrefix}
use Rattle.entry_lists.specs.Entries.{made_by}
use Rattle.link_io.specs.Stored.{Stored}
use Rattle.rpc_ids.specs.declared.method.Role.TheVariants.{Client}
use Rattle.rpc_ids.specs.declared.status.Status.{Status}
use Rattle.rpc_handlers.specs.declared.event.Event.{Event}
use Rattle.rpc_journal.specs.declared.entry.Entry.{Entry}
use Rattle.rpc_journal.specs.declared.entry.EntryKind.{EntryKind}
use Rattle.rpc_journal.specs.declared.entry.EntryKind.TheVariants.{Say, Done, Start, Finish, Cancel, Flush, Halt}
use Rattle.rpc_journal.specs.declared.item.Item.{Item}
use Rattle.rpc_journal.specs.declared.setting.Setting.{Setting}
use Rattle.rpc_journal.specs.Calls.{call_at, is_finish_of}
use Rattle.rpc_journal.specs.Changes.{NothingToFlush}
use Rattle.rpc_journal.specs.Conditions.{IsCall}
use Rattle.rpc_journal.specs.Effect.{Deed}
use Rattle.rpc_journal.specs.History.{entry_by, history}
use Rattle.rpc_journal.specs.Items.{flush_count, flushes, items_sent}
use Rattle.rpc_journal.specs.Lawful.{has_stream}
use Rattle.rpc_journal.specs.Laws.{seat_of}
use Rattle.rpc_journal.specs.Queues.{taken_event}
use Rattle.rpc_journal.specs.Quiet.{is_quiet, is_settled}
use Rattle.rpc_schedule.specs.Kept as store
use Rattle.rpc_shared.specs.Waits.{IsQuietWith}
use Rattle.link_io.specs.Causes.{Rose}
use Rattle.link_io.specs.declared.why.Why.{Why}
use Rattle.link_io.specs.declared.why.Why.TheVariants.{Sink, Store, JournalLimit, Memory as short}
use Rattle.rpc_journal.specs.declared.answers.SayRefused.{SayRefused}
use Rattle.rpc_journal.specs.declared.answers.SayRefused.TheVariants.{JournalFull, Memory}
use Rattle.rpc_shared.specs.session.Crew.{Adds, AreOf, Lock, Seat, Stands, is_want}
use Rattle.rpc_shared.specs.session.Ring.{HaltsFor}
use Rattle.rpc_shared.specs.session.Sessions.{is_halted, is_halting, wire}
use Rattle.live_client.specs.declared.asks.utterance.Utterance.{Utterance}
use Rattle.live_client.specs.Histories.{AreSaidOver, cancels, is_completion, utterances_of}
use Rattle.live_client.specs.asks.Tasks.{Given, given_at, mails}
use Rattle.live_client.specs.asks.Telling.{Progress, said_all}
use Rattle.live_client.specs.Silent.{is_silent, silent_rule}

-- what the driver adds behind the opening of the call
abbrev pub is_drivers : Bool → EntryKind → Bool
is_drivers watches (Start c) = true
is_drivers watches (Finish c a) = is_silent a
is_drivers watches Flush = true
is_drivers watches (Say c out) = true
is_drivers watches (Done c) = watches
is_drivers watches (Cancel c) = watches
is_drivers watches (Halt why) = is_halting why
is_drivers watches _ = false

-- what it adds once it has told the sink that nothing more comes
abbrev pub is_closing : EntryKind → Bool
is_closing (Start c) = true
is_closing (Finish c a) = is_silent a
is_closing Flush = true
is_closing (Halt why) = is_halting why
is_closing _ = false

-- the events of this seat's runs of c that have finished, in order
abbrev pub runs_by : ℕ → List Deed → ℕ → List Event
runs_by seat [] c = []
runs_by seat (d ∷ ds) c =
    if (d.entry.seat == seat) && is_finish_of c d.entry.kind then runs_by seat ds c ++ option_to_list (taken_event ds c) else runs_by seat ds c

-- the same, of the driver's in this beginning of the history
abbrev pub runs_in : Lock → ℕ → List Entry → List Event
runs_in r c h = runs_by 1 (history r.base h) c

-- call c, where it is there, is one whose messages stream from this end
abbrev pub StreamsOut : Setting → ℕ → Type 0
StreamsOut set c = (h : List Entry) → IsCall set h c → has_stream set.role (call_at (history set h) c) ≡ true

-- the end of the client's stream was given among these only where there is such a stream
abbrev pub CanEnd : Setting → ℕ → List Given → Type 0
CanEnd set c outs = list_any (λ given. is_completion given.out) outs ≡ true → StreamsOut set c

-- The pass of the driver, which opened call c. It ran these events, was given these outs to say, and flushed these items.
pub record Drives (watches : Bool) (opening : EntryKind) (r : Lock) (c : ℕ) (events : List Event) (outs : List Given) (items : List Item) (p : Seat) : Type 0 where
  pub stands : Stands silent_rule r p
  pub number : p.view.known.number ≡ 1
  pub rest : List Entry
  pub mine : p.view.known.mine ≡ entry_by 1 opening ∷ rest
  pub kinds : AreOf (is_drivers watches) rest
  pub there : IsCall r.base p.view.known.seen c
  pub runs : runs_by 1 (history r.base p.view.known.seen) c ≡ events
  pub said : CanEnd r.base c outs → AreSaidOver r.base (runs_in r c) c p.view.known.seen outs (utterances_of p.view.known.mine)
  pub front : IsPrefix items (items_sent (history r.base p.view.known.seen))
  pub count : length items ≡ flushes p.view.known.mine

-- The status that cancelling the call answered, if it was cancelled: from then on the call is quiet.
abbrev pub HasCut : Lock → ℕ → Option Status → Seat → Type 0
HasCut r c None p = cancels p.view.known.mine ≡ false
HasCut r c (Some status) p = IsQuietWith r.base c status p

-- the call wasn't cancelled up to here, or is quiet before the driver adds more
abbrev pub IsCalmed : Lock → ℕ → List Entry → List Entry → Type 0
IsCalmed r c front back =
    (cancels (made_by seat_of 1 front) ≡ false)
    ⊎ ((more : List Entry) × IsPrefix more back × (made_by seat_of 1 more ≡ []) × (is_quiet (history r.base (front ++ more)) c ≡ true))

-- the items that were sent up to here, and what the driver added behind
pub record IsClosing (r : Lock) (c : ℕ) (sent : List Item) (p : Seat) : Type 0 where
  pub front : List Entry
  pub back : List Entry
  pub seen : p.view.known.seen ≡ front ++ back
  pub begins : IsPrefix (items_sent (history r.base front)) sent
  pub closing : AreOf is_closing (made_by seat_of 1 back)
  pub calmed : IsCalmed r c front back

-- The link got the frames of these items: of all made, or of those that had been sent when it was told that nothing more comes.
abbrev pub IsWritten : Lock → ℕ → Bool → List Item → List Item → Seat → Type 0
IsWritten r c false items first p = first ≡ items
IsWritten r c true items first p = IsPrefix first items × IsClosing r c first p

-- just these items were made: the store got their actions, and the link the frames of the first of them
pub record Made (r : Lock) (c : ℕ) (finished : Bool) (w0 w : Option (List ℕ)) (d0 d : Option Stored) (items : List Item) (p : Seat) : Type 0 where
  pub first : List Item
  pub which : IsWritten r c finished items first p
  pub written : Appends w0 w (wire first)
  pub stored : store.Holds items d0 d

-- The pass of the driver and its errand, which has heard the events that ran; what it gave out to be said was said or refused, but
-- where the driver stopped, for the last of it.
pub record Talks (watches : Bool) (opening : EntryKind) (did : Option Status → List Event → List Given → Option Status → Type 0) (r : Lock) (c : ℕ) (whole over : Bool) (items : List Item) (p : Seat) : Type 0 where
  pub cut : Option Status
  pub events : List Event
  pub outs : List Given
  pub lost : List Given
  pub ended : Option Status
  pub drives : Drives watches opening r c events outs items p
  pub quiet : HasCut r c cut p
  pub heard : did cut events (outs ++ lost) ended
  pub none_lost : whole ≡ true → lost ≡ []
  pub is_over : over ≡ true → is_some ended ≡ true

-- why a driver halted the table: for want, or where the device counted a fault
pub record HasCauses (f0 f g0 g : ℕ) (p : Seat) : Type 0 where
  pub sink : HaltsFor Sink p.view.known.mine → Rose f0 f
  pub store : HaltsFor Store p.view.known.mine → Rose g0 g
  pub later : (f0 ≤ f) × (g0 ≤ g)

-- The driver between two steps, with the link and the store, and their faults.
pub record Works (watches : Bool) (opening : EntryKind) (did : Option Status → List Event → List Given → Option Status → Type 0) (r : Lock) (c : ℕ) (over finished : Bool) (w0 w : Option (List ℕ)) (d0 d : Option Stored) (f0 f g0 g : ℕ) (p : Seat) : Type 0 where
  pub items : List Item
  pub talks : Talks watches opening did r c true over items p
  pub made : Made r c finished w0 w d0 d items p
  pub causes : HasCauses f0 f g0 g p

-- The driver ends. Where an item failed, the table is halted, and the link may have a part of its frame.
pub record HasWorked (watches : Bool) (opening : EntryKind) (did : Progress → Option Status → List Event → List Given → Option Status → Type 0) (r : Lock) (c : ℕ) (w0 w : Option (List ℕ)) (d0 d : Option Stored) (f0 f g0 g : ℕ) (p : Seat) : Type 0 where
  pub items : List Item
  pub next : List Item
  pub first : List Item
  pub part : List ℕ
  pub all : Progress
  pub finished : Bool
  pub talks : Talks watches opening (did all) r c false false (items ++ next) p
  pub which : IsWritten r c finished items first p
  pub one : length next ≤ 1
  pub begun : IsPrefix part (wire next)
  pub written : Appends w0 w (wire first ++ part)
  pub stored : store.Holds items d0 d
  pub causes : HasCauses f0 f g0 g p

-- All that the driver does, from one state of its errand and its devices to another, where it ends well or is halted; and whether
-- the errand still wants its call cancelled.
pub record Drove (watches : Bool) (did now : Progress → ℕ → ℕ → Option Status → List Event → List Given → Option Status → Type 0) (cuts : Bool) (r : Lock) (c : ℕ) (ok : Bool) (last upto : ℕ) (w w' : Option (List ℕ)) (d d' : Option Stored) (f f' g g' : ℕ) (p q : Seat) : Type 0 where
  pub works : ok ≡ true → (opening : EntryKind) (all : Progress) (start : ℕ) (w0 : Option (List ℕ)) (d0 : Option Stored) (f0 g0 : ℕ) → start ≤ last
      → Works watches opening (did all start last) r c false false w0 w d0 d f0 f g0 g p
      → Works watches opening (now said_all start upto) r c true true w0 w' d0 d' f0 f' g0 g' q
  pub worked : ok ≡ false → (opening : EntryKind) (all : Progress) (start : ℕ) (w0 : Option (List ℕ)) (d0 : Option Stored) (f0 g0 : ℕ) → start ≤ last
      → Works watches opening (did all start last) r c false false w0 w d0 d f0 f g0 g p
      → HasWorked watches opening (λ some. now some start upto) r c w0 w' d0 d' f0 f' g0 g' q
  pub uncut : (opening : EntryKind) (all : Progress) (start : ℕ) (w0 : Option (List ℕ)) (d0 : Option Stored) (f0 g0 : ℕ) → start ≤ last
      → Works watches opening (did all start last) r c false false w0 w d0 d f0 f g0 g p → cuts ≡ false

-- The driver has ended: well, with its call and all that it had to say; or at a halt.
pub record DriverEnded (watches : Bool) (opening : EntryKind) (did : Progress → Option Status → List Event → List Given → Option Status → Type 0) (r : Lock) (c : ℕ) (w0 w : Option (List ℕ)) (d0 d : Option Stored) (f0 f g0 g : ℕ) (p : Seat) : Type 0 where
  pub worked : HasWorked watches opening did r c w0 w d0 d f0 f g0 g p
  pub cause :
      (Works watches opening (did said_all) r c true true w0 w d0 d f0 f g0 g p × (is_settled (history r.base p.view.known.seen) ≡ true))
      ⊎ (is_halted r.base p.view.known.seen ≡ true)

-- The driver has nothing to say, and behind this beginning of the history, with no item that waits, it added nothing.
pub record Rests (r : Lock) (p : Seat) : Type 0 where
  pub front : List Entry
  pub back : List Entry
  pub seen : p.view.known.seen ≡ front ++ back
  pub none : made_by seat_of 1 back ≡ []
  pub all_flushed : slice_get (items_sent (history r.base front)) (flush_count (history r.base front)) ≡ None

-- what may be asked of the driver's pass
pub record CanDrive (r : Lock) (c : ℕ) (p : Seat) : Type 0 where
  pub stands : Stands silent_rule r p
  pub number : p.view.known.number ≡ 1
  pub there : IsCall r.base p.view.known.seen c
  pub client : r.base.role ≡ Client

-- what a step of the driver adds: a run, what is said, a cancel, a flush
abbrev pub is_running : EntryKind → Bool
is_running (Start c) = true
is_running (Finish c a) = is_silent a
is_running (Halt why) = is_want why
is_running _ = false

abbrev pub is_saying : EntryKind → Bool
is_saying (Say c out) = true
is_saying (Done c) = true
is_saying (Halt why) = is_want why
is_saying _ = false

abbrev pub is_talking : EntryKind → Bool
is_talking (Start c) = true
is_talking (Finish c a) = is_silent a
is_talking (Say c out) = true
is_talking (Done c) = true
is_talking (Cancel c) = true
is_talking (Halt why) = is_want why
is_talking _ = false

abbrev pub is_cutting : EntryKind → Bool
is_cutting (Cancel c) = true
is_cutting _ = false

abbrev pub is_flushing : EntryKind → Bool
is_flushing Flush = true
is_flushing (Halt why) = is_halting why
is_flushing _ = false

-- what the table wanted, where it refused for want
abbrev pub want_by : SayRefused → Option Why
want_by JournalFull = Some JournalLimit
want_by Memory = Some short
want_by _ = None

-- a step that runs no event to its end and says nothing
pub record Calm (r : Lock) (c : ℕ) (test : EntryKind → Bool) (p q : Seat) : Type 0 where
  pub adds : Adds silent_rule r test p q
  pub drives : (watches : Bool) (opening : EntryKind) (events : List Event) (outs : List Given) (items : List Item) → Drives watches opening r c events outs items p → Drives watches opening r c events outs items q

-- a run of this event ends
pub record EndsRun (r : Lock) (c : ℕ) (event : Event) (p q : Seat) : Type 0 where
  pub adds : Adds silent_rule r is_running p q
  pub drives : (watches : Bool) (opening : EntryKind) (events : List Event) (outs : List Given) (items : List Item) → Drives watches opening r c events outs items p → Drives watches opening r c (events ++ event ∷ []) outs items q

-- this was said or refused, with the mail that had come
pub record Speaks (r : Lock) (c : ℕ) (out : Utterance) (p q : Seat) : Type 0 where
  pub adds : Adds silent_rule r is_saying p q
  pub drives : (watches : Bool) (opening : EntryKind) (events : List Event) (outs : List Given) (items : List Item) → (is_completion out ≡ true → watches ≡ true) → Drives watches opening r c events outs items p → Drives watches opening r c events (outs ++ given_at (mails events) out ∷ []) items q

-- the call is cancelled, and quiet; cancelling it answered this status
pub record Cuts (r : Lock) (c : ℕ) (status : Status) (p q : Seat) : Type 0 where
  pub adds : Adds silent_rule r is_cutting p q
  pub cut : HasCut r c (Some status) q
  pub drives : (opening : EntryKind) (events : List Event) (outs : List Given) (items : List Item) → Drives true opening r c events outs items p → Drives true opening r c events outs items q

-- what a flush made: the link got the frames, unless it is finished, and the store the actions
pub record Flushed (finished : Bool) (w w' : Option (List ℕ)) (d d' : Option Stored) (made : List Item) : Type 0 where
  pub written : Appends w w' (if finished then [] else wire made)
  pub stored : store.Holds made d d'

-- the items that the driver flushed are these more
abbrev pub FlushesMore : Lock → ℕ → List Item → Seat → Seat → Type 0
FlushesMore r c more p q =
    (watches : Bool) (opening : EntryKind) (events : List Event) (outs : List Given) (items : List Item)
    → Drives watches opening r c events outs items p → Drives watches opening r c events outs (items ++ more) q

-- an item was taken
pub record TakesItem (r : Lock) (c : ℕ) (item : Item) (p q : Seat) : Type 0 where
  pub adds : Adds silent_rule r is_flushing p q
  pub mine : q.view.known.mine ≡ p.view.known.mine ++ entry_by 1 Flush ∷ []
  pub more : FlushesMore r c (item ∷ []) p q

-- no item was there
pub record TakesNone (r : Lock) (c : ℕ) (p q : Seat) : Type 0 where
  pub calm : Calm r c is_flushing p q
  pub mine : q.view.known.mine ≡ p.view.known.mine
  pub nothing : NothingToFlush (history r.base q.view.known.seen)

-- an item that failed: nothing of it is stored, and the link may have got a part of its frame
pub record FlushFails (r : Lock) (c : ℕ) (w w' : Option (List ℕ)) (d d' : Option Stored) (p q : Seat) : Type 0 where
  pub next : List Item
  pub part : List ℕ
  pub one : length next ≤ 1
  pub begun : IsPrefix part (wire next)
  pub written : Appends w w' part
  pub stored : d' ≡ d
  pub flushes : FlushesMore r c next p q
