-- What contracts see of a server on one thread, and what each of its calls does.
use Rattle.std.specs.Prelude.{◌≡◌, ℕ, ◌<◌, ◌≤◌, length, take, Bool, true, false, ◌&&◌, List, [], ◌∷◌, ◌++◌, ◌⊎◌, Option, Some, None, is_some, is_none, Result, Ok, Err}
use Rattle.rpc_packet.specs.declared.owned.Packet.{Packet}
use Rattle.rpc_handlers.specs.declared.answer.Answer.{Answer}
use Rattle.rpc_handlers.specs.HandlerRule.{HandlerRule}
use Rattle.rpc_journal.specs.declared.answers.StartRefused.{StartRefused}
use Rattle.rpc_journal.specs.declared.answers.StartRefused.TheVariants.{JournalFull, Memory}
use Rattle.rpc_journal.specs.declared.entry.EntryKind.{EntryKind}
use Rattle.rpc_journal.specs.declared.entry.EntryKind.TheVariants.{Arrive, Start, Finish, Flush, EndIn}
use Rattle.rpc_journal.specs.declared.item.Item.{Item}
use Rattle.rpc_journal.specs.Calls.{call_count}
use Rattle.rpc_journal.specs.Choice.{IsFirstReady, NoneReady, SomeReady}
use Rattle.rpc_journal.specs.Effect.{Deed}
use Rattle.rpc_journal.specs.History.{adding}
use Rattle.rpc_journal.specs.Items.{arrivals}
use Rattle.rpc_journal.specs.Kinds.{is_empty}
use Rattle.rpc_journal.specs.Queues.{waiting_of}
use Rattle.rpc_journal.specs.Quiet.{all_below}
use Rattle.rpc_journal.specs.Refusals.{is_full}
use Rattle.rpc_journal.specs.CallTable.{Table, past}
use Rattle.rpc_schedule.specs.Schedule.{IsByRule, NoneWaits, flush_seat, input_seat, next_item, run_seat}

-- its table, the call whose run was begun and hasn't ended, and why it takes no further input
pub record Serving : Type 0 where
  pub table : Table
  pub kept : Option ℕ
  pub refused : Option StartRefused

-- the deeds of its table, the newest first
abbrev pub deeds : Serving → List Deed
deeds s = past s.table

-- one more entry, of this seat
abbrev pub with_entry : Serving → ℕ → EntryKind → Serving
with_entry s seat kind =
    record s { table = record { setting = s.table.setting; entries = adding s.table.entries seat kind } }

-- no event waits for a call
abbrev pub none_waiting : List Deed → Bool
none_waiting ds = all_below (call_count ds) (λ c. is_empty (waiting_of ds c))

-- no run is kept, and no event waits for a call
abbrev pub is_idle : Serving → Bool
is_idle s = is_none s.kept && none_waiting (deeds s)

-- no run was kept, and one of the first ready call began, below 1,000,000 entries; it is kept
pub record Begins (old new : Serving) : Type 0 where
  pub call : ℕ
  pub unkept : old.kept ≡ None
  pub first : IsFirstReady (deeds old) call
  pub room : is_full old.table.entries ≡ false
  pub adds : new ≡ record (with_entry old run_seat (Start call)) { kept = Some call }

-- the run that was kept ended with its answer
pub record Ends (rule : HandlerRule) (old new : Serving) : Type 0 where
  pub call : ℕ
  pub answer : Answer
  pub kept : old.kept ≡ Some call
  pub by_rule : IsByRule rule old.table.setting old.table.entries call answer
  pub adds : new ≡ record (with_entry old run_seat (Finish call answer)) { kept = None }

-- nothing was there to run
pub record HasNoWork (old new : Serving) : Type 0 where
  pub same : new ≡ old
  pub unkept : old.kept ≡ None
  pub none_ready : NoneReady (deeds old)

-- a call is ready, and the journal has no room for its Start
pub record HasNoRoom (old new : Serving) : Type 0 where
  pub same : new ≡ old
  pub unkept : old.kept ≡ None
  pub some_ready : SomeReady (deeds old)
  pub full : is_full old.table.entries ≡ true

-- work: the kept run or else one of the first ready call ends, unless there is nothing to run or no room. For want of
-- memory nothing has changed, or a run began and is kept
abbrev pub Works : HandlerRule → Serving → Result Bool StartRefused → Serving → Type 0
Works rule old (Ok true) new = Ends rule old new ⊎ ((begun : Serving) × Begins old begun × Ends rule begun new)
Works rule old (Ok false) new = HasNoWork old new
Works rule old (Err JournalFull) new = HasNoRoom old new
Works rule old (Err Memory) new = (new ≡ old) ⊎ Begins old new

-- next_out: the first item that wasn't flushed is flushed; None where none waits
abbrev pub Gives : Serving → Option Item → Serving → Type 0
Gives old (Some item) new = (next_item (deeds old) ≡ Some item) × (new ≡ with_entry old flush_seat Flush)
Gives old None new = NoneWaits (deeds old) × (new ≡ old)

-- a packet arrived, below 1,000,000 entries
pub record TakesPacket (old new : Serving) : Type 0 where
  pub packet : Packet
  pub room : is_full old.table.entries ≡ false
  pub adds : new ≡ with_entry old input_seat (Arrive packet)

-- it takes no further input, for this reason
abbrev pub refusing : Serving → StartRefused → Serving
refusing s why = record s { refused = Some why }

-- feed: where no packet was refused before, at most one packet arrived; after a refusal each later feed is refused
abbrev pub Feeds : Serving → Result ℕ StartRefused → Serving → Type 0
Feeds old (Ok taken) new = (old.refused ≡ None) × ((new ≡ old) ⊎ TakesPacket old new)
Feeds old (Err JournalFull) new = (is_full old.table.entries ≡ true) × (new ≡ refusing old JournalFull)
Feeds old (Err Memory) new = new ≡ refusing old Memory

-- end_in: the input has ended
abbrev pub EndsInput : Serving → Serving → Type 0
EndsInput old new = new ≡ with_entry old input_seat EndIn

-- these packets arrived, but for the last one where it was refused
pub record HasHeard (packets : List Packet) (s : Serving) : Type 0 where
  pub all : s.refused ≡ None → packets ≡ arrivals s.table.entries
  pub but_one : is_some s.refused ≡ true → (last : Packet) × (packets ≡ arrivals s.table.entries ++ last ∷ [])

-- So many bytes of a piece were fed, and no packet is heard in them before the last one.
pub record FedBy (heard : List ℕ → List Packet) (stood stands : List ℕ → Type 0) (piece : List ℕ) (count : ℕ) : Type 0 where
  pub within : count ≤ length piece
  pub fed : (bytes : List ℕ) → stood bytes → stands (bytes ++ take count piece)
  pub none_before : (bytes : List ℕ) → stood bytes → (n : ℕ) → n < count → heard (bytes ++ take n piece) ≡ heard bytes

-- these bytes end with a packet: in no shorter beginning of them are as many heard
abbrev pub EndsWithPacket : (List ℕ → List Packet) → List ℕ → Type 0
EndsWithPacket heard bytes = (n : ℕ) → n < length bytes → length (heard (take n bytes)) < length (heard bytes)
