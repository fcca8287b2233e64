-- What a replay took from its source, and what the server made of it.
use Rattle.std.specs.Prelude.{◌≡◌, ◌≢◌, ℕ, ◌<◌, ◌≤◌, true, false, List, [], ◌++◌, length, Option}
use Rattle.std.specs.Io.KnownBytes.{Consumes, IsAtEnd}
use mathlib.Core.List.{IsPrefix}
use Rattle.link_io.specs.declared.reading.Ending as reading
use Rattle.rpc_packet.specs.declared.owned.Packet.{Packet}
use Rattle.rpc_handlers.specs.HandlerRule.{HandlerRule}
use Rattle.rpc_journal.specs.declared.item.Item.{Item}
use Rattle.rpc_journal.specs.Items.{arrivals, input_ended, items_flushed, items_sent}
use Rattle.rpc_journal.specs.Quiet.{is_settled}
use Rattle.rpc_journal.specs.CallTable.{Table, past}
use Rattle.rpc_schedule.specs.declared.ending.Ending.{Ending}
use Rattle.rpc_schedule.specs.declared.ending.Ending.TheVariants.{AtEnd, InputLimit, JournalLimit, StoreFault}
use Rattle.rpc_schedule.specs.declared.stream.TheConstants.{INPUT_LIMIT}
use Rattle.rpc_schedule.specs.OneThread.{HasRoom, IsFullBeginning, IsOneThreadHistory, IsStoreStop}
use Rattle.rpc_schedule.specs.Serving.{EndsWithPacket}

-- the bytes taken from a source, up to where reading ended, were fed to who stands behind them
pub record Reads (stands : List ℕ → Type 0) (left_old left_new : Option (List ℕ)) (ending : reading.Ending) : Type 0 where
  pub bytes : List ℕ
  pub taken : Consumes left_old left_new bytes
  pub within : length bytes ≤ INPUT_LIMIT
  pub below : ending ≢ reading.TheVariants.AtLimit → length bytes < INPUT_LIMIT
  pub at_end : ending ≡ reading.TheVariants.AtEnd → IsAtEnd left_new
  pub at_limit : ending ≡ reading.TheVariants.AtLimit → length bytes ≡ INPUT_LIMIT
  pub fed : stands bytes

-- The input was fed to its end, to a fault or to the limit, and ended there. The table then has the history of one
-- thread that hears the packets in these bytes, and all its items went out. No Arrive and no Start was without room.
pub record Replays (rule : HandlerRule) (heard : List ℕ → List Packet) (stands : List ℕ → Type 0) (left_old left_new : Option (List ℕ)) (ending : Ending) (table : Table) (items : List Item) : Type 0 where
  pub bytes : List ℕ
  pub taken : Consumes left_old left_new bytes
  pub within : length bytes ≤ INPUT_LIMIT
  pub below : ending ≢ InputLimit → length bytes < INPUT_LIMIT
  pub at_end : ending ≡ AtEnd → IsAtEnd left_new
  pub at_limit : ending ≡ InputLimit → length bytes ≡ INPUT_LIMIT
  pub fed : stands bytes
  pub arrived : heard bytes ≡ arrivals table.entries
  pub history : IsOneThreadHistory rule table.setting (heard bytes) table.entries
  pub room : HasRoom table.entries
  pub settled : is_settled (past table) ≡ true
  pub items_are : items ≡ items_sent (past table)

-- Where a server stopped: of the bytes taken those up to the end of a frame were fed, the one with the last packet that
-- was heard; or the input had ended, and all were fed.
pub record StopsBehind (heard : List ℕ → List Packet) (stands : List ℕ → Type 0) (left_old left_new : Option (List ℕ)) (table : Table) : Type 0 where
  pub bytes : List ℕ
  pub unfed : List ℕ
  pub taken : Consumes left_old left_new (bytes ++ unfed)
  pub within : length (bytes ++ unfed) ≤ INPUT_LIMIT
  pub fed : stands bytes
  pub last : input_ended (past table) ≡ false → EndsWithPacket heard bytes
  pub all : input_ended (past table) ≡ true → unfed ≡ []

-- The journal was full. The table has the shortest beginning of 1,000,000 entries or more, that an Arrive or a Start
-- follows, of the history of the packets in the bytes that were fed. The items flushed in it went out.
pub record FillsJournal (rule : HandlerRule) (heard : List ℕ → List Packet) (stands : List ℕ → Type 0) (left_old left_new : Option (List ℕ)) (table : Table) (items : List Item) : Type 0 where
  pub read : StopsBehind heard stands left_old left_new table
  pub beginning : IsFullBeginning rule table.setting (heard read.bytes) table.entries
  pub items_are : items ≡ items_flushed (past table)

-- The store failed. The table has the beginning, of the history of the packets in the bytes that were fed, that ends with
-- the Flush of the action at which it failed. The items flushed before that one went out.
pub record FailsStore (rule : HandlerRule) (heard : List ℕ → List Packet) (stands : List ℕ → Type 0) (left_old left_new : Option (List ℕ)) (table : Table) (items : List Item) : Type 0 where
  pub read : StopsBehind heard stands left_old left_new table
  pub stop : IsStoreStop rule table.setting (heard read.bytes) table.entries items

-- Memory was wanting. Of the bytes taken a beginning was fed; what arrived is a beginning of the packets in those. The items that
-- went out are a beginning of all that the table has sent.
pub record BreaksOff (heard : List ℕ → List Packet) (stands : List ℕ → Type 0) (left_old left_new : Option (List ℕ)) (table : Table) (items : List Item) : Type 0 where
  pub bytes : List ℕ
  pub unfed : List ℕ
  pub taken : Consumes left_old left_new (bytes ++ unfed)
  pub within : length (bytes ++ unfed) ≤ INPUT_LIMIT
  pub fed : stands bytes
  pub arrived : IsPrefix (arrivals table.entries) (heard bytes)
  pub sent : IsPrefix items (items_sent (past table))

-- what a replay with this ending did
abbrev pub Replayed : HandlerRule → (List ℕ → List Packet) → (List ℕ → Type 0) → Option (List ℕ) → Option (List ℕ) → Ending → Table → List Item → Type 0
Replayed rule heard stands left_old left_new JournalLimit table items = FillsJournal rule heard stands left_old left_new table items
Replayed rule heard stands left_old left_new StoreFault table items = FailsStore rule heard stands left_old left_new table items
Replayed rule heard stands left_old left_new ending table items = Replays rule heard stands left_old left_new ending table items
