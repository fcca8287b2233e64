-- What is written of a text, by outcome.
use Rattle.std.proofs.Common.{◌≡◌, ℕ, ◌≤◌, List, [], length, Option, IfSome, refl, subst, inl, inr, arith}
use Rattle.std.specs.Io.KnownBytes.{Consumes}
use Rattle.link_io.specs.Reading.{ConsumesUpTo}
use Rattle.link_io.specs.declared.shelf.Shelf.{Shelf}
use Rattle.link_io.specs.Stored.{Stored, shelf_of}
use Rattle.rpc_frames.specs.declared.counts.Counts.{Counts}
use Rattle.rpc_journal.specs.declared.item.Item.{Item}
use Rattle.rpc_journal.specs.CallTable.{Table}
use Rattle.rpc_schedule.specs.declared.ending.Ending.{Ending}
use Rattle.rpc_schedule.specs.Kept.{Holds}
use Rattle.rpc_schedule.specs.declared.ending.Ending.TheVariants as ended
use Rattle.pw_run.specs.declared.command.Form.{Form}
use Rattle.pw_run.specs.declared.outcome.Outcome.{Outcome}
use Rattle.pw_run.specs.declared.outcome.Outcome.TheVariants.{NoMemory, InputLimit}
use Rattle.pw_run.specs.Load.{DidLoad, ServesLoad, WritesLoad}
use Rattle.pw_run.specs.Replay.{DidReplay, ServesDemo, ServesShelf, WritesRun, no_counts, no_table}
use Rattle.pw_run.specs.declared.text_command.TextCommand.{TextCommand}
use Rattle.pw_run.specs.declared.told.Found.{Found}
use Rattle.pw_run.specs.Tells.{DidText, Tells, WritesTold}
use Rattle.pw_run.specs.Texts.{WritesLimit, limit_line, limit_of, outcome_on}
use Rattle.pw_run.specs.Writes.{Writes}

pub limit_told : (limit : ℕ) (old new : Option (List ℕ)) (outcome : Outcome)
    → Writes old new (limit_line limit) InputLimit outcome → WritesLimit limit old new outcome
limit_told limit old new NoMemory writes = tt
limit_told limit old new _ writes = writes

-- what was written of a text that was read, where what is told of it is so
pub all_told : (command : TextCommand) (text told : List ℕ) (found : Found) (old new : Option (List ℕ)) (outcome : Outcome) → Tells command text told found
    → Writes old new told (outcome_on found) outcome → WritesTold command text old new outcome
all_told command text told found old new NoMemory tells writes = tt
all_told command text told found old new _ tells writes = record { told = told; found = found; tells = tells; writes = writes }

-- what a run did whose text met the limit
pub limit_did : (command : TextCommand) (left_old left_new old new : Option (List ℕ)) (outcome : Outcome) (text : List ℕ) → Consumes left_old left_new text
    → length text ≡ limit_of command → WritesLimit (limit_of command) old new outcome → DidText command left_old left_new old new outcome
limit_did command left_old left_new old new NoMemory text taken many told = tt
limit_did command left_old left_new old new _ text taken many told = inr (inl (record { text = text; taken = taken; many = many; told = told }))

-- what takes at most so many bytes takes at most more
pub up_to_more : (few many : ℕ) (old new : Option (List ℕ)) → few ≤ many → ConsumesUpTo few old new → ConsumesUpTo many old new
up_to_more few many old new more taken = record { bytes = taken.bytes; within = omega (arith, taken.within, more); consumed = taken.consumed }

-- what a run did, where what was written of its text is so
pub shelf_served : (form : Form) (shelf : Shelf) (left_old left_new : Option (List ℕ)) (store_old store_new : Option Stored) (counts : Counts) (table : Table)
    (items : List Item) (ending : Ending) (old new : Option (List ℕ)) (outcome : Outcome) → ServesDemo shelf left_old left_new ending counts table items
    → Holds items store_old store_new → WritesRun form counts table items ending old new outcome
    → ServesShelf form shelf left_old left_new old new store_old store_new outcome
shelf_served form shelf left_old left_new store_old store_new counts table items ending old new NoMemory serves holds writes =
    inr (inl (record { ending = ending; counts = counts; table = table; items = items; serves = serves; holds = holds }))
shelf_served form shelf left_old left_new store_old store_new counts table items ending old new _ serves holds writes =
    record { ending = ending; counts = counts; table = table; items = items; serves = serves; holds = holds; writes = writes }

-- what was done over a shelf that was listed
pub replay_did : (form : Form) (shelf : Shelf) (left_old left_new old new : Option (List ℕ)) (store_old listed store_new : Option Stored) (outcome : Outcome)
    → IfSome store_old (λ st. shelf ≡ shelf_of st) → listed ≡ store_old → ServesShelf form shelf left_old left_new old new listed store_new outcome
    → DidReplay form left_old left_new old new store_old store_new outcome
replay_did form shelf left_old left_new old new store_old listed store_new outcome is same serves =
    at outcome (subst (λ st. ServesShelf form shelf left_old left_new old new st store_new outcome) same serves)
  where
    at : (outcome : Outcome) → ServesShelf form shelf left_old left_new old new store_old store_new outcome
        → DidReplay form left_old left_new old new store_old store_new outcome
    at NoMemory short = inl (record { shelf = shelf; listed = is; short = short })
    at _ stream = inl (record { shelf = shelf; listed = is; stream = stream })

-- what was done where the store couldn't be listed
pub nothing_did : (form : Form) (left old new : Option (List ℕ)) (store_old store_new : Option Stored) (outcome : Outcome) → store_new ≡ store_old
    → WritesRun form no_counts no_table [] ended.StoreFault old new outcome → DidReplay form left left old new store_old store_new outcome
nothing_did form left old new store_old store_new NoMemory same writes = inr (record { unread = refl; same = same })
nothing_did form left old new store_old store_new _ same writes = inr (record { unread = refl; same = same; writes = writes })

-- what a load did, where what was written of its text is so
pub load_served : (calls seed : ℕ) (text : List ℕ) (own : Outcome) (old new : Option (List ℕ)) (outcome : Outcome)
    → (Writes old new text own outcome → ServesLoad calls seed old new outcome) → WritesLoad text own old new outcome
    → DidLoad calls seed old new outcome
load_served calls seed text own old new NoMemory serves writes = tt
load_served calls seed text own old new _ serves writes = serves writes
