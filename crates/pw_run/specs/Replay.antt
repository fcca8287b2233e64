-- What a run of `replay` read, wrote and stored.
use Rattle.std.specs.Prelude.{◌≡◌, ℕ, List, [], Option, IfSome, ◌⊎◌}
use Rattle.link_io.specs.declared.shelf.Shelf.{Shelf}
use Rattle.link_io.specs.Stored.{Stored, shelf_of}
use Rattle.rpc_ids.specs.declared.method.Role.TheVariants.{Server}
use Rattle.rpc_frames.specs.declared.counts.Counts.{Counts}
use Rattle.rpc_frames.specs.Heard.{counts_of}
use Rattle.rpc_journal.specs.declared.item.Item.{Item}
use Rattle.rpc_journal.specs.Lawful.{IsLegal}
use Rattle.rpc_journal.specs.CallTable.{Table}
use Rattle.rpc_schedule.specs.declared.ending.Ending.{Ending}
use Rattle.rpc_schedule.specs.declared.ending.Ending.TheVariants.{StoreFault}
use Rattle.rpc_schedule.specs.Kept.{Holds}
use Rattle.rpc_schedule.specs.Replays.{BreaksOff, Replayed}
use Rattle.rpc_schedule.specs.OneThread.{AreOfOneThread}
use Rattle.rpc_schedule.specs.ends.EndState.{heard}
use Rattle.demo_services.specs.DemoRule.{demo_rule}
use Rattle.journal_text.specs.Printed.{journal_text}
use Rattle.run_report.specs.Items.{frames_of_items}
use Rattle.run_report.specs.Report.{report}
use Rattle.pw_run.specs.declared.command.Form.{Form}
use Rattle.pw_run.specs.declared.command.Form.TheVariants.{Report, Raw, Journal}
use Rattle.pw_run.specs.declared.outcome.Outcome.{Outcome}
use Rattle.pw_run.specs.declared.outcome.Outcome.TheVariants.{NoMemory}
use Rattle.pw_run.specs.Demo.{demo_setting, no_shelf}
use Rattle.pw_run.specs.Outcome.{outcome_of}
use Rattle.pw_run.specs.Writes.{Writes}

-- the counts are those of the segments of these bytes
abbrev pub AreCountsOf : Counts → List ℕ → Type 0
AreCountsOf counts bytes = counts ≡ counts_of Server bytes

-- The demo service was served over a shelf what the source gave, to this ending: the table has the history of one thread
-- that hears the packets in it, which is legal and has only the entries of one thread, and these items went out.
pub record ServesDemo (shelf : Shelf) (left_old left_new : Option (List ℕ)) (ending : Ending) (counts : Counts) (table : Table) (items : List Item) : Type 0 where
  pub setting : table.setting ≡ demo_setting shelf
  pub served : Replayed demo_rule (heard Server) (AreCountsOf counts) left_old left_new ending table items
  pub legal : IsLegal demo_rule table.setting table.entries
  pub own : AreOfOneThread table.entries

-- what `replay` writes of a run: its report, the frames of the packets that went out, or the journal's text
abbrev pub text_of : Form → Counts → Table → List Item → Ending → List ℕ
text_of Report counts table items ending = report table counts items ending
text_of Raw counts table items ending = frames_of_items items
text_of Journal counts table items ending = journal_text table.entries

-- what was written of a run, where there was memory
abbrev pub WritesRun : Form → Counts → Table → List Item → Ending → Option (List ℕ) → Option (List ℕ) → Outcome → Type 0
WritesRun form counts table items ending written_old written_new NoMemory = Unit {0}
WritesRun form counts table items ending written_old written_new outcome =
    Writes written_old written_new (text_of form counts table items ending) (outcome_of ending) outcome

-- The input was served over a shelf. The store then holds what the items that went out made of it, and the text of the
-- run was written.
pub record ServesStream (form : Form) (shelf : Shelf) (left_old left_new written_old written_new : Option (List ℕ)) (store_old store_new : Option Stored) (outcome : Outcome) : Type 0 where
  pub ending : Ending
  pub counts : Counts
  pub table : Table
  pub items : List Item
  pub serves : ServesDemo shelf left_old left_new ending counts table items
  pub holds : Holds items store_old store_new
  pub writes : Writes written_old written_new (text_of form counts table items ending) (outcome_of ending) outcome

-- so many bytes were fed, of whose segments no count is told
abbrev pub IsUntold : List ℕ → Type 0
IsUntold bytes = Unit {0}

-- Memory was wanting while the input was served over a shelf: the table has a legal history of a beginning of it. The store holds
-- what a beginning of the items that this sent made of it.
pub record BreaksServing (shelf : Shelf) (left_old left_new : Option (List ℕ)) (store_old store_new : Option Stored) : Type 0 where
  pub table : Table
  pub items : List Item
  pub setting : table.setting ≡ demo_setting shelf
  pub legal : IsLegal demo_rule table.setting table.entries
  pub broken : BreaksOff (heard Server) IsUntold left_old left_new table items
  pub holds : Holds items store_old store_new

-- All was served over a shelf, and memory was wanting for the text.
pub record ServesUntold (shelf : Shelf) (left_old left_new : Option (List ℕ)) (store_old store_new : Option Stored) : Type 0 where
  pub ending : Ending
  pub counts : Counts
  pub table : Table
  pub items : List Item
  pub serves : ServesDemo shelf left_old left_new ending counts table items
  pub holds : Holds items store_old store_new

-- nothing was read or stored
pub record ReadsNothing (left_old left_new : Option (List ℕ)) (store_old store_new : Option Stored) : Type 0 where
  pub unread : left_new ≡ left_old
  pub same : store_new ≡ store_old

-- how far a run came that wanted memory
abbrev pub ServesShort : Shelf → Option (List ℕ) → Option (List ℕ) → Option Stored → Option Stored → Type 0
ServesShort shelf left_old left_new store_old store_new =
    BreaksServing shelf left_old left_new store_old store_new
    ⊎ (ServesUntold shelf left_old left_new store_old store_new ⊎ ReadsNothing left_old left_new store_old store_new)

abbrev pub ServesShelf : Form → Shelf → Option (List ℕ) → Option (List ℕ) → Option (List ℕ) → Option (List ℕ) → Option Stored → Option Stored → Outcome → Type 0
ServesShelf form shelf left_old left_new written_old written_new store_old store_new NoMemory =
    ServesShort shelf left_old left_new store_old store_new
ServesShelf form shelf left_old left_new written_old written_new store_old store_new outcome =
    ServesStream form shelf left_old left_new written_old written_new store_old store_new outcome

-- The store was listed, and the input served over its shelf.
pub record RunsReplay (form : Form) (left_old left_new written_old written_new : Option (List ℕ)) (store_old store_new : Option Stored) (outcome : Outcome) : Type 0 where
  pub shelf : Shelf
  pub listed : IfSome store_old (λ st. shelf ≡ shelf_of st)
  pub stream : ServesStream form shelf left_old left_new written_old written_new store_old store_new outcome

-- The store was listed, and memory was wanting while its shelf was served, or behind that.
pub record RunsShort (left_old left_new : Option (List ℕ)) (store_old store_new : Option Stored) : Type 0 where
  pub shelf : Shelf
  pub listed : IfSome store_old (λ st. shelf ≡ shelf_of st)
  pub short : ServesShort shelf left_old left_new store_old store_new

-- no segment was read
abbrev pub no_counts : Counts
no_counts = record { valid = 0; bad = 0; other = 0; dropped = 0 }

-- nothing was done
abbrev pub no_table : Table
no_table = record { setting = demo_setting no_shelf; entries = [] }

-- The store couldn't be listed. Nothing was read or stored, and the text of an empty history was written.
pub record ListsNothing (form : Form) (left_old left_new written_old written_new : Option (List ℕ)) (store_old store_new : Option Stored) (outcome : Outcome) : Type 0 where
  pub unread : left_new ≡ left_old
  pub same : store_new ≡ store_old
  pub writes : Writes written_old written_new (text_of form no_counts no_table [] StoreFault) (outcome_of StoreFault) outcome

-- What was read, written and stored. Nothing was written where memory was wanting.
abbrev pub DidReplay : Form → Option (List ℕ) → Option (List ℕ) → Option (List ℕ) → Option (List ℕ) → Option Stored → Option Stored → Outcome → Type 0
DidReplay form left_old left_new written_old written_new store_old store_new NoMemory =
    RunsShort left_old left_new store_old store_new ⊎ ReadsNothing left_old left_new store_old store_new
DidReplay form left_old left_new written_old written_new store_old store_new outcome =
    RunsReplay form left_old left_new written_old written_new store_old store_new outcome ⊎
    ListsNothing form left_old left_new written_old written_new store_old store_new outcome
