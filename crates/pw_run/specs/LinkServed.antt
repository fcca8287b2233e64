-- What was served of a link, by a session of the demo service.
use Rattle.std.specs.Prelude.{◌≡◌, ◌≢◌, ℕ, ◌<◌, ◌≤◌, ◌⊎◌, false, List, [], Option, IfSome}
use Rattle.std.specs.Io.KnownBytes.{IsAtEnd, Keeps}
use Rattle.link_io.specs.declared.shelf.Shelf.{Shelf}
use Rattle.link_io.specs.declared.why.Why.{Why}
use Rattle.link_io.specs.declared.why.Why.TheVariants.{Settled, Source, Store, InputLimit, Memory}
use Rattle.link_io.specs.Stored.{shelf_of}
use Rattle.rpc_frames.specs.declared.counts.Counts.{Counts}
use Rattle.rpc_journal.specs.declared.item.Item.{Item}
use Rattle.rpc_journal.specs.CallTable.{Table}
use Rattle.rpc_journal.specs.History.{history}
use Rattle.rpc_journal.specs.Items.{items_sent, moments}
use Rattle.rpc_schedule.specs.declared.stream.TheConstants.{INPUT_LIMIT}
use Rattle.rpc_shared.specs.session.Sessions.{Begins, Explains, IsSessionHistory, LeavesNoneDue, TicksBetween, is_halting}
use Rattle.demo_services.specs.DemoRule.{demo_rule}
use Rattle.pw_run.specs.declared.outcome.Outcome.{Outcome}
use Rattle.pw_run.specs.declared.outcome.Outcome.TheVariants.{NoMemory}
use Rattle.pw_run.specs.Demo.{demo_setting}
use Rattle.pw_run.specs.Devices.{LinkDevices}
use Rattle.pw_run.specs.Outcome.{outcome_for}
use Rattle.pw_run.specs.Replay.{no_counts, no_table}
use Rattle.pw_run.specs.Writes.{WritesOrFails}

-- Between these moments of the clock no Tick was left out, counted from the one that the session asked for first.
pub record LeavesNoTickDue (start end : ℕ) (ticks : List ℕ) : Type 0 where
  pub began : ℕ
  pub later : start ≤ began
  pub within : began ≤ end
  pub none : LeavesNoneDue began end ticks

-- The demo service was served over a shelf by so many workers, and the session ended for this reason. The table has a legal
-- history of the session. In any case a beginning of what that says was done, and of these items. Where no halt is the reason, the
-- history explains the bytes read, those sent and the store, the items are all that it sent, and no Tick was left out.
pub record ServesShelf (workers : ℕ) (shelf : Shelf) (before after : LinkDevices) (why : Why) (counts : Counts) (table : Table) (items : List Item) : Type 0 where
  pub setting : table.setting ≡ demo_setting shelf
  pub journal : IsSessionHistory demo_rule (demo_setting shelf) workers why table.entries
  pub read : ℕ
  pub done : ℕ
  pub begins : Begins (demo_setting shelf) before.left after.left before.sent after.sent before.held after.held counts read done items table.entries
  pub explains : is_halting why ≡ false →
      Explains (demo_setting shelf) before.left after.left before.sent after.sent before.held after.held counts read done table.entries
  pub all : is_halting why ≡ false → items ≡ items_sent (history (demo_setting shelf) table.entries)
  pub at_end : why ≡ Settled → IsAtEnd after.left
  pub at_limit : why ≡ InputLimit → read ≡ INPUT_LIMIT
  pub below : (why ≡ Settled) ⊎ (why ≡ Source) → read < INPUT_LIMIT
  pub ticks : TicksBetween before.moment after.moment table.entries
  pub due : is_halting why ≡ false → LeavesNoTickDue before.moment after.moment (moments table.entries)

-- The store couldn't be listed: nothing was read, sent or stored, and the history is empty.
pub record FindsNoShelf (before after : LinkDevices) (why : Why) (counts : Counts) (table : Table) (items : List Item) : Type 0 where
  pub same : after ≡ before
  pub reason : why ≡ Store
  pub uncounted : counts ≡ no_counts
  pub empty : table ≡ no_table
  pub none : items ≡ []

-- a link was served over the shelf that the store listed
pub record ServesListed (workers : ℕ) (before after : LinkDevices) (why : Why) (counts : Counts) (table : Table) (items : List Item) : Type 0 where
  pub shelf : Shelf
  pub listed : IfSome before.held (λ st. shelf ≡ shelf_of st)
  pub serves : ServesShelf workers shelf before after why counts table items

abbrev pub ServesLink : ℕ → LinkDevices → LinkDevices → Why → Counts → Table → List Item → Type 0
ServesLink workers before after why counts table items =
    ServesListed workers before after why counts table items ⊎ FindsNoShelf before after why counts table items

-- What was written of a session that ended for this reason, where a run that writes all of it ends so: its text, whole or with an
-- output that failed, or nothing for want of memory, be it that of the session or of the text.
abbrev pub WritesEnded : List ℕ → Why → Outcome → Option (List ℕ) → Option (List ℕ) → ℕ → ℕ → Outcome → Type 0
WritesEnded text why own written_old written_new failed_old failed_new NoMemory = Keeps written_old written_new
WritesEnded text why own written_old written_new failed_old failed_new outcome =
    (why ≢ Memory) × WritesOrFails written_old written_new failed_old failed_new text own outcome

-- the same where the reason is that of the run
abbrev pub WritesServed : List ℕ → Why → Option (List ℕ) → Option (List ℕ) → ℕ → ℕ → Outcome → Type 0
WritesServed text why written_old written_new failed_old failed_new outcome =
    WritesEnded text why (outcome_for why) written_old written_new failed_old failed_new outcome
