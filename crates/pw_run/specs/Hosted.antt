-- What `host` did of a link.
use Rattle.std.specs.Prelude.{◌≡◌, ℕ, ◌+◌, ◌≤◌, ◌⊎◌, Bool, true, false, List, Option}
use Rattle.link_io.specs.declared.why.Why.{Why}
use Rattle.link_io.specs.declared.why.Why.TheVariants.{Store, Memory}
use Rattle.link_io.specs.Stored.{Stored}
use Rattle.rpc_frames.specs.declared.counts.Counts.{Counts}
use Rattle.rpc_journal.specs.declared.item.Item.{Item}
use Rattle.rpc_journal.specs.CallTable.{Table}
use Rattle.rpc_schedule.specs.Kept.{Holds}
use Rattle.pw_run.specs.Devices.{LinkDevices}
use Rattle.pw_run.specs.LinkServed.{ServesLink}
use Rattle.pw_run.specs.UnderWay.{LeavesSome, leaves, under_way}

-- A link was served by a session with a clock of its own, which is at 0 when it begins, and goes on no faster than that of the run.
pub record ServesAnew (workers : ℕ) (before after : LinkDevices) (why : Why) (counts : Counts) (table : Table) (items : List Item) : Type 0 where
  pub began : ℕ
  pub later : before.moment ≤ began
  pub passed : ℕ
  pub within : began + passed ≤ after.moment
  pub serves : ServesLink workers (record before { moment = 0 }) (record after { moment = passed }) why counts table items

-- a connection that ended for this reason is the last one
abbrev pub ends_run : Why → Bool
ends_run Store = true
ends_run Memory = true
ends_run _ = false

-- Behind a session that made these items and doesn't end the run, what it has under way was left: all, or a beginning where the store
-- failed or memory was wanting, which is the connection's reason then.
abbrev pub LeavesAll : List Item → Option Stored → Option Stored → Why → Why → Type 0
LeavesAll items held_old held_new why ended =
    ((ended ≡ why) × Holds (leaves (under_way items)) held_old held_new) ⊎
    ((ends_run ended ≡ true) × LeavesSome (under_way items) held_old held_new)

-- what became of uploads behind a session that ended for one reason, and what the connection ended for
abbrev pub LeavesUnderWay : List Item → Option Stored → Option Stored → Why → Why → Type 0
LeavesUnderWay items held_old held_new why ended =
    ((ends_run why ≡ true) × (ended ≡ why) × (held_new ≡ held_old)) ⊎ ((ends_run why ≡ false) × LeavesAll items held_old held_new why ended)

-- A link was served so, and what it had under way was left.
pub record HostsLink (workers : ℕ) (before after : LinkDevices) (ended : Why) (counts : Counts) (table : Table) (items : List Item) : Type 0 where
  pub why : Why
  pub held : Option Stored
  pub serves : ServesAnew workers before (record after { held = held }) why counts table items
  pub left : LeavesUnderWay items held after.held why ended
