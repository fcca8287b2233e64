-- What a run of `crew` read, wrote and stored.
use Rattle.std.specs.Prelude.{◌≡◌, ◌≢◌, ℕ, ◌⊎◌, List, None}
use Rattle.link_io.specs.declared.why.Why.{Why}
use Rattle.link_io.specs.declared.why.Why.TheVariants.{Sink}
use Rattle.rpc_frames.specs.declared.counts.Counts.{Counts}
use Rattle.rpc_journal.specs.declared.item.Item.{Item}
use Rattle.rpc_journal.specs.CallTable.{Table}
use Rattle.run_report.specs.CrewReport.{crew_report}
use Rattle.pw_run.specs.declared.outcome.Outcome.{Outcome}
use Rattle.pw_run.specs.declared.outcome.Outcome.TheVariants.{NoMemory}
use Rattle.pw_run.specs.Devices.{Devices, with_link}
use Rattle.pw_run.specs.LinkServed.{ServesLink, WritesServed}

-- The input was served by so many workers over a link that keeps no bytes and never fails, and the report per call was written.
pub record RunsCrew (workers : ℕ) (before after : Devices) (outcome : Outcome) : Type 0 where
  pub why : Why
  pub counts : Counts
  pub table : Table
  pub items : List Item
  pub serves : ServesLink workers (with_link before before.left None) (with_link after after.left None) why counts table items
  pub unfailing : why ≢ Sink
  pub writes : WritesServed (crew_report table counts items why) why before.written after.written before.failed after.failed outcome

-- nothing was read, written or stored, for want of memory
pub record DoesNothing (before after : Devices) (outcome : Outcome) : Type 0 where
  pub same : after ≡ before
  pub memory : outcome ≡ NoMemory

abbrev pub DidCrew : ℕ → Devices → Devices → Outcome → Type 0
DidCrew workers before after outcome = RunsCrew workers before after outcome ⊎ DoesNothing before after outcome
