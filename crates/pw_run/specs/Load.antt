-- What a run of `load` wrote.
use Rattle.std.specs.Prelude.{ℕ, List, Option}
use Rattle.rpc_journal.specs.declared.entry.Entry.{Entry}
use Rattle.rpc_journal.specs.History.{history}
use Rattle.rpc_journal.specs.Items.{items_sent}
use Rattle.rpc_schedule.specs.OneThread.{IsOneThreadHistory}
use Rattle.demo_services.specs.DemoRule.{demo_rule}
use Rattle.load_stream.specs.Load.{load_packets}
use Rattle.run_report.specs.Load.{load_report}
use Rattle.pw_run.specs.declared.outcome.Outcome.{Outcome}
use Rattle.pw_run.specs.declared.outcome.Outcome.TheVariants.{Done, NoMemory}
use Rattle.pw_run.specs.Demo.{demo_setting, no_shelf}
use Rattle.pw_run.specs.Writes.{Writes}

-- what was written of this text, where there was memory
abbrev pub WritesLoad : List ℕ → Outcome → Option (List ℕ) → Option (List ℕ) → Outcome → Type 0
WritesLoad text own written_old written_new NoMemory = Unit {0}
WritesLoad text own written_old written_new outcome = Writes written_old written_new text own outcome

-- the calls were served, in the one history of their packets, and the totals of what was answered were written
pub record ServesLoad (calls seed : ℕ) (written_old written_new : Option (List ℕ)) (outcome : Outcome) : Type 0 where
  pub entries : List Entry
  pub served : IsOneThreadHistory demo_rule (demo_setting no_shelf) (load_packets calls seed) entries
  pub writes :
      Writes written_old written_new (load_report calls seed (items_sent (history (demo_setting no_shelf) entries))) Done outcome

-- what was written, where there was memory
abbrev pub DidLoad : ℕ → ℕ → Option (List ℕ) → Option (List ℕ) → Outcome → Type 0
DidLoad calls seed written_old written_new NoMemory = Unit {0}
DidLoad calls seed written_old written_new outcome = ServesLoad calls seed written_old written_new outcome
