-- What runs of `crew` over a calm input write, however many workers there are.
use Rattle.std.specs.Prelude.{◌≡◌, ℕ, ◌^◌, ◌<◌, List, Some}
use Rattle.std.specs.Io.KnownBytes.{Appends}
use Rattle.link_io.specs.declared.why.Why.TheVariants.{Settled}
use Rattle.link_io.specs.Stored.{Stored, shelf_of}
use Rattle.rpc_ids.specs.declared.method.Role.TheVariants.{Server}
use Rattle.rpc_frames.specs.Heard.{counts_of, heard_packets}
use Rattle.rpc_journal.specs.declared.entry.Entry.{Entry}
use Rattle.rpc_journal.specs.declared.setting.Setting.{Setting}
use Rattle.rpc_schedule.specs.OneThread.{IsOneThreadHistory}
use Rattle.demo_services.specs.DemoRule.{demo_rule}
use Rattle.load_stream.specs.Load.{load_stream}
use Rattle.run_laws.specs.calm.Calm.{AreCalm}
use Rattle.pw_run.specs.declared.outcome.Outcome.TheVariants.{Done}
use Rattle.pw_run.specs.Crew.{DidCrew}
use Rattle.pw_run.specs.Demo.{demo_setting}
use Rattle.pw_run.specs.Devices.{Devices}
use Rattle.run_laws.specs.crews.CalmSessions.{report_of}

-- what is fixed with a server of the demo service over this store
abbrev pub setting_over : Stored → Setting
setting_over st = demo_setting (shelf_of st)

-- the packets that such a server hears in this input are calm
abbrev pub IsCalmInput : Stored → List ℕ → Type 0
IsCalmInput st input = AreCalm demo_rule (setting_over st) (heard_packets Server input)

-- what is reported, call by call, of this history of it
abbrev pub report_over : Stored → List ℕ → List Entry → List ℕ
report_over st input one = report_of (setting_over st) one (counts_of Server input) Settled

-- A run over a calm input that ended well wrote the report of the history of one thread.
abbrev pub CrewsWriteAlike : Type 0
CrewsWriteAlike =
    (workers : ℕ) (before after : Devices) (input : List ℕ) (st : Stored) (one : List Entry) → DidCrew workers before after Done
    → before.left ≡ Some input → before.held ≡ Some st → IsCalmInput st input
    → IsOneThreadHistory demo_rule (setting_over st) (heard_packets Server input) one
    → Appends before.written after.written (report_over st input one)

-- Two such runs from the same devices wrote the same, whatever the workers of each.
abbrev pub NoCrewSizeMatters : Type 0
NoCrewSizeMatters =
    (workers others : ℕ) (before after other_after : Devices) (input written : List ℕ) (st : Stored) → DidCrew workers before after Done
    → DidCrew others before other_after Done → before.left ≡ Some input → before.held ≡ Some st → before.written ≡ Some written
    → IsCalmInput st input → after.written ≡ other_after.written

-- So it is over the stream of each load.
abbrev pub LoadsAreWrittenAlike : Type 0
LoadsAreWrittenAlike =
    (workers others calls seed : ℕ) (before after other_after : Devices) (written : List ℕ) (st : Stored) → calls < 2 ^ 32
    → DidCrew workers before after Done → DidCrew others before other_after Done → before.left ≡ Some (load_stream calls seed) → before.held ≡ Some st
    → before.written ≡ Some written → after.written ≡ other_after.written
