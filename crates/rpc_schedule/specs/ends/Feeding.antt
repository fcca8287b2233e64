-- What becomes of the packet that was heard.
use Rattle.std.specs.Prelude.{◌≡◌, true, false, Option, Some, None, Result, Ok, Err}
use Rattle.rpc_packet.specs.declared.owned.Packet.{Packet}
use Rattle.rpc_journal.specs.declared.answers.StartRefused.{StartRefused}
use Rattle.rpc_journal.specs.declared.answers.StartRefused.TheVariants.{JournalFull, Memory}
use Rattle.rpc_journal.specs.declared.entry.EntryKind.TheVariants.{Arrive}
use Rattle.rpc_journal.specs.Refusals.{is_full}
use Rattle.rpc_schedule.specs.Schedule.{input_seat}
use Rattle.rpc_schedule.specs.Serving.{Serving, refusing, with_entry}

-- it arrives, below 1,000,000 entries, or is refused, and so is all further input
abbrev pub Arrives : Packet → Serving → Result (Unit {0}) StartRefused → Serving → Type 0
Arrives p old (Ok done) new = (is_full old.table.entries ≡ false) × (new ≡ with_entry old input_seat (Arrive p))
Arrives p old (Err JournalFull) new = (is_full old.table.entries ≡ true) × (new ≡ refusing old JournalFull)
Arrives p old (Err Memory) new = new ≡ refusing old Memory

-- where there was one; nothing changes where there was none
abbrev pub TakesIn : Option Packet → Serving → Result (Unit {0}) StartRefused → Serving → Type 0
TakesIn None old (Ok done) new = new ≡ old
TakesIn None old (Err why) new = ⊥
TakesIn (Some p) old result new = Arrives p old result new
