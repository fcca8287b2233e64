-- What a session over a calm stream reports, however many workers it has.
use Rattle.std.specs.Prelude.{◌≡◌, ℕ, false, List, Option, IsTrue}
use Rattle.link_io.specs.declared.why.Why.{Why}
use Rattle.link_io.specs.Stored.{Stored}
use Rattle.rpc_ids.specs.declared.method.Role.TheVariants.{Server}
use Rattle.rpc_frames.specs.declared.counts.Counts.{Counts}
use Rattle.rpc_frames.specs.Heard.{counts_of, heard_packets}
use Rattle.rpc_handlers.specs.HandlerRule.{HandlerRule}
use Rattle.rpc_journal.specs.declared.entry.Entry.{Entry}
use Rattle.rpc_journal.specs.declared.setting.Setting.{Setting}
use Rattle.rpc_journal.specs.CallTable.{Table}
use Rattle.rpc_journal.specs.History.{history}
use Rattle.rpc_journal.specs.Items.{items_sent}
use Rattle.rpc_schedule.specs.OneThread.{IsOneThreadHistory}
use Rattle.rpc_shared.specs.session.Sessions.{Explains, IsSessionHistory, is_halting}
use Rattle.run_report.specs.CrewReport.{crew_report}
use Rattle.run_laws.specs.calm.Calm.{AreCalm}

-- what is fixed with a table, and its entries
abbrev pub table_of : Setting → List Entry → Table
table_of set h = record { setting = set; entries = h }

-- what is reported of a history call by call, where all its items were made
abbrev pub report_of : Setting → List Entry → Counts → Why → List ℕ
report_of set h counts why = crew_report (table_of set h) counts (items_sent (history set h)) why

-- Where a session wasn't halted and the packets in the bytes that it read are calm, the report of its journal is that of the history
-- of one thread that hears these packets.
abbrev pub SessionsReportAlike : Type 0
SessionsReportAlike =
    (rule : HandlerRule) (set : Setting) (workers : ℕ) (why : Why) (h one : List Entry) (counts : Counts) (left_old left_new written_old written_new : Option (List ℕ))
    (held_old held_new : Option Stored) (read done : ℕ) → set.role ≡ Server → IsTrue rule.ruled → IsSessionHistory rule set workers why h → is_halting why ≡ false
    → (told : Explains set left_old left_new written_old written_new held_old held_new counts read done h)
    → AreCalm rule set (heard_packets Server told.bytes) → IsOneThreadHistory rule set (heard_packets Server told.bytes) one
    → report_of set h counts why ≡ report_of set one (counts_of Server told.bytes) why

-- So two sessions that weren't halted and ended for the same reason, over the same calm bytes, have the same report, however many
-- workers each has.
abbrev pub NoWorkersMatter : Type 0
NoWorkersMatter =
    (rule : HandlerRule) (set : Setting) (workers others : ℕ) (why : Why) (h other : List Entry) (counts other_counts : Counts)
    (left_old left_new written_old written_new left_before left_after written_before written_after : Option (List ℕ))
    (held_old held_new held_before held_after : Option Stored) (read done other_read other_done : ℕ) → set.role ≡ Server → IsTrue rule.ruled
    → IsSessionHistory rule set workers why h → IsSessionHistory rule set others why other → is_halting why ≡ false
    → (told : Explains set left_old left_new written_old written_new held_old held_new counts read done h)
    → (told_other : Explains set left_before left_after written_before written_after held_before held_after other_counts other_read other_done other)
    → told_other.bytes ≡ told.bytes → AreCalm rule set (heard_packets Server told.bytes) → report_of set h counts why ≡ report_of set other other_counts why
