-- The text that is reported of a settled history, call by call.
use Rattle.std.specs.Prelude.{◌≡◌, true, List, IsTrue}
use Rattle.link_io.specs.declared.why.Why.{Why}
use Rattle.rpc_ids.specs.declared.method.Role.TheVariants.{Server}
use Rattle.rpc_packet.specs.declared.owned.Packet.{Packet}
use Rattle.rpc_frames.specs.declared.counts.Counts.{Counts}
use Rattle.rpc_handlers.specs.HandlerRule.{HandlerRule}
use Rattle.rpc_journal.specs.CallTable.{Table, past}
use Rattle.rpc_journal.specs.Items.{items_sent}
use Rattle.rpc_journal.specs.Quiet.{is_settled}
use Rattle.rpc_schedule.specs.OneThread.{IsOneThreadHistory}
use Rattle.run_report.specs.CrewReport.{crew_report}
use Rattle.run_laws.specs.calm.Calm.{AreCalm}
use Rattle.run_laws.specs.calm.Taken.{IsServed}

-- over calm packets the report of a settled history, on any schedule, is that of the history of one thread, with the same
-- counts of the stream and the same last line
abbrev pub ReportsAlike : Type 0
ReportsAlike =
    (rule : HandlerRule) (table one : Table) (packets : List Packet) (counts : Counts) (why : Why) → table.setting.role ≡ Server → IsTrue rule.ruled
    → AreCalm rule table.setting packets → IsServed rule table.setting packets table.entries → is_settled (past table) ≡ true
    → one.setting ≡ table.setting → IsOneThreadHistory rule one.setting packets one.entries
    → crew_report table counts (items_sent (past table)) why ≡ crew_report one counts (items_sent (past one)) why
