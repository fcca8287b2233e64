-- What two histories of the same packets tell alike, whatever the schedule of each.
use Rattle.std.specs.Prelude.{◌≡◌, ℕ, true, List, IsTrue}
use Rattle.rpc_ids.specs.declared.method.Role.TheVariants.{Server}
use Rattle.rpc_packet.specs.declared.owned.Packet.{Packet}
use Rattle.rpc_handlers.specs.HandlerRule.{HandlerRule}
use Rattle.rpc_journal.specs.declared.entry.Entry.{Entry}
use Rattle.rpc_journal.specs.declared.setting.Setting.{Setting}
use Rattle.rpc_journal.specs.Calls.{calls, end_of}
use Rattle.rpc_journal.specs.Effect.{Deed}
use Rattle.rpc_journal.specs.History.{history}
use Rattle.rpc_journal.specs.Items.{items_sent}
use Rattle.rpc_journal.specs.Quiet.{is_settled}
use Rattle.rpc_schedule.specs.OneThread.{IsOneThreadHistory}
use Rattle.run_report.specs.ItemsByCall.{items_of_call, replies}
use Rattle.run_laws.specs.calm.Calm.{AreCalm}
use Rattle.run_laws.specs.calm.Taken.{IsServed}

-- the same calls with the same ends, the same items of each call in order, and the same replies in order
pub record AreAlike (one other : List Deed) : Type 0 where
  pub same_calls : calls one ≡ calls other
  pub same_ends : (c : ℕ) → end_of one c ≡ end_of other c
  pub same_items : (c : ℕ) → items_of_call c (items_sent one) ≡ items_of_call c (items_sent other)
  pub same_replies : replies (items_sent one) ≡ replies (items_sent other)

-- over calm packets a settled history, on any schedule, tells all of this as that of one thread does
abbrev pub SettlesAlike : Type 0
SettlesAlike =
    (rule : HandlerRule) (set : Setting) (packets : List Packet) (h one : List Entry) → set.role ≡ Server → IsTrue rule.ruled
    → AreCalm rule set packets → IsServed rule set packets h → is_settled (history set h) ≡ true → IsOneThreadHistory rule set packets one
    → AreAlike (history set h) (history set one)
