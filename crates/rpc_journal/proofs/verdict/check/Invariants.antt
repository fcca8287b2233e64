-- The entries so far are lawful, and the table tells of them.
use Rattle.std.proofs.Common.{◌≡◌, length, take}
use Rattle.rpc_journal.specs.declared.setting.Setting.{Setting}
use Rattle.rpc_journal.specs.Faults.{IsSettingOf}
use Rattle.rpc_journal.specs.History.{history}
use Rattle.rpc_journal.specs.Lawful.{IsLawful}
use Rattle.rpc_journal.specs.table.Agrees.{Agrees}
use Rattle.rpc_journal.proofs.verdict.check.Given as goal

abbrev pub invariant-loop-at : goal.invariant-loop-at
invariant-loop-at l = record {
  count : l.count ≡ length l.journal.entries;
  lawful : (set : Setting) → IsSettingOf set l.role l.channels l.registry → IsLawful set (take l.at l.journal.entries);
  agrees : (set : Setting) → IsSettingOf set l.role l.channels l.registry → Agrees (history set (take l.at l.journal.entries)) l.states;
}
