-- What holds of runs between the calls of a pass.
use Rattle.std.specs.Prelude.{List, ◌++◌}
use Rattle.std.specs.List.{AllByRecursion}
use Rattle.rpc_handlers.specs.HandlerRule.{HandlerRule}
use Rattle.rpc_journal.specs.declared.entry.Entry.{Entry}
use Rattle.rpc_journal.specs.declared.setting.Setting.{Setting}
use Rattle.rpc_journal.specs.Lawful.{IsLawful}
use Rattle.rpc_journal.specs.Runs.{IsRunning, Run}
use Rattle.rpc_shared.specs.OwnRuns.{LetsRun}

-- a run stands until a Finish of its call by its own seat
abbrev pub RunStandsUntilFinish : Type 0
RunStandsUntilFinish =
    (rule : HandlerRule) (set : Setting) (h more : List Entry) (run : Run) → IsLawful set (h ++ more) → AllByRecursion (LetsRun run) more →
    IsRunning rule set h run → IsRunning rule set (h ++ more) run
