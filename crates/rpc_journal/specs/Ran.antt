-- What contracts see of a run.
use Rattle.std.specs.Prelude.{Option}
use Rattle.rpc_handlers.specs.declared.answer.Answer.{Answer}
use Rattle.rpc_handlers.specs.declared.event.Memo.{Memo}
use Rattle.rpc_journal.specs.Runs.{Run}

-- a run, what its handler gives to its event and the state to which it moves on, and its answer once it was asked
pub record Ran : Type 0 where
  pub run : Run
  pub gives : Answer
  pub moves : Memo
  pub answer : Option Answer

-- what the relations of a table's calls see of a run
abbrev pub run_in : Ran → Run
run_in r = r.run
