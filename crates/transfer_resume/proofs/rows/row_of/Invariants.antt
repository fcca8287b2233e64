use Rattle.std.proofs.Common.{◌≡◌, ◌++◌, take, drop}
use Rattle.transfer_resume.specs.declared.stage.Stage.{Stage}
use Rattle.transfer_resume.specs.Book.{replaced}
use Rattle.transfer_resume.proofs.rows.row_of.Given as goal

-- none of the rows so far is the session's
abbrev pub invariant-loop-at : goal.invariant-loop-at
invariant-loop-at l = (stage : Stage) → replaced l.id stage l.rows ≡ take l.at l.rows ++ replaced l.id stage (drop l.at l.rows)
