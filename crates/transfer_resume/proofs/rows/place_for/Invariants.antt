use Rattle.std.proofs.Common.{◌≡◌, ◌++◌, take, drop}
use Rattle.transfer_resume.specs.declared.stage.Stage.{Stage}
use Rattle.transfer_resume.specs.Book.{with_new}
use Rattle.transfer_resume.proofs.rows.place_for.Given as goal

-- the new row stands behind the rows so far
abbrev pub invariant-loop-at : goal.invariant-loop-at
invariant-loop-at l = (stage : Stage) → with_new l.id stage l.rows ≡ take l.at l.rows ++ with_new l.id stage (drop l.at l.rows)
