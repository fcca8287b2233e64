use Rattle.std.proofs.Common.{◌≡◌, drop}
use Rattle.transfer_resume.specs.Book.{stage_of}
use Rattle.transfer_resume.proofs.rows.Rows.stage.Given as goal

abbrev pub invariant-loop-row : goal.invariant-loop-row
invariant-loop-row l = stage_of l.id (drop l.row-index l.row-items) ≡ stage_of l.id l.row-items
