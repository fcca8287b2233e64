use Rattle.std.proofs.Common.{◌+◌, ◌-◌, ◌≤◌, length}
use Rattle.text_fields.specs.Lines.{lines_of}
use Rattle.frame_router.proofs.text.LineLemmas.{ReadsOn}
use Rattle.frame_router.proofs.text.lines.read_routes.Given as goal

-- the routes so far were added
abbrev pub invariant-lines : goal.invariant-lines
invariant-lines l = record {
  reads : ReadsOn l.fn.routes (lines_of l.text) l.routes (lines_of l.rest) (l.number - 1);
  low : 1 ≤ l.number;
  room : l.number + length l.rest ≤ 1 + length l.text;
}

abbrev pub decreases-lines : goal.decreases-lines
decreases-lines l = length l.rest
