use Rattle.std.proofs.Common.{◌+◌, ◌-◌, ◌≤◌, length}
use Rattle.std.specs.Prelude.{string_bytes}
use Rattle.text_fields.specs.Lines.{lines_of}
use Rattle.frame_router.proofs.text.LineLemmas.{RunsTo}
use Rattle.frame_router.proofs.text.lines.run_lines.Given as goal

-- the router as the lines so far have made it, and what was printed of them
abbrev pub invariant-lines : goal.invariant-lines
invariant-lines l = record {
  runs : RunsTo l.fn.router.routes (lines_of l.text) (lines_of l.rest) l.router (string_bytes l.fn.out) (string_bytes l.out) (l.number - l.first);
  low : l.first ≤ l.number;
  room : l.number + length l.rest ≤ l.first + length l.text;
}

abbrev pub decreases-lines : goal.decreases-lines
decreases-lines l = length l.rest
