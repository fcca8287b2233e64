use Rattle.std.proofs.Common.{◌+◌, ◌-◌, ◌≤◌, length}
use Rattle.text_fields.specs.Lines.{lines_of}
use Rattle.token_text.proofs.lines.LineLemmas.{ReadsOn}
use Rattle.token_text.proofs.lines.lines.read_formats.Given as goal

-- the formats so far are in the book
abbrev pub invariant-lines : goal.invariant-lines
invariant-lines l = record {
  reads : ReadsOn l.fn.book (lines_of l.text) l.book (lines_of l.rest) (l.number - 1);
  low : 1 ≤ l.number;
  room : l.number + length l.rest ≤ 1 + length l.text;
}

abbrev pub decreases-lines : goal.decreases-lines
decreases-lines l = length l.rest
