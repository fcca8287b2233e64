use Rattle.std.proofs.Common.{◌≡◌, ◌+◌, ◌-◌, ◌≤◌, ◌++◌, ℕ, List, length}
use Rattle.text_fields.specs.Lines.{lines_of}
use Rattle.token_text.proofs.lines.LineLemmas.{PrintsOn}
use Rattle.token_text.proofs.lines.lines.print_messages.Given as goal

-- what was printed, with what is printed of the lines to come behind it, is the whole
abbrev pub invariant-lines : goal.invariant-lines
invariant-lines l = record {
  printed : (printed : List ℕ) × (l.out.items ≡ l.fn.out.items ++ printed) × PrintsOn l.book (lines_of l.text) (lines_of l.rest) printed (l.number - l.first);
  low : l.first ≤ l.number;
  room : l.number + length l.rest ≤ l.first + length l.text;
}

abbrev pub decreases-lines : goal.decreases-lines
decreases-lines l = length l.rest
