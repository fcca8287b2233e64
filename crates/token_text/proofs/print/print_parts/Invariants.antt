use Rattle.std.proofs.Common.{◌≡◌, ◌*◌, ◌+◌, ◌≤◌, ℕ, List, ◌++◌, drop, length}
use Rattle.token_text.proofs.PrintLemmas.{PrintsTo}
use Rattle.token_text.proofs.print.print_parts.Given as goal

-- what was printed, with what the parts to come print behind it, is the whole
abbrev pub invariant-loop-part : goal.invariant-loop-part
invariant-loop-part l = record {
  printed : (printed : List ℕ) × (l.out.items ≡ l.fn.out.items ++ printed) × PrintsTo l.parts l.bytes (drop l.part-index l.parts) l.rest printed;
  near : length l.bytes ≤ length l.rest + 128 * l.part-index;
}
