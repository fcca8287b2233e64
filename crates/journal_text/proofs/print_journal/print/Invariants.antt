use Rattle.std.proofs.Common.{◌≡◌, ◌++◌, string_bytes, take}
use Rattle.journal_text.specs.Printed.{journal_text}
use Rattle.journal_text.proofs.AgainLemmas.{AllAgain}
use Rattle.journal_text.proofs.print_journal.print.Given as goal

abbrev pub invariant-loop-at : goal.invariant-loop-at
invariant-loop-at l = record {
  printed : string_bytes l.text ≡ string_bytes l.fn.text ++ journal_text (take l.at l.journal.entries);
  again : AllAgain (take l.at l.journal.entries);
}
