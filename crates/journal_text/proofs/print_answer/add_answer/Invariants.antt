use Rattle.std.proofs.Common.{◌≡◌, ◌++◌, string_bytes, take}
use Rattle.journal_text.specs.Line.{items_text}
use Rattle.journal_text.specs.Reading.{AreOuts}
use Rattle.journal_text.proofs.print_answer.add_answer.Given as goal

abbrev pub invariant-loop-item : goal.invariant-loop-item
invariant-loop-item l = record {
  printed : string_bytes l.text ≡ string_bytes l.initial.text ++ items_text (take l.item-index l.item-items);
  fit : AreOuts (take l.item-index l.item-items);
}
