use Rattle.std.proofs.Common.{◌++◌, ap, sym, ◌∙◌, append_assoc, option_copied, string_bytes, arith}
use Rattle.std.proofs.lemmas.List.{take_all}
use Rattle.journal_text.specs.Printed.{entry_text}
use Rattle.journal_text.proofs.AgainLemmas.{journal_again}
use Rattle.journal_text.proofs.PrintLemmas.{again_more, journal_text-more}
use Rattle.journal_text.proofs.print_journal.print.Goals as goal

pub loop-at-preserved : goal.loop-at-preserved
loop-at-preserved c =
    let there = sym c.get.ensures ∙ ap option_copied c.unwrap-entry.ensures in
    let more = journal_text-more c.args.journal.now.entries c.loop-at.at c.unwrap-entry.result.now there in
    let text = string_bytes c.args.text.now in
    record {
      printed = c.in_ok-add_entry.ensures.ok ∙
          (ap (λ bytes. bytes ++ entry_text c.unwrap-entry.result.now) c.loop-at.invariant.printed ∙ append_assoc text _ _ ∙ ap (λ bytes. text ++ bytes) (sym more));
      again = again_more c.args.journal.now.entries c.loop-at.at c.unwrap-entry.result.now there c.loop-at.invariant.again
          c.in_ok-add_entry.ensures.again;
    }

pub returns-clause-again : goal.returns-clause-again
returns-clause-again c =
    let all = take_all c.loop-at.at c.args.journal.now.entries (omega (arith, c.len-at-end.ensures.len)) in
    journal_again c.args.journal.now.entries (rw all at c.loop-at.invariant.again)
