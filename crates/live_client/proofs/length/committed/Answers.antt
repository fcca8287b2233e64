use Rattle.std.proofs.Common.{sym, ap, ◌∙◌, option_copied, arith, unwrap_or}
use Rattle.std.proofs.lemmas.List.{take_all}
use Rattle.live_client.specs.Histories.{says_of}
use Rattle.live_client.specs.Lengths.{no_work, work_over}
use Rattle.live_client.proofs.LengthLemmas.{work_more}
use Rattle.live_client.proofs.length.committed.Goals as goal

pub loop-at-preserved : goal.loop-at-preserved
loop-at-preserved c =
    work_more c.loop-at.work c.see.new.self no_work c.args.journal.now.entries c.loop-at.at c.unwrap-entry.result.now (sym c.get.ensures ∙ ap option_copied c.unwrap-entry.ensures) c.loop-at.invariant c.see.ensures

pub returns : goal.returns
returns c =
    let all = take_all c.loop-at.at c.args.journal.now.entries (omega (arith, c.len-at-end.ensures.len)) in
    c.length.ensures ∙ ap (λ w. unwrap_or w.whole 0) (c.loop-at.invariant ∙ ap (λ es. work_over no_work (says_of es)) all)
