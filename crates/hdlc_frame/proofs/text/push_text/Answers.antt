use Rattle.std.proofs.Common.{ℕ, ◌∙◌, ◌++◌, take, ap, arith, length-drop, length-take}
use Rattle.std.proofs.lemmas.List.{take_rest}
use Rattle.hdlc_frame.specs.Encoded.{text_of}
use Rattle.hdlc_frame.proofs.TextRuns.{text_more}
use Rattle.hdlc_frame.proofs.text.push_text.Goals as goal

pub runs-preserved : goal.runs-preserved
runs-preserved c =
    let content = c.args.content.now in
    let done = c.runs.done in
    let n = c.in_ok-done.field-0 in
    let rest = ap (λ piece. c.runs.out.items ++ text_of (take n piece)) (take_rest content done) in
    record {
      within = omega (arith, c.in_ok-done.ensures.taken.1, c.runs.invariant.within, length-take {A = ℕ}, length-drop {A = ℕ});
      text = text_more c.args.out.now.items c.runs.out.items c.push_run.new.out.items content done n c.runs.invariant.text (c.in_ok-done.ensures.ok ∙ rest);
    }
