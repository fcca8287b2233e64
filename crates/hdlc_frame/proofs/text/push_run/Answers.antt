use Rattle.std.proofs.Common.{arith, refl}
use Rattle.hdlc_frame.proofs.TextRuns.{one_more, run_text}
use Rattle.hdlc_frame.proofs.text.push_run.Goals as goal

pub returns-then-run-content-clause-ok : goal.returns-then-run-content-clause-ok
returns-then-run-content-clause-ok c =
    run_text c.args.out.now.items c.extend_from_slice.new.self.items c.args.content.now c.ordinary_len-run.result c.in_ok-extend_from_slice.ensures.items
    c.ordinary_len-run.ensures.ordinary

pub returns-clause-ok : goal.returns-clause-ok
returns-clause-ok c =
    one_more c.args.out.now.items c.extend_from_slice.new.self.items c.push_octet.new.out.items c.args.content.now c.ordinary_len-run.result _
    c.in_ok-extend_from_slice.ensures.items c.ordinary_len-run.ensures.ordinary (omega (arith, c.if-run-content.false, c.ordinary_len-run.ensures.within)) refl
    c.in_ok-push_octet.ensures.ok
