use Rattle.std.proofs.Common.{◌∙◌, ap, sym, arith}
use Rattle.hdlc_frame.specs.Lent.{found_of, parts_of}
use Rattle.hdlc_frame.proofs.Placed.{payload_stands}
use Rattle.hdlc_frame.proofs.judge.judge_at.Goals as goal

pub overflow_sub-result : goal.overflow_sub-result
overflow_sub-result c =
    let stands = payload_stands c.args.limit c.args.content.now (parts_of c.in-Frame.frame) (sym c.judge.ensures ∙ ap found_of c.in-Frame.is) in
    let within = c.requires in
    omega (arith, stands.short, within)

pub overflow_sub-result-in-Frame : goal.overflow_sub-result-in-Frame
overflow_sub-result-in-Frame c =
    let stands = payload_stands c.args.limit c.args.content.now (parts_of c.in-Frame.frame) (sym c.judge.ensures ∙ ap found_of c.in-Frame.is) in
    let within = c.requires in
    omega (arith, stands.short, within)
