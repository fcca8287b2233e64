use Rattle.std.proofs.Common.{refl, sym, ap, ◌∙◌}
use Rattle.link_script.specs.Generator.{number_after, number_behind}
use Rattle.load_stream.specs.Load.{load_packets}
use Rattle.load_stream.proofs.FrameSteps.{load_more, number_more}
use Rattle.load_stream.proofs.source.LoadSource.new.Goals as goal

pub loop-number-init : goal.loop-number-init
unfolding load_packets number_after
loop-number-init c = (c.new-stream.ensures.items, refl)

pub loop-number-preserved : goal.loop-number-preserved
loop-number-preserved c =
    let step = c.next_number-x.ensures ∙ ap number_behind c.loop-number.invariant.1 ∙ sym (number_more c.loop-number.number c.args.seed) in
    (c.in_ok-write_call.ensures ∙ rw (c.loop-number.invariant.0, step) (sym (load_more c.loop-number.number c.args.seed)), step)
