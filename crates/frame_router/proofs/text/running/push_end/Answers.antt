use Rattle.std.specs.Prelude.{string_bytes}
use Rattle.std.proofs.lemmas.Result.{on_ok_weaker}
use Rattle.frame_router.proofs.text.StepLemmas.{end_told}
use Rattle.frame_router.proofs.text.running.push_end.Goals as goal

pub returns : goal.returns
returns c =
    on_ok_weaker c.push_tally-2.result
    (λ last flows both. end_told c.args.router.now c.drain.new.router c.drain-2.new.router flows (string_bytes c.args.out.now) (string_bytes c.drain.new.out)
    (string_bytes c.drain-2.new.out) (string_bytes c.push_tally.new.out) (string_bytes c.push_tally-2.new.out) c.tally.result c.tally-2.result both
    c.drain.ensures.routes c.drain.ensures.across c.in_ok-drain.ensures.follows c.in_ok-drain.ensures.told
    c.drain-2.ensures.routes c.drain-2.ensures.across c.in_ok-drain-2.ensures.follows c.in_ok-drain-2.ensures.told
    c.tally.ensures c.in_ok-push_tally.ensures c.tally-2.ensures last)
    c.push_tally-2.ensures
