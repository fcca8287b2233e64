use Rattle.std.proofs.Common.{◌≡◌, ◌+◌, [], ◌∷◌, arith}
use Rattle.std.proofs.lemmas.List.FromFn.{map-range_with_len_more}
use Rattle.rpc_handlers.specs.declared.answer.Out.TheVariants.{Say}
use Rattle.demo_services.proofs.count.numbers_to.Goals as goal

pub loop-below-preserved : goal.loop-below-preserved
loop-below-preserved c =
    let one_more = map-range_with_len_more (λ byte. Say (byte ∷ [])) 1 c.loop-below.below (c.loop-below.below + 1) (omega arith) in
    let number : c.in_ok-number.number ≡ (c.loop-below.below + 1) ∷ [] = c.in_ok-number.ensures in
    let pushed = c.in_ok-push.ensures.ok in
    cc
