use Rattle.std.proofs.Common.{[], ◌∷◌, ◌++◌, map, arith, ◌∙◌, ap, sym}
use Rattle.std.proofs.lemmas.List.{map_push}
use Rattle.std.proofs.lemmas.List.FromFn.{map-range_with_len_more}
use Rattle.run_report.specs.ItemsByCall.{behind, behind_each, items_by_call, items_of_call}
use Rattle.run_report.proofs.items_by_call.empty_lists.Goals as goal

pub loop-number-preserved : goal.loop-number-preserved
loop-number-preserved c =
    let number = c.loop-number._number in
    ap behind_each c.in_ok-push.ensures.items ∙ map_push behind c.loop-number.lists.items c.new.result ∙
    ap (λ lists. lists ++ behind c.new.result ∷ []) c.loop-number.invariant ∙
    ap (λ refs. items_by_call number ([]) ++ map (λ item. item.now) refs ∷ []) c.new.ensures.items ∙
    sym (map-range_with_len_more (λ call. items_of_call call ([])) 0 number number (omega arith))
