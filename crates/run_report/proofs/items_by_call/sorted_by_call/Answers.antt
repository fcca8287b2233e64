use Rattle.std.proofs.Common.{refl, ◌∙◌, ap}
use Rattle.run_report.specs.ItemsByCall.{behind, behind_each}
use Rattle.run_report.proofs.ByCallLemmas.{lists_with, lists_without, replies_with, replies_without}
use Rattle.run_report.proofs.items_by_call.sorted_by_call.Goals as goal
use Rattle.run_report.proofs.items_by_call.sorted_by_call.Goals.{in-None+in_ok-push-in-None, in-Some+in_ok-add-in-Some}

pub loop-item-preserved : goal.loop-item-preserved
loop-item-preserved c =
    let within = c.loop-item-test.true in
    let at = c.item-item.is in
    elim c.match-item.branch [
      | in-None+in_ok-push-in-None w ↦ record {
        replies =
            ap behind w.replies-is ∙
            replies_with _ _ _ c.loop-item.replies w.push.new.self _ within at w.in-None.is refl c.loop-item.invariant.replies w.in_ok-push-in-None.ensures.items;
        calls = ap (λ lists. behind_each lists.items) w.calls-is ∙ lists_without _ _ _ _ _ within at w.in-None.is c.loop-item.invariant.calls;
      }
      | in-Some+in_ok-add-in-Some w ↦ record {
        replies = ap behind w.replies-is ∙ replies_without _ _ _ _ _ within at w.in-Some.is c.loop-item.invariant.replies;
        calls =
            ap (λ lists. behind_each lists.items) w.calls-is ∙
            lists_with _ _ _ _ _ _ _ within at w.in-Some.is c.loop-item.invariant.calls w.in_ok-add-in-Some.ensures;
      }
    ]
