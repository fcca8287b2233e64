use Rattle.run_report.proofs.ByCallLemmas.{pushed}
use Rattle.run_report.proofs.items_by_call.add.Goals as goal

pub returns-in_ok-push : goal.returns-in_ok-push
returns-in_ok-push c =
    pushed c.args.lists.now.items c.args.call c.in-Some.list.now c.push.new.self c.args.item c.in-Some.ensures.item.3.0
    c.in-Some.ensures.item.1 c.in_ok-push.ensures.items
