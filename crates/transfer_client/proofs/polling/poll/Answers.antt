use Rattle.std.proofs.Common.{rules, ◌≡◌, ◌++◌, [], ap, ◌∙◌}
use Rattle.task_core.specs.Context.{Context}
use Rattle.transfer_words.specs.Saying.{outs_of}
use Rattle.transfer_client.specs.Polling.{takes_all}
use Rattle.transfer_client.proofs.PollLemmas.{are_steps, context_is, poll_whole}
use Rattle.transfer_client.proofs.polling.poll.Goals as goal

pub returns-clause-polled : goal.returns-clause-polled
returns-clause-polled g c =
    let k = g.M.Machine.rules in
    let s = c.args.session in
    let old = c.args.machine.now in
    let before = c.args.cx.now in
    let taken = takes_all k s (k.opens old before.moment).after before.mail before.moment in
    let next_is : c.in_ok-next.next ≡ old = search rules in
    let opened : c.open.new.self ≡ (k.opens old before.moment).after = search rules in
    let new_is : c.tick.new.self ≡ (k.ticks taken.after before.moment).after = search rules in
    let outs_is : c.tick.new.outs ≡ (([] ++ outs_of s (k.opens old before.moment).sayings) ++ outs_of s taken.sayings) ++ outs_of s (k.ticks taken.after before.moment).sayings = search rules in
    let left : c.take_mail.new.cx.mail ≡ taken.left = search rules in
    let mail : c.say_all.new.cx.mail ≡ taken.left = ap {A = Context} (λ x. x.mail) c.in_ok-say_all.ensures.said ∙ left in
    let context = context_is before c.take_mail.new.cx c.say_all.new.cx c.tick.new.outs c.in_ok-take_mail.ensures.rest c.in_ok-say_all.ensures.said in
    let steps = are_steps k s old c.tick.new.self before c.say_all.new.cx c.tick.new.outs c.requires new_is outs_is mail context in
    poll_whole k s old c.tick.new.self before c.say_all.new.cx c.wait.new.cx c.tick.new.outs c.wait.result steps c.wait.ensures
