use Rattle.std.proofs.Common.{◌≡◌, Ok, rules, ◌∙◌, sym}
use Rattle.task_core.specs.Visit.{visit_of}
use Rattle.task_core.specs.declared.task.Poll.TheVariants.{Pending}
use Rattle.task_core.proofs.place.Place.poll.Goals as goal

pub returns-in-Pending-clause-polled : goal.returns-in-Pending-clause-polled
returns-in-Pending-clause-polled g c =
    let now_is : c.now.result ≡ c.args.cx.now.moment = search rules in
    let alarm_is : c.alarm.result ≡ c.poll-answer.new.cx.alarm = search rules in (
      visit_of c.swap_mail.new.self c.poll-answer.new.cx (Ok Pending),
      record {
        did = search rules;
        moment = search rules;
        mail = search rules;
        left = search rules;
        ending = search rules;
        waits = search rules;
        marked = λ _. sym (rw (now_is, alarm_is) at c.sleep.ensures.marked);
        alarm = λ h. sym (c.sleep.ensures.alarm h ∙ alarm_is);
        latest = search rules;
        heard = search rules;
        owed = λ h. absurd (cc);
        outs = search rules;
        clock = search rules;
      },
    )
