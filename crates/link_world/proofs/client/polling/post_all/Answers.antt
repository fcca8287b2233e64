use Rattle.std.proofs.Common.{◌∙◌, sym, subst, take}
use Rattle.task_core.specs.Tasks.{Keeps, StandsFor}
use Rattle.link_world.specs.client.OnePoll.{with_posts}
use Rattle.link_laws.specs.world.Client.{mail_of}
use Rattle.link_world.specs.client.Speaking.{mail_among}
use Rattle.link_world.proofs.client.MailLemmas.{mail_more, mail_same}
use Rattle.link_world.proofs.client.OnePollLemmas.{posts_append}
use Rattle.link_world.proofs.client.polling.post_all.Goals as goal
use Rattle.link_world.proofs.client.polling.post_all.Goals.{then-of-call+in_ok-post, else-of-call}

pub events-preserved : goal.events-preserved
events-preserved c =
    let key = c.args.key in
    let events = c.args.events.now in
    let i = c.events.of-index in
    let x = c.events-item.result in
    let mails = mail_among c.args.call (take i events) in
    elim c.if-of-call.branch [
      | then-of-call+in_ok-post w ↦ record {
        posts = λ log stands.
            subst (λ ms. StandsFor c.if-of-call.tasks (with_posts key ms log)) (sym (mail_more mail_of c.args.call events i x c.events-test.true c.events-item.is w.if-of-call.true))
            (subst (λ l. StandsFor c.if-of-call.tasks l) (sym (posts_append key mails (mail_of x.1) log))
            (subst (λ t. StandsFor t (with_posts key (mail_of x.1) (with_posts key mails log))) (sym w.tasks-is)
            (w.in_ok-post.ensures.posts (with_posts key mails log) (c.events.invariant.posts log stands))));
        keeps = subst (Keeps c.args.tasks.now) (sym w.tasks-is) (record {
          moment = w.post.ensures.keeps.moment ∙ c.events.invariant.keeps.moment;
          keys = λ k. w.post.ensures.keeps.keys k ∙ c.events.invariant.keeps.keys k;
        });
      }
      | else-of-call w ↦ record {
        posts = λ log stands.
            subst (λ ms. StandsFor c.if-of-call.tasks (with_posts key ms log)) (sym (mail_same mail_of c.args.call events i x c.events-test.true c.events-item.is w.if-of-call.false))
            (subst (λ t. StandsFor t (with_posts key mails log)) (sym w.tasks-is) (c.events.invariant.posts log stands));
        keeps = subst (Keeps c.args.tasks.now) (sym w.tasks-is) c.events.invariant.keeps;
      }
    ]
