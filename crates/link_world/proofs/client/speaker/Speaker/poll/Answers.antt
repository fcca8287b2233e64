use Rattle.std.proofs.Common.{◌≡◌, ◌∙◌, suc, length, ap, sym, subst, arith}
use Rattle.slab.specs.Slab.{get}
use Rattle.link_laws.specs.world.Client.{task_polled, transfer_says}
use Rattle.link_laws.specs.world.World.{Tasked}
use Rattle.link_world.specs.client.OnePoll.{PollsAlone, with_posts}
use Rattle.link_world.specs.client.Speaking.{PollsTransfer, Speaking, mail_among, transfer_at}
use Rattle.link_world.proofs.client.OnePollLemmas.{posts_same}
use Rattle.link_world.proofs.client.SpeakerLemmas.{spoken}
use Rattle.link_world.proofs.client.speaker.Speaker.poll.Goals as goal

pub invariant_of-speaker : goal.invariant_of-speaker
invariant_of-speaker c =
    let s = c.self.inside in
    let inv = c.self.invariant in
    let mails = mail_among s.call c.args.events.now in
    let log = with_posts s.key mails inv.log in
    let polls : PollsAlone PollsTransfer s.key c.args.now log c.poll_once.new.tasks =
    c.in_ok-poll_once.ensures.polls log (c.in_ok-post_all.ensures.posts inv.log inv.stands) (λ k added. inv.alone k (sym ((posts_same s.key mails inv.log).added k) ∙ added)) in
    let so = spoken s.session s.resource s.polled_at c.args.now s.key s.tasks inv mails c.poll_once.new.tasks c.take_outs.new.tasks c.in_ok-outs.outs.items (suc (length c.in_ok-outs.outs.items))
    polls c.in_ok-poll_once.ensures.whole (c.in_ok-outs.ensures.outs polls.new polls.stands) (c.in_ok-outs.ensures.stands polls.new polls.stands)
    (c.take_outs.ensures.keeps.keys s.key ∙ c.in_ok-poll_once.ensures.there) (omega (arith, c.take_outs.ensures.keeps.moment, c.in_ok-poll_once.ensures.moment))
    (c.in_ok-outs.ensures.none polls.new polls.stands) in
    so.speaks

pub returns-clause-task : goal.returns-clause-task
returns-clause-task c =
    let s = c.self.inside in
    let inv = c.self.invariant in
    let mails = mail_among s.call c.args.events.now in
    let log = with_posts s.key mails inv.log in
    let polls : PollsAlone PollsTransfer s.key c.args.now log c.poll_once.new.tasks =
    c.in_ok-poll_once.ensures.polls log (c.in_ok-post_all.ensures.posts inv.log inv.stands) (λ k added. inv.alone k (sym ((posts_same s.key mails inv.log).added k) ∙ added)) in
    let so = spoken s.session s.resource s.polled_at c.args.now s.key s.tasks inv mails c.poll_once.new.tasks c.take_outs.new.tasks c.in_ok-outs.outs.items (suc (length c.in_ok-outs.outs.items))
    polls c.in_ok-poll_once.ensures.whole (c.in_ok-outs.ensures.outs polls.new polls.stands) (c.in_ok-outs.ensures.stands polls.new polls.stands)
    (c.take_outs.ensures.keeps.keys s.key ∙ c.in_ok-poll_once.ensures.there) (omega (arith, c.take_outs.ensures.keeps.moment, c.in_ok-poll_once.ensures.moment))
    (c.in_ok-outs.ensures.none polls.new polls.stands) in
    subst (λ (v : Speaking). record { call = s.call; session = s.session; transfer = transfer_at (get c.take_outs.new.tasks.places s.key) } ≡ task_polled v.task (mail_among v.task.call c.args.events.now) c.args.now)
    c.self.view_is
    (ap {B = Tasked} (λ t. record { call = s.call; session = s.session; transfer = t }) so.transfer)

pub returns-clause-says : goal.returns-clause-says
returns-clause-says c =
    let s = c.self.inside in
    let inv = c.self.invariant in
    let mails = mail_among s.call c.args.events.now in
    let log = with_posts s.key mails inv.log in
    let polls : PollsAlone PollsTransfer s.key c.args.now log c.poll_once.new.tasks =
    c.in_ok-poll_once.ensures.polls log (c.in_ok-post_all.ensures.posts inv.log inv.stands) (λ k added. inv.alone k (sym ((posts_same s.key mails inv.log).added k) ∙ added)) in
    let so = spoken s.session s.resource s.polled_at c.args.now s.key s.tasks inv mails c.poll_once.new.tasks c.take_outs.new.tasks c.in_ok-outs.outs.items (suc (length c.in_ok-outs.outs.items))
    polls c.in_ok-poll_once.ensures.whole (c.in_ok-outs.ensures.outs polls.new polls.stands) (c.in_ok-outs.ensures.stands polls.new polls.stands)
    (c.take_outs.ensures.keeps.keys s.key ∙ c.in_ok-poll_once.ensures.there) (omega (arith, c.take_outs.ensures.keeps.moment, c.in_ok-poll_once.ensures.moment))
    (c.in_ok-outs.ensures.none polls.new polls.stands) in
    subst (λ (v : Speaking). c.in_ok-outs.outs.items ≡ transfer_says v.task.session v.task.transfer (mail_among v.task.call c.args.events.now) c.args.now)
    c.self.view_is so.says
