use Rattle.std.proofs.Common.{◌∙◌, [], false, ap}
use Rattle.link_laws.specs.world.World.{Tasked}
use Rattle.link_world.proofs.client.SpeakerLemmas.{speaks_first}
use Rattle.link_world.proofs.client.speaker.Speaker.new.Goals as goal

pub invariant_of-result : goal.invariant_of-result
invariant_of-result c =
    (speaks_first c.args.session c.args.resource c.in-Ok.key c.add.new.self (record { way = c.args.way; is_short = false })
    (c.in-Ok.ensures.adds [] c.in_ok-tasks.ensures.stands) c.in-Ok.ensures.there (c.add.ensures.moment ∙ c.in_ok-tasks.ensures.moment) c.requires.is_of c.requires.is_for c.requires.goes_on).0

pub returns-in-Ok-clause-task : goal.returns-in-Ok-clause-task
returns-in-Ok-clause-task c =
    ap {B = Tasked} (λ t. record { call = c.args.call; session = c.args.session; transfer = t })
    (speaks_first c.args.session c.args.resource c.in-Ok.key c.add.new.self (record { way = c.args.way; is_short = false })
    (c.in-Ok.ensures.adds [] c.in_ok-tasks.ensures.stands) c.in-Ok.ensures.there (c.add.ensures.moment ∙ c.in_ok-tasks.ensures.moment) c.requires.is_of c.requires.is_for c.requires.goes_on).1
