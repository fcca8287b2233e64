use Rattle.link_world.proofs.client.PassLemmas.{say_taken}
use Rattle.link_world.proofs.client.working.say.Goals as goal

pub returns-in-Ok-clause-says : goal.returns-in-Ok-clause-says
returns-in-Ok-clause-says c = say_taken c.args.client.now c.say.new.self c.args.call c.args.out c.in-Ok.ensures.did c.say.ensures.aside c.requires.orderly
