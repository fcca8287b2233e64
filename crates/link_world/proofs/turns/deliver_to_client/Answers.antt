use Rattle.std.proofs.Common.{refl, subst}
use Rattle.std.proofs.lemmas.Result.{IfErr-at_err}
use Rattle.link_world.specs.client.ClientSide.{ClientStopsHearing, ClientHeard}
use Rattle.link_world.proofs.MakeLemmas.{on_ok_four}
use Rattle.link_world.proofs.ClientLemmas.{delivered_down}
use Rattle.link_world.proofs.StopLemmas.{down_stops}
use Rattle.link_world.proofs.turns.deliver_to_client.Goals as goal

pub returns-clause-turn : goal.returns-clause-turn
returns-clause-turn c =
    on_ok_four c.deliver.result
    (λ rests hears fed moves k commands w rest shows wires course.
    delivered_down k commands w c.args.frame.now rest c.args.client.now c.deliver.new.self c.args.wires.now c.deliver.new.wires c.args.course.now c.deliver.new.under
    shows wires course rests
    (subst (λ at. ClientHeard at c.args.client.now.end.serving c.args.course.now.under c.deliver.new.self.end.serving c.deliver.new.under w.fed_client c.args.frame.now)
    c.moment-now.ensures (hears w.fed_client shows.fed))
    (fed w.fed_client shows.fed) moves)
    c.deliver.ensures.rest c.deliver.ensures.hears c.deliver.ensures.fed c.deliver.ensures.moves

pub returns-clause-journal : goal.returns-clause-journal
returns-clause-journal c = λ is k commands w rest shows course.
    down_stops k commands w c.args.frame.now c.args.client.now c.args.course.now shows course
    (subst (λ at. ClientStopsHearing at c.args.client.now.end.serving c.args.course.now.under w.fed_client c.args.frame.now) c.moment-now.ensures
    (IfErr-at_err _ is c.deliver.ensures.full refl w.fed_client shows.fed))
