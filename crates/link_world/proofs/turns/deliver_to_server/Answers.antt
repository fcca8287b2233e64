use Rattle.std.proofs.Common.{refl}
use Rattle.std.proofs.lemmas.Result.{IfErr-at_err}
use Rattle.link_world.proofs.MakeLemmas.{on_ok_four}
use Rattle.link_world.proofs.ServerLemmas.{delivered_up}
use Rattle.link_world.proofs.StopLemmas.{up_stops}
use Rattle.link_world.proofs.turns.deliver_to_server.Goals as goal

pub returns-clause-turn : goal.returns-clause-turn
returns-clause-turn c =
    on_ok_four c.deliver.result
    (λ rests hears fed moves k commands w rest shows wires course.
    delivered_up k commands w c.args.frame.now rest c.args.server.now c.deliver.new.self c.args.wires.now c.deliver.new.wires c.args.course.now
    shows wires course rests (hears w.fed_server shows.fed) (fed w.fed_server shows.fed) moves)
    c.deliver.ensures.rest c.deliver.ensures.hears c.deliver.ensures.fed c.deliver.ensures.moves

pub returns-clause-journal : goal.returns-clause-journal
returns-clause-journal c = λ is k w rest shows.
    up_stops k w c.args.frame.now c.args.server.now shows (IfErr-at_err _ is c.deliver.ensures.full refl w.fed_server shows.fed)
