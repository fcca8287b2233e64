use Rattle.std.proofs.Common.{refl}
use Rattle.live_client.specs.Driving.{is_saying}
use Rattle.live_client.proofs.StepsOf.{halt_calm}
use Rattle.live_client.proofs.driver.give_up.Goals as goal

pub halt-requires-clause-own : goal.halt-requires-clause-own
halt-requires-clause-own g c = c.requires.can.stands.own

pub halt-requires-clause-full : goal.halt-requires-clause-full
halt-requires-clause-full g c = λ is. absurd (cc is)

pub returns-clause-calm : goal.returns-clause-calm
returns-clause-calm g c =
    halt_calm c.args.table.now c.args.call c.args.pass.now c.halt.new.pass c.requires.can _ is_saying c.halt.ensures.did refl refl (λ is. absurd (cc is)) (c.halt.ensures.adds is_saying refl)
