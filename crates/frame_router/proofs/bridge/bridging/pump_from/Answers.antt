use Rattle.std.proofs.Common.{refl, ap}
use Rattle.frame_router.specs.bridge.Bridges.{bridge_routes}
use Rattle.frame_router.proofs.bridge.StartLemmas.{untouched_pumped}
use Rattle.frame_router.proofs.bridge.bridging.pump_from.Goals as goal

pub returns-in_default-clause-pumps : goal.returns-in_default-clause-pumps
returns-in_default-clause-pumps g c =
    let left = g.I.Source.left c.args.link_in.now in
    let written = g.O.Sink.written c.args.link_out.now in
    untouched_pumped (bridge_routes c.args.plan.at_right c.args.plan.at_left) c.args.from left left written written c.nothing_pumped.result c.nothing_pumped.ensures refl refl

pub returns-clause-pumps : goal.returns-clause-pumps
returns-clause-pumps g c =
    untouched_pumped (bridge_routes c.args.plan.at_right c.args.plan.at_left) c.args.from
    (g.I.Source.left c.args.link_in.now) (g.I.Source.left c.pump.new.link_in)
    (g.O.Sink.written c.args.link_out.now) (g.O.Sink.written c.pump.new.link_out)
    c.nothing_pumped-in-Err.result c.nothing_pumped-in-Err.ensures
    (ap g.I.Source.left c.in-Err.ensures.untouched.0) (ap g.O.Sink.written c.in-Err.ensures.untouched.1)
