use Rattle.frame_router.specs.bridge.Bridges.{bridge_routes}
use Rattle.frame_router.proofs.bridge.BridgeLemmas.{bridge_told}
use Rattle.frame_router.proofs.bridge.bridging.bridge.Goals as goal

pub returns-clause-bridges : goal.returns-clause-bridges
returns-clause-bridges g c = record {
  left = record { left = _; written = _ };
  right = record { left = _; written = _ };
  left_end = record { left = _; written = _ };
  right_end = record { left = _; written = _ };
  left_in_faults = _;
  left_out_faults = _;
  right_in_faults = _;
  right_out_faults = _;
  one_out = g.N.Linker.links c.connect.new.self;
  both_out = g.N.Linker.links c.connect-2.new.self;
  one_back = g.N.Linker.links c.back-2.new.self;
  left_out = c.in_ok-left_in.ensures.handed;
  right_out = c.in-Ok.ensures.handed;
  from_left = c.pump_both-done.ensures.from_left;
  from_right = c.pump_both-done.ensures.from_right;
  left_back = c.back-2.ensures;
  right_back = c.back-3.ensures;
}

pub returns-clause-tells : goal.returns-clause-tells
returns-clause-tells g c left right rest gone coming before =
    bridge_told (bridge_routes c.args.at_right c.args.at_left) (g.N.Linker.links c.args.net.now) (g.N.Linker.links c.back-3.new.self) c.pump_both-done.result
    left right rest gone (returns-clause-bridges g c) coming before
