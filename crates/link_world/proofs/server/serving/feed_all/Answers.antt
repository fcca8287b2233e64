use Rattle.std.proofs.Common.{◌≡◌, ℕ, ◌+◌, Err, arith, subst, sym, length-take, length-drop}
use Rattle.std.proofs.lemmas.List.{append-nil}
use Rattle.rpc_ids.specs.declared.method.Role.TheVariants.{Server as server_role}
use Rattle.rpc_journal.specs.declared.answers.StartRefused.TheVariants.{JournalFull}
use Rattle.rpc_schedule.specs.Serving.{Feeds}
use Rattle.rpc_schedule.proofs.InputLemmas.{feed_steps}
use Rattle.rpc_frames.proofs.Pieces.{piece_parts}
use Rattle.link_world.specs.server.Stops.{stopped_by}
use Rattle.link_world.proofs.server.OutLemmas.{goes_out_none, goes_out_then}
use Rattle.link_world.proofs.server.RestLemmas.{resting_fed, takes_fed, takes_none}
use Rattle.link_world.proofs.server.StopLemmas.{if_err_by, refused_within, stopped_full, unsettled_within}
use Rattle.link_world.proofs.server.serving.feed_all.Goals as goal

pub frames-init : goal.frames-init
frames-init g c = record {
  within = omega arith;
  rest = c.requires.rest;
  takes = takes_none g.T.Serves.rule (g.T.Serves.seen c.args.server.now);
  items = c.requires.items;
  out = goes_out_none server_role c.args.items.now.items c.args.wires.now;
  holds = λ st before. before;
  fed = λ s stands. subst (g.T.Serves.stands c.args.server.now) (sym (append-nil s)) stands;
}

pub settle-requires-clause-orderly : goal.settle-requires-clause-orderly
settle-requires-clause-orderly g c =
    let seen = g.T.Serves.seen in
    (feed_steps (seen c.frames.server) (seen c.feed.new.self) c.in_ok-count.count c.frames.invariant.rest.orderly c.in_ok-count.ensures.step).0

pub frames-preserved : goal.frames-preserved
frames-preserved g c =
    let seen = g.T.Serves.seen in
    let rule = g.T.Serves.rule in
    let count = c.in_ok-count.count in
    record {
      within = omega (arith, c.in_ok-count.ensures.fed.within, c.frames.invariant.within, length-take {A = ℕ}, length-drop {A = ℕ});
      rest = resting_fed rule (seen c.frames.server) (seen c.feed.new.self) (seen c.settle.new.server) count c.frames.invariant.rest c.in_ok-count.ensures.step c.in_ok-settle.ensures.ok;
      takes = takes_fed rule (seen c.args.server.now) (seen c.frames.server) (seen c.feed.new.self) (seen c.settle.new.server) count c.frames.invariant.rest c.frames.invariant.takes
          c.in_ok-count.ensures.step c.in_ok-settle.ensures.ok;
      items = c.in_ok-settle.ensures.items;
      out = goes_out_then server_role c.args.items.now.items c.frames.items.items c.settle.new.items.items c.args.wires.now c.frames.wires c.settle.new.wires
          c.frames.invariant.out c.in_ok-settle.ensures.out;
      holds = λ st before. c.in_ok-settle.ensures.holds st (c.frames.invariant.holds st before);
      fed = λ s stood. subst (g.T.Serves.stands c.settle.new.server) (piece_parts s c.args.frame.now c.frames.done count)
          (c.in_ok-settle.ensures.fed _ (c.in_ok-count.ensures.fed.fed _ (c.frames.invariant.fed s stood)));
    }

pub returns-in_err-count-clause-full : goal.returns-in_err-count-clause-full
returns-in_err-count-clause-full g c =
    let seen = g.T.Serves.seen in
    let arrived = g.met.T.Serves.arrived in
    let why = c.in_err-count.field-0.0 in
    let part = c.in_err-count.ensures.refused_fed in
    if_err_by c.from_residual.result (stopped_by why) _ c.from_residual.ensures (λ journal s stood.
    let full : why ≡ JournalFull = stopped_full why journal in
    let refuses : Feeds (seen c.frames.server) (Err JournalFull) (seen c.feed.new.self) =
    subst (λ r. Feeds (seen c.frames.server) (Err r) (seen c.feed.new.self)) full c.in_err-count.ensures.step in
    refused_within g.T.Serves.rule g.T.Serves.heard (seen c.args.server.now) (seen c.frames.server) s c.args.frame.now (c.frames.done + part.0)
    (arrived c.args.server.now s stood) c.requires.rest.accepts c.frames.invariant.takes (seen c.feed.new.self) refuses
    (arrived c.feed.new.self _ (subst (g.T.Serves.stands c.feed.new.self) (piece_parts s c.args.frame.now c.frames.done part.0)
    (part.1.fed _ (c.frames.invariant.fed s stood)))))

pub returns-in_err-settle-clause-full : goal.returns-in_err-settle-clause-full
returns-in_err-settle-clause-full g c =
    let seen = g.T.Serves.seen in
    let arrived = g.met.T.Serves.arrived in
    let count = c.in_ok-count.count in
    if_err_by c.from_residual-in_err-settle.result c.in_err-settle.field-0.0 _ c.from_residual-in_err-settle.ensures (λ journal s stood.
    unsettled_within g.T.Serves.rule g.T.Serves.heard (seen c.args.server.now) (seen c.frames.server) s c.args.frame.now (c.frames.done + count)
    (arrived c.args.server.now s stood) c.requires.rest.accepts c.frames.invariant.takes (seen c.feed.new.self) (seen c.settle.new.server) count c.frames.invariant.rest
    c.in_ok-count.ensures.step (c.in_err-settle.ensures.full journal)
    (arrived c.feed.new.self _ (subst (g.T.Serves.stands c.feed.new.self) (piece_parts s c.args.frame.now c.frames.done count)
    (c.in_ok-count.ensures.fed.fed _ (c.frames.invariant.fed s stood)))))
