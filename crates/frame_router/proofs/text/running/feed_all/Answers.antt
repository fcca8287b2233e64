use Rattle.std.proofs.Common.{ℕ, ◌∙◌, length, arith, length-take, length-drop, subst, take, drop, refl, List, ◌-◌}
use Rattle.frame_router.specs.declared.routes.Route.{Route}
use Rattle.frame_router.specs.Routed.{RoutesMore, lane_from}
use Rattle.frame_router.proofs.text.FeedLemmas.{feeds_all, feeds_begin, feeds_further}
use Rattle.frame_router.proofs.text.running.feed_all.Goals as goal

pub segments-init : goal.segments-init
segments-init c = record {
  within = omega arith;
  routes = refl;
  across = refl;
  feeds = feeds_begin c.args.router.now.routes c.args.from (lane_from c.args.router.now c.args.from) c.args.bytes.now;
}

pub segments-preserved : goal.segments-preserved
segments-preserved c =
    let before = c.segments.invariant in
    let bytes = c.args.bytes.now in
    let done = c.segments.done in
    let taken = c.in-Ok.taken in
    let old = lane_from c.segments.router c.args.from in
    let new = lane_from c.feed.new.self c.args.from in
    let piece = take taken (take (length bytes - done) (drop done bytes)) in
    record {
      within = omega (arith, c.in-Ok.ensures.taken, length-take {A = ℕ}, length-drop {A = ℕ});
      routes = c.in-Ok.ensures.routes_stay ∙ before.routes;
      across = c.in-Ok.ensures.across ∙ before.across;
      feeds =
          feeds_further c.args.router.now.routes c.args.from (lane_from c.args.router.now c.args.from) old new bytes done taken before.feeds
          (subst (λ (rs : List Route). RoutesMore rs c.args.from old new piece) before.routes c.in-Ok.ensures.routes);
    }

pub returns-clause-ok : goal.returns-clause-ok
returns-clause-ok c =
    feeds_all c.args.router.now.routes c.args.from (lane_from c.args.router.now c.args.from) (lane_from c.segments.router c.args.from) c.args.bytes.now c.segments.done
    (omega (arith, c.segments-test.false)) c.segments.invariant.feeds
