use Rattle.std.proofs.Common.{◌≡◌, ◌∙◌, ◌++◌, [], inl, inr, arith, refl, ap, sym}
use Rattle.std.specs.Prelude.{string_bytes}
use Rattle.std.specs.Option.{option_to_list}
use Rattle.frame_router.specs.Fates.{other_side}
use Rattle.frame_router.specs.Routed.{lane_from}
use Rattle.frame_router.proofs.text.DrainLemmas.{drains_follow, drains_next, drains_none, drains_stop, drains_tell, gives_on}
use Rattle.frame_router.proofs.text.running.drain.Goals as goal

pub frames-init : goal.frames-init
frames-init c = record {
  routes = refl;
  across = refl;
  drains = ([], omega arith, drains_none c.args.router.now.routes (other_side c.args.to) c.args.to (lane_from c.args.router.now (other_side c.args.to)) (string_bytes c.args.out.now));
}

pub frames-preserved : goal.frames-preserved
frames-preserved c =
    let before = c.frames.invariant in
    let from = other_side c.args.to in
    record {
      routes = c.next.ensures.routes_stay ∙ before.routes;
      across = c.next.ensures.across ∙ before.across;
      drains =
          drains_next c.frames.router.routes c.next.new.self.routes c.args.router.now.routes from c.args.to (lane_from c.args.router.now from) (lane_from c.frames.router from) (lane_from c.next.new.self from)
          (string_bytes c.args.out.now) (string_bytes c.frames.out) (string_bytes c.push_frame.new.out) c.next.result c.in-Some.frame c.as_slice.result.now c.args.count c.frames.left
          (omega (arith, c.frames-test.true)) before.drains before.routes c.next.ensures.routes_stay c.in-Some.is c.next.ensures.front c.next.ensures.given c.as_slice.ensures c.in_ok-push_frame.ensures;
    }

pub frames-preserved-in_ok-push_frame : goal.frames-preserved-in_ok-push_frame
frames-preserved-in_ok-push_frame c =
    let before = c.frames.invariant in
    let from = other_side c.args.to in
    record {
      routes = c.next.ensures.routes_stay ∙ before.routes;
      across = c.next.ensures.across ∙ before.across;
      drains =
          drains_next c.frames.router.routes c.next.new.self.routes c.args.router.now.routes from c.args.to (lane_from c.args.router.now from) (lane_from c.frames.router from) (lane_from c.next.new.self from)
          (string_bytes c.args.out.now) (string_bytes c.frames.out) (string_bytes c.push_frame.new.out) c.next.result c.in-Some.frame c.as_slice.result.now c.args.count c.frames.left
          (omega (arith, c.frames-test.true)) before.drains before.routes c.next.ensures.routes_stay c.in-Some.is c.next.ensures.front c.next.ensures.given c.as_slice.ensures c.in_ok-push_frame.ensures;
    }

pub returns-in_default-clause-follows : goal.returns-in_default-clause-follows
returns-in_default-clause-follows c flow h =
    let before = c.frames.invariant in
    let routes = c.args.router.now.routes in
    let from = other_side c.args.to in
    let old = lane_from c.args.router.now from in
    let now = lane_from c.frames.router from in
    let new = lane_from c.next.new.self from in
    let none : option_to_list c.next.result ≡ [] = ap option_to_list c.in_default.is in
    let same : now.waiting ≡ new.waiting = c.next.ensures.front ∙ ap (λ l. l ++ new.waiting) none in
    let empty : now.waiting ≡ [] = c.next.ensures.none (rw c.in_default.is refl) in
    let drains = drains_stop routes from c.args.to old now new (string_bytes c.args.out.now) (string_bytes c.frames.out) before.drains.0 before.drains.2 same
    (gives_on c.frames.router.routes c.next.new.self.routes routes from now new c.next.result [] before.routes c.next.ensures.routes_stay none c.next.ensures.given) in
    drains_follow routes from c.args.to old new (string_bytes c.args.out.now) (string_bytes c.frames.out) before.drains.0 c.args.count flow drains
    (inr (sym same ∙ empty, omega (arith, before.drains.1))) h

pub returns-in_default-clause-told : goal.returns-in_default-clause-told
returns-in_default-clause-told c flow h =
    let before = c.frames.invariant in
    let routes = c.args.router.now.routes in
    let from = other_side c.args.to in
    let old = lane_from c.args.router.now from in
    let now = lane_from c.frames.router from in
    let empty : now.waiting ≡ [] = c.next.ensures.none (rw c.in_default.is refl) in
    drains_tell routes from c.args.to old now (string_bytes c.args.out.now) (string_bytes c.frames.out) before.drains.0 c.args.count flow before.drains.2
    (inr (empty, omega (arith, before.drains.1))) h

pub returns-clause-follows : goal.returns-clause-follows
returns-clause-follows c flow h =
    let before = c.frames.invariant in
    let from = other_side c.args.to in
    drains_follow c.args.router.now.routes from c.args.to (lane_from c.args.router.now from) (lane_from c.frames.router from) (string_bytes c.args.out.now) (string_bytes c.frames.out)
    before.drains.0 c.args.count flow before.drains.2 (inl (omega (arith, before.drains.1, c.frames-test.false))) h

pub returns-clause-told : goal.returns-clause-told
returns-clause-told c flow h =
    let before = c.frames.invariant in
    let from = other_side c.args.to in
    drains_tell c.args.router.now.routes from c.args.to (lane_from c.args.router.now from) (lane_from c.frames.router from) (string_bytes c.args.out.now) (string_bytes c.frames.out)
    before.drains.0 c.args.count flow before.drains.2 (inl (omega (arith, before.drains.1, c.frames-test.false))) h
