-- A router's step moves both directions as the step says.
use Rattle.std.proofs.Common.{◌≡◌, ℕ, List, [], ◌++◌, take, ap, sym, ◌∙◌, subst, append_assoc, arith}
use Rattle.std.proofs.lemmas.List.{take_all}
use Rattle.frame_router.specs.declared.port.Port.{Port}
use Rattle.frame_router.specs.declared.port.Port.TheVariants.{Left, Right}
use Rattle.frame_router.specs.declared.routes.Route.{Route}
use Rattle.frame_router.specs.declared.tally.Tally.{Tally}
use Rattle.frame_router.specs.Fates.{other_side}
use Rattle.frame_router.specs.Routed.{HasRouted, LaneView, RouterView, lane_from}
use Rattle.frame_router.specs.declared.text.line.Step.{Step}
use Rattle.frame_router.specs.declared.text.line.Step.TheVariants.{Feed, Drain}
use Rattle.frame_router.specs.text.Flows.{Flow, Flows, drained, fed, flow_from, no_flow, no_flows}
use Rattle.frame_router.specs.text.Following.{Follows, FollowsBoth}
use Rattle.frame_router.specs.text.Printed.{after_step, counted, end_lines, frame_lines, tally_line}

-- the direction from a side
pub follows_from : (routes : List Route) (router : RouterView) (flows : Flows) (from : Port) → FollowsBoth routes router flows →
    Follows routes from (lane_from router from) (flow_from from flows)
follows_from routes router flows Left both = both.left
follows_from routes router flows Right both = both.right

-- one direction went on, and the other stayed
pub both_after_feed : (routes : List Route) (old new : RouterView) (flows : Flows) (from : Port) (bytes : List ℕ) → FollowsBoth routes old flows → new.routes ≡ old.routes →
    lane_from new (other_side from) ≡ lane_from old (other_side from) → Follows routes from (lane_from new from) (fed routes from bytes (flow_from from flows)) →
    FollowsBoth routes new (after_step routes (Feed from bytes) flows)
both_after_feed routes old new flows Left bytes both same across one = record {
  same = same ∙ both.same;
  left = one;
  right = subst (λ lane. Follows routes Right lane flows.from_right) (sym across) both.right;
}
both_after_feed routes old new flows Right bytes both same across one = record {
  same = same ∙ both.same;
  left = subst (λ lane. Follows routes Left lane flows.from_left) (sym across) both.left;
  right = one;
}

pub both_after_drain : (routes : List Route) (old new : RouterView) (flows : Flows) (to : Port) (count : ℕ) → FollowsBoth routes old flows → new.routes ≡ old.routes →
    lane_from new to ≡ lane_from old to → Follows routes (other_side to) (lane_from new (other_side to)) (drained count (flow_from (other_side to) flows)) →
    FollowsBoth routes new (after_step routes (Drain to count) flows)
both_after_drain routes old new flows Left count both same across one = record {
  same = same ∙ both.same;
  left = subst (λ lane. Follows routes Left lane flows.from_left) (sym across) both.left;
  right = one;
}
both_after_drain routes old new flows Right count both same across one = record {
  same = same ∙ both.same;
  left = one;
  right = subst (λ lane. Follows routes Right lane flows.from_right) (sym across) both.right;
}

-- nothing came yet
pub both_start : (routes : List Route) (router : RouterView) → router.routes ≡ routes →
    ((from : Port) → HasRouted router.routes from (lane_from router from) [] [] []) → FollowsBoth routes router no_flows
both_start routes router same routed = record {
  same = same;
  left = start Left router.from_left (subst (λ rs. HasRouted rs Left router.from_left [] [] []) same (routed Left));
  right = start Right router.from_right (subst (λ rs. HasRouted rs Right router.from_right [] [] []) same (routed Right));
}
  where
    start : (from : Port) (lane : LaneView) → HasRouted routes from lane [] [] [] → Follows routes from lane no_flow
    start from lane h = record { given = []; routed = h; waits = h.kept; few = omega arith }

-- how the segments of a direction were counted
pub tally_told : (routes : List Route) (from : Port) (lane : LaneView) (flow : Flow) (tally : Tally) (text_old text_new : List ℕ) → Follows routes from lane flow →
    tally ≡ lane.tally → text_new ≡ text_old ++ tally_line from tally → text_new ≡ text_old ++ counted routes from flow
tally_told routes from lane flow tally text_old text_new h is wrote = wrote ∙ ap (λ t. text_old ++ tally_line from t) (is ∙ h.routed.tally)

-- all that wait are at most 256
pub all_waiting : (routes : List Route) (from : Port) (lane : LaneView) (flow : Flow) → Follows routes from lane flow → take 256 flow.queue.waiting ≡ flow.queue.waiting
all_waiting routes from lane flow h = take_all 256 flow.queue.waiting h.few

-- the four parts of the end, one behind the other
pub joined : (text a b c d whole : List ℕ) → whole ≡ (((text ++ a) ++ b) ++ c) ++ d → whole ≡ text ++ (a ++ (b ++ (c ++ d)))
joined text a b c d whole is =
    is
    ∙ (append_assoc ((text ++ a) ++ b) c d
    ∙ (append_assoc (text ++ a) b (c ++ d)
    ∙ append_assoc text a (b ++ (c ++ d))))

-- the same, over the routes that the router has
pub at_routes : (routes : List Route) (router : RouterView) (flows : Flows) → FollowsBoth routes router flows → FollowsBoth router.routes router flows
at_routes routes router flows h = subst (λ rs. FollowsBoth rs router flows) (sym h.same) h

pub on_step : (routes : List Route) (old new : RouterView) (flows : Flows) (step : Step) → FollowsBoth routes old flows →
    ((fs : Flows) → FollowsBoth old.routes old fs → FollowsBoth old.routes new (after_step old.routes step fs)) → FollowsBoth routes new (after_step routes step flows)
on_step routes old new flows step h goes =
    subst (λ rs. FollowsBoth rs new (after_step rs step flows)) h.same (goes flows (at_routes routes old flows h))

-- the step of a line, done
pub fed_step : (routes : List Route) (old new : RouterView) (flows : Flows) (from : Port) (fed_bytes bytes : List ℕ) (step : Step) → step ≡ Feed from bytes → fed_bytes ≡ bytes →
    FollowsBoth routes old flows → new.routes ≡ old.routes → lane_from new (other_side from) ≡ lane_from old (other_side from) →
    Follows routes from (lane_from new from) (fed routes from fed_bytes (flow_from from flows)) → FollowsBoth routes new (after_step routes step flows)
fed_step routes old new flows from fed_bytes bytes step is same both stays across one =
    subst (λ s. FollowsBoth routes new (after_step routes s flows)) (ap (Feed from) same ∙ sym is)
    (both_after_feed routes old new flows from fed_bytes both stays across one)

pub drained_step : (routes : List Route) (old new : RouterView) (flows : Flows) (to : Port) (count : ℕ) (step : Step) → step ≡ Drain to count →
    FollowsBoth routes old flows → new.routes ≡ old.routes → lane_from new to ≡ lane_from old to →
    Follows routes (other_side to) (lane_from new (other_side to)) (drained count (flow_from (other_side to) flows)) → FollowsBoth routes new (after_step routes step flows)
drained_step routes old new flows to count step is both stays across one =
    subst (λ s. FollowsBoth routes new (after_step routes s flows)) (sym is) (both_after_drain routes old new flows to count both stays across one)

-- the end: both sides are drained, and both directions counted
pub end_told : (r0 r1 r2 : RouterView) (flows : Flows) (t0 t1 t2 t3 t4 : List ℕ) (left right : Tally) → FollowsBoth r0.routes r0 flows →
    r1.routes ≡ r0.routes → lane_from r1 Left ≡ lane_from r0 Left →
    ((flow : Flow) → Follows r0.routes Right (lane_from r0 Right) flow → Follows r0.routes Right (lane_from r1 Right) (drained 256 flow)) →
    ((flow : Flow) → Follows r0.routes Right (lane_from r0 Right) flow → t1 ≡ t0 ++ frame_lines Left (take 256 flow.queue.waiting)) →
    r2.routes ≡ r1.routes → lane_from r2 Right ≡ lane_from r1 Right →
    ((flow : Flow) → Follows r1.routes Left (lane_from r1 Left) flow → Follows r1.routes Left (lane_from r2 Left) (drained 256 flow)) →
    ((flow : Flow) → Follows r1.routes Left (lane_from r1 Left) flow → t2 ≡ t1 ++ frame_lines Right (take 256 flow.queue.waiting)) →
    left ≡ (lane_from r2 Left).tally → t3 ≡ t2 ++ tally_line Left left → right ≡ (lane_from r2 Right).tally → t4 ≡ t3 ++ tally_line Right right →
    t4 ≡ t0 ++ end_lines r0.routes flows
end_told r0 r1 r2 flows t0 t1 t2 t3 t4 left right both same_1 across_1 drains_1 tells_1 same_2 across_2 drains_2 tells_2 left_is wrote_3 right_is wrote_4 =
    let flows_1 = after_step r0.routes (Drain Left 256) flows in
    let flows_2 = after_step r0.routes (Drain Right 256) flows_1 in
    let both_1 = both_after_drain r0.routes r0 r1 flows Left 256 both same_1 across_1 (drains_1 flows.from_right both.right) in
    let at_1 = at_routes r0.routes r1 flows_1 both_1 in
    let both_2 = both_after_drain r1.routes r1 r2 flows_1 Right 256 at_1 same_2 across_2 (drains_2 flows.from_left at_1.left) in
    let last = subst (λ rs. FollowsBoth rs r2 flows_2) same_1 both_2 in
    let a = frame_lines Left flows.from_right.queue.waiting in
    let b = frame_lines Right flows.from_left.queue.waiting in
    let c = counted r0.routes Left flows.from_left in
    let d = counted r0.routes Right flows.from_right in
    let first : t1 ≡ t0 ++ a =
    tells_1 flows.from_right both.right ∙ ap (λ l. t0 ++ frame_lines Left l) (all_waiting r0.routes Right r0.from_right flows.from_right both.right) in
    let second : t2 ≡ t1 ++ b =
    tells_2 flows.from_left at_1.left ∙ ap (λ l. t1 ++ frame_lines Right l) (all_waiting r0.routes Left r0.from_left flows.from_left both.left) in
    let third : t3 ≡ t2 ++ c = tally_told r0.routes Left r2.from_left flows_2.from_left left t2 t3 last.left left_is wrote_3 in
    let fourth : t4 ≡ t3 ++ d = tally_told r0.routes Right r2.from_right flows_2.from_right right t3 t4 last.right right_is wrote_4 in
    joined t0 a b c d t4 (fourth ∙ ap (λ t. t ++ d) (third ∙ ap (λ t. t ++ c) (second ∙ ap (λ t. t ++ b) first)))
