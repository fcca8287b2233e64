-- A router, as the lines so far have made it.
use Rattle.std.specs.Prelude.{◌≡◌, ℕ, ◌≤◌, List, ◌++◌, length}
use Rattle.frame_router.specs.declared.port.Port.{Port}
use Rattle.frame_router.specs.declared.port.Port.TheVariants.{Left, Right}
use Rattle.frame_router.specs.declared.routes.Route.{Route}
use Rattle.frame_router.specs.Routed.{HasRouted, LaneView, RouterView}
use Rattle.frame_router.specs.declared.text.line.Step.{Step}
use Rattle.frame_router.specs.text.Flows.{Flow, Flows, no_flows}
use Rattle.frame_router.specs.text.Lines.{AreSteps}
use Rattle.frame_router.specs.text.Printed.{end_lines, printed}

-- what came to a direction and what waits there is what the flow says
pub record Follows (routes : List Route) (from : Port) (lane : LaneView) (flow : Flow) : Type 0 where
  pub given : List (List ℕ)
  pub routed : HasRouted routes from lane flow.stream flow.queue.arrivals given
  pub waits : lane.waiting ≡ flow.queue.waiting
  pub few : length flow.queue.waiting ≤ 256

-- both directions of a router with these routes
pub record FollowsBoth (routes : List Route) (router : RouterView) (flows : Flows) : Type 0 where
  pub same : router.routes ≡ routes
  pub left : Follows routes Left router.from_left flows.from_left
  pub right : Follows routes Right router.from_right flows.from_right

-- The lines were steps, and the router did them. What is printed of it at the end goes behind what was printed so far.
pub record RunsAll (routes : List Route) (lines : List (List ℕ)) (router : RouterView) (text_old text_new : List ℕ) : Type 0 where
  pub steps : List Step
  pub are : AreSteps lines steps
  pub flows : Flows
  pub follows : FollowsBoth routes router flows
  pub so_far : List ℕ
  pub wrote : text_new ≡ text_old ++ so_far
  pub whole : printed routes no_flows steps ≡ so_far ++ end_lines routes flows
