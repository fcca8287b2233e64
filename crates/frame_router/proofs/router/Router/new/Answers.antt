use Rattle.frame_router.specs.declared.port.Port.TheVariants.{Left, Right}
use Rattle.frame_router.specs.declared.port.Port.{Port}
use Rattle.frame_router.specs.Routed.{HasRouted, LaneView, lane_from}
use Rattle.frame_router.specs.declared.routes.Route.{Route}
use Rattle.std.proofs.Common.{List, []}
use Rattle.frame_router.proofs.router.Router.new.Goals as goal

both : (routes : List Route) (left right : LaneView) → ((rs : List Route) (from : Port) → HasRouted rs from left [] [] []) → ((rs : List Route) (from : Port) → HasRouted rs from right [] [] []) → (from : Port) → HasRouted routes from (lane_from (record { routes = routes; from_left = left; from_right = right }) from) [] [] []
both routes left right l r Left = l routes Left
both routes left right l r Right = r routes Right

pub returns-clause-routed : goal.returns-clause-routed
returns-clause-routed c = both c.args.routes _ _ c.in_ok-new.ensures.routed c.in_ok-new-2.ensures.routed
