use Rattle.std.proofs.Common.{◌≡◌, ◌+◌, ℕ, List, length}
use Rattle.std.specs.Prelude.{string_bytes}
use Rattle.frame_router.specs.Fates.{other_side}
use Rattle.frame_router.specs.Routed.{lane_from}
use Rattle.frame_router.proofs.text.DrainLemmas.{DrainsOn}
use Rattle.frame_router.proofs.text.running.drain.Given as goal

-- what was handed out so far
abbrev pub invariant-frames : goal.invariant-frames
invariant-frames l = record {
  routes : l.router.routes ≡ l.fn.router.routes;
  across : lane_from l.router l.to ≡ lane_from l.fn.router l.to;
  drains : (given : List (List ℕ)) × (length given + l.left ≡ l.count) × DrainsOn l.fn.router.routes (other_side l.to) l.to (lane_from l.fn.router (other_side l.to)) (lane_from l.router (other_side l.to)) (string_bytes l.fn.out) (string_bytes l.out) given;
}

abbrev pub decreases-frames : goal.decreases-frames
decreases-frames l = l.left
