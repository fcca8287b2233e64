use Rattle.std.proofs.Common.{◌≡◌, ◌-◌, ◌≤◌, length, take}
use Rattle.frame_router.specs.Fates.{other_side}
use Rattle.frame_router.specs.Routed.{lane_from}
use Rattle.frame_router.proofs.text.FeedLemmas.{FeedsOn}
use Rattle.frame_router.proofs.text.running.feed_all.Given as goal

-- so many bytes were fed
abbrev pub invariant-segments : goal.invariant-segments
invariant-segments l = record {
  within : l.done ≤ length l.bytes;
  routes : l.router.routes ≡ l.fn.router.routes;
  across : lane_from l.router (other_side l.from) ≡ lane_from l.fn.router (other_side l.from);
  feeds : FeedsOn l.fn.router.routes l.from (lane_from l.fn.router l.from) (lane_from l.router l.from) (take l.done l.bytes);
}

abbrev pub decreases-segments : goal.decreases-segments
decreases-segments l = length l.bytes - l.done
