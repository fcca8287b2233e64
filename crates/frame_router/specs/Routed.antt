-- What one direction of a router has done with the stream that came.
use Rattle.std.specs.Prelude.{◌≡◌, ℕ, ◌≤◌, ◌<◌, nat_lt, Bool, true, false, not, List, [], ◌∷◌, ◌++◌, length, map, take, filter, count_by}
use Rattle.std.specs.Io.Iter.{u64_saturate}
use Rattle.std.specs.List.{flat_map}
use Rattle.hdlc_frame.specs.Found.{FrameParts, Found, found, frames_in}
use Rattle.hdlc_frame.specs.Found.Found.{frame}
use Rattle.hdlc_frame.specs.Machine.{HasRead, Reading}
use Rattle.frame_router.specs.declared.fate.Fate.{Fate}
use Rattle.frame_router.specs.declared.fate.Fate.TheVariants.{Home, Lost, Other, Bad}
use Rattle.frame_router.specs.declared.port.Port.{Port}
use Rattle.frame_router.specs.declared.port.Port.TheVariants.{Left, Right}
use Rattle.frame_router.specs.declared.routes.Route.{Route}
use Rattle.frame_router.specs.declared.tally.Tally.{Tally}
use Rattle.frame_router.specs.Fates.{fate_of, frame_bytes, passed, passes}

-- one direction: its decoder, the frames that wait for the other side, how its segments were counted, and whether memory
-- was wanting for a frame
pub record LaneView : Type 0 where
  pub reading : Reading
  pub waiting : List (List ℕ)
  pub tally : Tally
  pub failed : Bool

-- a frame that passed, and whether it was kept for the other side
pub record Arrival : Type 0 where
  pub arrived : FrameParts
  pub is_kept : Bool

abbrev pub is_dropped : Arrival → Bool
is_dropped a = not a.is_kept

-- the same fate
abbrev pub is_fate : Fate → Fate → Bool
is_fate Home Home = true
is_fate Lost Lost = true
is_fate Other Other = true
is_fate Bad Bad = true
is_fate _ _ = false

-- how many segments of a stream have this fate, as far as a count goes
abbrev pub count_of : Fate → List Route → Port → List ℕ → ℕ
count_of fate routes from stream = u64_saturate (count_by (λ one. is_fate fate (fate_of routes from one)) (found 8192 stream))

-- each segment of a stream is counted once
abbrev pub tally_of : List Route → Port → List ℕ → List Arrival → Tally
tally_of routes from stream arrivals = record {
  passed = u64_saturate (count_by (λ a. a.is_kept) arrivals);
  home = count_of Home routes from stream;
  lost = count_of Lost routes from stream;
  other = count_of Other routes from stream;
  bad = count_of Bad routes from stream;
  full = u64_saturate (count_by is_dropped arrivals);
}

-- The stream came, its passing frames are the arrivals, and what was given on and what waits are, in order, those of them
-- that were kept.
pub record HasRouted (routes : List Route) (from : Port) (lane : LaneView) (stream : List ℕ) (arrivals : List Arrival) (given : List (List ℕ)) : Type 0 where
  pub limit : lane.reading.limit ≡ 8192
  pub read : HasRead lane.reading stream
  pub passing : map (λ a. a.arrived) arrivals ≡ passed routes from stream
  pub kept : given ++ lane.waiting ≡ map (λ a. frame_bytes a.arrived) (filter (λ a. a.is_kept) arrivals)
  pub tally : lane.tally ≡ tally_of routes from stream arrivals

-- a frame that comes now is kept exactly where fewer than 256 wait
abbrev pub arriving : LaneView → FrameParts → Arrival
arriving lane f = record { arrived = f; is_kept = nat_lt (length lane.waiting) 256 }

-- What some bytes do: the direction has then routed them too. At most one segment ended in them, and so at most one frame
-- passed.
pub record RoutesMore (routes : List Route) (from : Port) (old new : LaneView) (bytes : List ℕ) : Type 0 where
  pub ended : List Found
  pub few : length ended ≤ 1
  pub finds :
      (stream : List ℕ) (arrivals : List Arrival) (given : List (List ℕ)) → HasRouted routes from old stream arrivals given →
      found 8192 (stream ++ bytes) ≡ found 8192 stream ++ ended
  pub more : List FrameParts
  pub one : length more ≤ 1
  pub passing : more ≡ filter (passes routes from) (flat_map frames_in ended)
  pub stands :
      (stream : List ℕ) (arrivals : List Arrival) (given : List (List ℕ)) → HasRouted routes from old stream arrivals given →
      HasRouted routes from new (stream ++ bytes) (arrivals ++ map (arriving old) more) given

-- The first segment that ends in a piece is a frame that passes.
pub record BringsFrame (routes : List Route) (from : Port) (old : LaneView) (piece : List ℕ) : Type 0 where
  pub next : List ℕ
  pub behind : List ℕ
  pub parts : piece ≡ next ++ behind
  pub carried : FrameParts
  pub passing : passes routes from carried ≡ true
  pub finds :
      (stream : List ℕ) → HasRead old.reading stream →
      found old.reading.limit (stream ++ next) ≡ found old.reading.limit stream ++ frame carried ∷ []

-- The bytes taken of a piece end with the flag that ends the first segment in it, or are the whole piece.
pub record StopsAtSegment (old : LaneView) (piece : List ℕ) (taken : ℕ) : Type 0 where
  pub none_before :
      (stream : List ℕ) → HasRead old.reading stream → (n : ℕ) → n < taken →
      found old.reading.limit (stream ++ take n piece) ≡ found old.reading.limit stream
  pub one_or_whole :
      (stream : List ℕ) → HasRead old.reading stream → taken < length piece →
      (one : Found) × (found old.reading.limit (stream ++ take taken piece) ≡ found old.reading.limit stream ++ one ∷ [])

-- the direction to which a side feeds, and the one from which it is given
pub record RouterView : Type 0 where
  pub routes : List Route
  pub from_left : LaneView
  pub from_right : LaneView

abbrev pub lane_from : RouterView → Port → LaneView
lane_from router Left = router.from_left
lane_from router Right = router.from_right
