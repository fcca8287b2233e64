-- What a pump took from its source, and what it wrote.
use Rattle.std.specs.Prelude.{◌≡◌, ◌⊎◌, ℕ, ◌<◌, ◌≤◌, true, List, [], ◌∷◌, ◌++◌, length, map, Option}
use Rattle.std.specs.Io.KnownBytes.{Appends, Consumes, IsAtEnd}
use Rattle.std.specs.List.{flat_map}
use Rattle.hdlc_frame.specs.Found.{FrameParts, found}
use Rattle.hdlc_frame.specs.Found.Found.{frame}
use Rattle.link_io.specs.declared.why.Why.{Why}
use Rattle.link_io.specs.declared.why.Why.TheVariants.{Settled, Source, InputLimit}
use Rattle.frame_router.specs.declared.port.Port.{Port}
use Rattle.frame_router.specs.declared.pumping.Pumped.{Pumped}
use Rattle.frame_router.specs.declared.routes.Route.{Route}
use Rattle.frame_router.specs.declared.tally.Tally.{Tally}
use Rattle.frame_router.specs.Fates.{frame_bytes, passed, passes}
use Rattle.frame_router.specs.Routed.{Arrival, tally_of}

-- the frames of a stream that pass, as they go on, one behind the other
abbrev pub wire_of : List Route → Port → List ℕ → List ℕ
wire_of routes from stream = flat_map frame_bytes (passed routes from stream)

abbrev pub all_kept : List FrameParts → List Arrival
all_kept frames = map (λ f. record { arrived = f; is_kept = true }) frames

-- how the segments of a stream are counted where each frame that passes is kept
abbrev pub full_tally : List Route → Port → List ℕ → Tally
full_tally routes from stream = tally_of routes from stream (all_kept (passed routes from stream))

-- of these bytes all frames that pass were written, and all segments were counted
pub record PumpsAll (routes : List Route) (from : Port) (bytes : List ℕ) (old new : Option (List ℕ)) (tally : Tally) : Type 0 where
  pub wrote : Appends old new (wire_of routes from bytes)
  pub counts : tally ≡ full_tally routes from bytes

-- It stopped at the one segment that ends with `next`, a frame that passes and couldn't go on; or behind all bytes.
abbrev pub StopsAt : List Route → Port → List ℕ → List ℕ → List ℕ → Type 0
StopsAt routes from front next behind =
    ((next ≡ []) × (behind ≡ [])) ⊎ ((f : FrameParts) × (passes routes from f ≡ true) × (found 8192 (front ++ next) ≡ found 8192 front ++ frame f ∷ []))

-- It stopped at a frame of these bytes, or behind all of them: of the bytes before it all frames that pass were written and all
-- segments were counted, and of this frame a part was written. Behind it came less than one read brings, so no frame waits for another read.
pub record PumpsPart (routes : List Route) (from : Port) (bytes : List ℕ) (old new : Option (List ℕ)) (tally : Tally) : Type 0 where
  pub front : List ℕ
  pub next : List ℕ
  pub behind : List ℕ
  pub part : List ℕ
  pub unwritten : List ℕ
  pub begins : bytes ≡ (front ++ next) ++ behind
  pub stops : StopsAt routes from front next behind
  pub soon : length behind < 16384
  pub wrote : Appends old new (wire_of routes from front ++ part)
  pub within : wire_of routes from (front ++ next) ≡ (wire_of routes from front ++ part) ++ unwritten
  pub counts : tally ≡ full_tally routes from front

abbrev pub PumpsBy : Why → List Route → Port → List ℕ → Option (List ℕ) → Option (List ℕ) → Tally → Type 0
PumpsBy Settled routes from bytes old new tally = PumpsAll routes from bytes old new tally
PumpsBy Source routes from bytes old new tally = PumpsAll routes from bytes old new tally
PumpsBy InputLimit routes from bytes old new tally = PumpsAll routes from bytes old new tally
PumpsBy why routes from bytes old new tally = PumpsPart routes from bytes old new tally

-- What a pump did: the bytes that it took from its source, up to the limit, and what it wrote of them to its sink.
pub record Pumps (routes : List Route) (from : Port) (left_old left_new written_old written_new : Option (List ℕ)) (result : Pumped) : Type 0 where
  pub bytes : List ℕ
  pub taken : Consumes left_old left_new bytes
  pub read : result.read ≡ length bytes
  pub within : length bytes ≤ 67108864
  pub at_limit : result.why ≡ InputLimit → length bytes ≡ 67108864
  pub below : (result.why ≡ Settled) ⊎ (result.why ≡ Source) → length bytes < 67108864
  pub at_end : result.why ≡ Settled → IsAtEnd left_new
  pub wrote : PumpsBy result.why routes from bytes written_old written_new result.tally
