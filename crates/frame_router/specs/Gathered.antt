-- What a pump gathers of a stream before it writes.
use Rattle.std.specs.Prelude.{◌≡◌, ℕ, nat_le, true, false, cond, List, [], ◌∷◌, ◌++◌, length, take, drop, fold}
use Rattle.hdlc_frame.specs.Found.{FrameParts, Found, found}
use Rattle.hdlc_frame.specs.Found.Found.{frame}
use Rattle.hdlc_frame.specs.Machine.{HasRead, Reading}
use Rattle.frame_router.specs.declared.batch.Mark.{Mark}
use Rattle.frame_router.specs.declared.fate.Fate.{Fate}
use Rattle.frame_router.specs.declared.fate.Fate.TheVariants.{Passes}
use Rattle.frame_router.specs.declared.port.Port.{Port}
use Rattle.frame_router.specs.declared.routes.Route.{Route}
use Rattle.frame_router.specs.declared.tally.Tally.{Tally}
use Rattle.frame_router.specs.Fates.{frame_bytes, passed, passes}
use Rattle.frame_router.specs.Pumped.{full_tally}
use Rattle.frame_router.specs.Routed.{BringsFrame, LaneView}

-- the bytes of frames that go out together, and for each frame where it begins and how the segments before it were counted
pub record BatchView : Type 0 where
  pub bytes : List ℕ
  pub marks : List Mark

abbrev pub no_batch : BatchView
no_batch = record { bytes = []; marks = [] }

-- one frame more
abbrev pub with_frame : List ℕ → Tally → BatchView → BatchView
with_frame bytes before batch = record {
  bytes = batch.bytes ++ bytes;
  marks = batch.marks ++ (record { start = length batch.bytes; before = before }) ∷ [];
}

-- a segment more: its frame goes out where it passes
abbrev pub with_passing : Fate → Found → Tally → BatchView → BatchView
with_passing Passes (frame f) before batch = with_frame (frame_bytes f) before batch
with_passing _ _ before batch = batch

-- the count at the last frame that begins at this place or before it, or else this one
abbrev pub later_mark : ℕ → Tally → Mark → Tally
later_mark at tally mark = cond (nat_le mark.start at) mark.before tally

abbrev pub tally_before : List Mark → ℕ → Tally → Tally
tally_before marks at all = fold (later_mark at) all marks

-- a decoder, and how the segments that it found were counted
pub record IntakeView : Type 0 where
  pub reading : Reading
  pub tally : Tally

-- a direction in which no frame waits
abbrev pub lane_of : IntakeView → LaneView
lane_of intake = record { reading = intake.reading; waiting = []; tally = intake.tally; failed = false }

-- the stream came, and each segment of it was counted
pub record HasCounted (routes : List Route) (from : Port) (intake : IntakeView) (stream : List ℕ) : Type 0 where
  pub limit : intake.reading.limit ≡ 8192
  pub read : HasRead intake.reading stream
  pub tally : intake.tally ≡ full_tally routes from stream

-- The frames that pass of a stream, behind those of its front that were written before, are in the batch, each with the count
-- of the segments before it.
pub data IsGathered : List Route → Port → List ℕ → List ℕ → BatchView → Type 0 where
  none_gathered : (routes : List Route) (from : Port) (sent : List ℕ) → IsGathered routes from sent sent no_batch
  frame_gathered : (routes : List Route) (from : Port) (sent stream next : List ℕ) (batch : BatchView) (f : FrameParts) → passes routes from f ≡ true →
      found 8192 (stream ++ next) ≡ found 8192 stream ++ frame f ∷ [] → IsGathered routes from sent stream batch →
      IsGathered routes from sent (stream ++ next) (with_frame (frame_bytes f) (full_tally routes from stream) batch)
  none_passed : (routes : List Route) (from : Port) (sent stream next : List ℕ) (batch : BatchView) → passed routes from (stream ++ next) ≡ passed routes from stream →
      IsGathered routes from sent stream batch → IsGathered routes from sent (stream ++ next) batch

-- the stream was counted, and what passes of it behind its front is in the batch
pub record HasGathered (routes : List Route) (from : Port) (intake : IntakeView) (batch : BatchView) (sent stream : List ℕ) : Type 0 where
  pub counted : HasCounted routes from intake stream
  pub gathered : IsGathered routes from sent stream batch

-- some bytes came
abbrev pub GathersOn : List Route → Port → IntakeView → BatchView → IntakeView → BatchView → List ℕ → Type 0
GathersOn routes from old batch_old new batch_new bytes =
    (sent stream : List ℕ) → HasGathered routes from old batch_old sent stream → HasGathered routes from new batch_new sent (stream ++ bytes)

-- of a piece so many bytes came, and then a frame for which there was no memory
pub record GathersPart (routes : List Route) (from : Port) (old : IntakeView) (batch_old : BatchView) (new : IntakeView) (batch_new : BatchView) (piece : List ℕ) : Type 0 where
  pub count : ℕ
  pub reached : IntakeView
  pub on : GathersOn routes from old batch_old reached batch_new (take count piece)
  pub brings : BringsFrame routes from (lane_of reached) (drop count piece)
  pub tally : new.tally ≡ reached.tally
