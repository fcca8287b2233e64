-- The steps by which a direction counts a segment and a pump goes on or stops. What callers see of them stands in Routed and Pumped.
use Rattle.std.specs.Prelude.{ℕ, ◌<◌, ◌≤◌, Bool, true, false, List, [], ◌∷◌, ◌≡◌, ◌++◌, length, take, Option}
use Rattle.hdlc_frame.specs.Counted.{one_more}
use Rattle.hdlc_frame.specs.Found.{Found}
use Rattle.hdlc_frame.specs.Found.Found.{frame}
use Rattle.frame_router.specs.declared.fate.Fate.{Fate}
use Rattle.frame_router.specs.declared.fate.Fate.TheVariants.{Passes, Home, Lost, Other, Bad}
use Rattle.frame_router.specs.declared.tally.Tally.{Tally}
use Rattle.frame_router.specs.Fates.{frame_bytes}
use Rattle.std.specs.Io.KnownBytes.{Appends, Consumes}
use Rattle.frame_router.specs.declared.port.Port.{Port}
use Rattle.frame_router.specs.declared.routes.Route.{Route}
use Rattle.frame_router.specs.Gathered.{BatchView, HasCounted, IntakeView, tally_before}
use Rattle.frame_router.specs.Pumped.{PumpsPart, wire_of}
use Rattle.link_io.specs.declared.why.Why.TheVariants as why
use Rattle.frame_router.specs.declared.pumping.Pumped.{Pumped}
use Rattle.frame_router.specs.declared.pumping.Stopped.{Stopped}
use Rattle.frame_router.specs.declared.pumping.Stopped.TheVariants.{Sink, Memory}

-- with one more segment of this fate, which was kept or not
abbrev pub with_fate : Tally → Fate → Bool → Tally
with_fate tally Passes true = record tally { passed = one_more tally.passed }
with_fate tally Passes false = record tally { full = one_more tally.full }
with_fate tally Home kept = record tally { home = one_more tally.home }
with_fate tally Lost kept = record tally { lost = one_more tally.lost }
with_fate tally Other kept = record tally { other = one_more tally.other }
with_fate tally Bad kept = record tally { bad = one_more tally.bad }

-- what a segment of this fate puts behind the frames that wait, where there is room
abbrev pub admitted : Fate → Found → Bool → List (List ℕ)
admitted Passes (frame f) true = frame_bytes f ∷ []
admitted _ _ _ = []

-- the stream came and was counted, and each frame of it that passes was written
pub record IsPumped (routes : List Route) (from : Port) (intake : IntakeView) (first now : Option (List ℕ)) (stream : List ℕ) : Type 0 where
  pub counted : HasCounted routes from intake stream
  pub wrote : Appends first now (wire_of routes from stream)

-- what came from one side, and what the sink of the other holds
pub record PumpState : Type 0 where
  pub intake : IntakeView
  pub written : Option (List ℕ)

-- it went on over some bytes
abbrev pub PumpsOn : List Route → Port → PumpState → PumpState → List ℕ → Type 0
PumpsOn routes from old new bytes =
    (first : Option (List ℕ)) (stream : List ℕ) → IsPumped routes from old.intake first old.written stream →
    IsPumped routes from new.intake first new.written (stream ++ bytes)

-- it stopped at a frame in a piece, no longer than one read brings
abbrev pub StopsIn : List Route → Port → PumpState → Option (List ℕ) → List ℕ → Tally → Type 0
StopsIn routes from old written piece tally =
    length piece ≤ 16384 → (first : Option (List ℕ)) (stream : List ℕ) → IsPumped routes from old.intake first old.written stream →
    PumpsPart routes from (stream ++ piece) first written tally

-- of a batch so many bytes were written, and the count is that before the frame with the next byte
pub record WritesPart (old new : Option (List ℕ)) (batch : BatchView) (all tally : Tally) : Type 0 where
  pub count : ℕ
  pub within : count < length batch.bytes
  pub wrote : Appends old new (take count batch.bytes)
  pub counts : tally ≡ tally_before batch.marks count all

-- so many bytes were taken of a source, and pumped
pub record HasTaken (routes : List Route) (from : Port) (intake : IntakeView) (left_old left_new first now : Option (List ℕ)) (total : ℕ) : Type 0 where
  pub bytes : List ℕ
  pub taken : Consumes left_old left_new bytes
  pub count : total ≡ length bytes
  pub pumped : IsPumped routes from intake first now bytes

-- how the segments before the frame were counted
abbrev pub tally_in : Stopped → Tally
tally_in (Sink tally) = tally
tally_in (Memory tally) = tally

abbrev pub IsSinkStop : Stopped → Type 0
IsSinkStop (Sink tally) = Unit {0}
IsSinkStop (Memory tally) = ⊥

abbrev pub stopped_pump : Stopped → ℕ → Pumped
stopped_pump (Sink tally) read = record { why = why.Sink; tally = tally; read = read }
stopped_pump (Memory tally) read = record { why = why.Memory; tally = tally; read = read }
