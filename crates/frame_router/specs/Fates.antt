-- What becomes of a segment that comes from one side of a router.
use Rattle.std.specs.Prelude.{ℕ, ◌==◌, Bool, true, false, List, Option, Some, None, if◌then◌else◌, filter}
use Rattle.hdlc_frame.specs.Encoded.{encoded_ui}
use Rattle.hdlc_frame.specs.Found.{Found, FrameParts, valid_frames}
use Rattle.hdlc_frame.specs.Found.Found.{frame, fault}
use Rattle.frame_router.specs.declared.fate.Fate.{Fate}
use Rattle.frame_router.specs.declared.fate.Fate.TheVariants.{Passes, Home, Lost, Other, Bad}
use Rattle.frame_router.specs.declared.port.Port.{Port}
use Rattle.frame_router.specs.declared.port.Port.TheVariants.{Left, Right}
use Rattle.frame_router.specs.declared.routes.Route.{Route}
use Rattle.frame_router.specs.Routes.{port_of}

-- the side across
abbrev pub other_side : Port → Port
other_side Left = Right
other_side Right = Left

-- of a frame by where its address lies and where it comes from: it passes to the other side, it is at home at its own,
-- or its address is known nowhere
abbrev pub fate_by : Port → Option Port → Fate
fate_by from None = Lost
fate_by Left (Some Left) = Home
fate_by Left (Some Right) = Passes
fate_by Right (Some Left) = Passes
fate_by Right (Some Right) = Home

-- of a segment: one with a fault is bad, and a frame with another control octet than 03 is for nobody here
abbrev pub fate_of : List Route → Port → Found → Fate
fate_of routes from (fault bad) = Bad
fate_of routes from (frame f) = if f.control == 0x03 then fate_by from (port_of routes f.address) else Other

abbrev pub is_passing : Fate → Bool
is_passing Passes = true
is_passing _ = false

abbrev pub passes : List Route → Port → FrameParts → Bool
passes routes from f = is_passing (fate_of routes from (frame f))

-- the frames of a stream from one side that pass to the other, in order
unfoldable pub passed : List Route → Port → List ℕ → List FrameParts
passed routes from stream = filter (passes routes from) (valid_frames 8192 stream)

-- a frame as it goes on: with the shortest spelling of its address
abbrev pub frame_bytes : FrameParts → List ℕ
frame_bytes f = encoded_ui f.address f.payload
