-- What is told of a segment by places, and what stands there.
use Rattle.std.specs.Prelude.{ℕ, ◌+◌, ◌≤◌, List, [], ◌∷◌, length, take, drop, Option, Some, None}
use Rattle.hdlc_frame.specs.declared.told.Place.{Place}
use Rattle.hdlc_frame.specs.declared.told.Place.TheVariants.{Piece, Buffer}
use Rattle.hdlc_frame.specs.declared.told.PlacedFrame.{PlacedFrame}
use Rattle.hdlc_frame.specs.declared.told.Segment.{Segment}
use Rattle.hdlc_frame.specs.declared.told.Segment.TheVariants.{Frame, Bad}
use Rattle.hdlc_frame.specs.Found.{FrameParts, Found}
use Rattle.hdlc_frame.specs.Found.Found.{fault, frame}

abbrev pub bytes_at : Place → List ℕ → List ℕ → List ℕ
bytes_at Piece buffer piece = piece
bytes_at Buffer buffer piece = buffer

abbrev pub parts_at : PlacedFrame → List ℕ → List ℕ → FrameParts
parts_at f buffer piece =
    record { address = f.address; control = f.control; payload = take f.len (drop f.at (bytes_at f.place buffer piece)) }

abbrev pub segment_found : Segment → List ℕ → List ℕ → Found
segment_found (Frame f) buffer piece = frame (parts_at f buffer piece)
segment_found (Bad bad) buffer piece = fault bad

abbrev pub found_told : Option Segment → List ℕ → List ℕ → List Found
found_told None buffer piece = []
found_told (Some segment) buffer piece = segment_found segment buffer piece ∷ []

-- a payload lies inside the slice that is told
abbrev pub IsInside : Segment → List ℕ → List ℕ → Type 0
IsInside (Frame f) buffer piece = f.at + f.len ≤ length (bytes_at f.place buffer piece)
IsInside (Bad bad) buffer piece = Unit {0}

abbrev pub LiesWithin : Option Segment → List ℕ → List ℕ → Type 0
LiesWithin None buffer piece = Unit {0}
LiesWithin (Some segment) buffer piece = IsInside segment buffer piece
