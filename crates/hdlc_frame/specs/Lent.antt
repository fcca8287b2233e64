-- What the lent results of a decoder say.
use Rattle.std.specs.Prelude.{List, [], ◌∷◌, Option, Some, None}
use Rattle.hdlc_frame.specs.declared.found.Frame.{Frame}
use Rattle.hdlc_frame.specs.declared.found.Got.{Got}
use Rattle.hdlc_frame.specs.declared.found.Got.TheVariants.{Frame as GotFrame, Bad as GotBad}
use Rattle.hdlc_frame.specs.Found.{FrameParts, Found}
use Rattle.hdlc_frame.specs.Found.Found.{fault, frame}

abbrev pub parts_of : Frame → FrameParts
parts_of lent = record { address = lent.address; control = lent.control; payload = lent.payload.now }

abbrev pub found_of : Got → Found
found_of (GotFrame lent) = frame (parts_of lent)
found_of (GotBad bad) = fault bad

abbrev pub found_in_got : Option Got → List Found
found_in_got None = []
found_in_got (Some got) = found_of got ∷ []
