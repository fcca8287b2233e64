-- What a decoded segment that owns its memory says.
use Rattle.hdlc_frame.specs.declared.pieces.Decoded.{Decoded}
use Rattle.hdlc_frame.specs.declared.pieces.Decoded.TheVariants.{Frame, Bad}
use Rattle.hdlc_frame.specs.Found.{Found}
use Rattle.hdlc_frame.specs.Found.Found.{fault, frame}

abbrev pub decoded_found : Decoded → Found
decoded_found (Frame address control payload) = frame (record { address = address; control = control; payload = payload.items })
decoded_found (Bad bad) = fault bad
