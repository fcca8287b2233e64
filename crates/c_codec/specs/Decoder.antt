-- What the numbers of a decoder for C stand for.
use Rattle.std.specs.Prelude.{ℕ, ◌==◌, if◌then◌else◌, not, Option, Some, None}
use Rattle.hdlc_frame.specs.declared.found.Bad.{Bad}
use Rattle.hdlc_frame.specs.declared.found.Bad.TheVariants.{Escape, Long, Short, Check, Address}
use Rattle.hdlc_frame.specs.declared.machine.Machine.{Machine}
use Rattle.hdlc_frame.specs.declared.phase.Phase.{Phase}
use Rattle.hdlc_frame.specs.declared.phase.Phase.TheVariants.{Outside, Start, Plain, Escaped, Broken}
use Rattle.hdlc_frame.specs.declared.told.Place.TheVariants.{Piece, Buffer}
use Rattle.hdlc_frame.specs.declared.told.Segment.{Segment}
use Rattle.hdlc_frame.specs.declared.told.Segment.TheVariants as segment
use Rattle.c_codec.specs.declared.decoder.KfDecoder.{KfDecoder}
use Rattle.c_codec.specs.declared.decoder.KfPushed.{KfPushed}

abbrev pub phase_at : ℕ → Phase
phase_at n =
    if n == 0 then Outside
    else if n == 1 then Start
    else if n == 2 then Plain
    else if n == 3 then Escaped
    else Broken

abbrev pub machine_at : KfDecoder → Machine
machine_at d = record { phase = phase_at d.phase; is_long = not (d.is_long == 0); len = d.len }

abbrev pub bad_at : ℕ → Bad
bad_at n =
    if n == 2 then Escape
    else if n == 3 then Long
    else if n == 4 then Short
    else if n == 5 then Check
    else Address

-- what is told of the segment that ended
abbrev pub segment_told : KfPushed → Option Segment
segment_told p =
    if p.kind == 0 then None
    else if p.kind == 1 then
    Some (segment.Frame (record {
      address = p.address;
      control = p.control;
      place = if p.in_piece then Piece else Buffer;
      at = p.payload_at;
      len = p.payload_len;
    }))
    else Some (segment.Bad (bad_at p.kind))
