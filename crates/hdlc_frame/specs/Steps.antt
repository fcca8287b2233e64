-- The private steps of a decoder, each as what it makes of the state. No public contract cites them.
use Rattle.std.specs.Prelude.{◌≡◌, ◌≢◌, ◌⊎◌, ℕ, ◌+◌, ◌-◌, ◌<◌, ◌≤◌, ◌||◌, bit_xor, cond, nat_lt, Bool, true, false, List, [], ◌∷◌, ◌++◌, length, take, drop}
use Rattle.std.specs.List.{All}
use Rattle.std.specs.Option.{option_map}
use Rattle.hdlc_frame.specs.declared.closed.Closed.{Closed}
use Rattle.hdlc_frame.specs.declared.closed.Closed.TheVariants.{Faulty, Kept, Open, Whole}
use Rattle.hdlc_frame.specs.declared.found.Bad.TheVariants.{Escape, Long}
use Rattle.hdlc_frame.specs.declared.octets.TheConstants.{ESCAPE, ESCAPE_BIT, FLAG}
use Rattle.hdlc_frame.specs.declared.phase.Phase.{Phase}
use Rattle.hdlc_frame.specs.declared.phase.Phase.TheVariants.{Outside, Start, Plain, Escaped, Broken}
use Rattle.hdlc_frame.specs.declared.told.Place.{Place}
use Rattle.hdlc_frame.specs.declared.told.Segment.{Segment}
use Rattle.hdlc_frame.specs.declared.told.Segment.TheVariants as segment
use Rattle.hdlc_frame.specs.Content.{unescaped}
use Rattle.hdlc_frame.specs.Found.{Found, found, found_in_content}
use Rattle.hdlc_frame.specs.Found.Found.{fault, frame}
use Rattle.hdlc_frame.specs.Machine.{HasRead, Reading}

-- no flag and no escape among them
abbrev pub IsOrdinary : List ℕ → Type 0
IsOrdinary octets = All (λ octet. (octet ≢ FLAG) × (octet ≢ ESCAPE)) octets

-- more content, as far as the limit allows
abbrev pub keeping : Reading → List ℕ → Reading
keeping reading octets = record reading {
  content = take reading.limit (reading.content ++ octets);
  is_long = reading.is_long || nat_lt reading.limit (length reading.content + length octets);
}

abbrev pub begun : Reading → Reading
begun reading = record reading { phase = Plain; is_long = false; content = [] }

abbrev pub run_in : Phase → Reading → ℕ → List ℕ → Reading
run_in Outside reading octet octets = reading
run_in Start reading octet octets = keeping (begun reading) (octet ∷ octets)
run_in Plain reading octet octets = keeping reading (octet ∷ octets)
run_in Escaped reading octet octets =
    keeping (record (keeping reading (bit_xor octet ESCAPE_BIT ∷ [])) { phase = Plain }) octets
run_in Broken reading octet octets = reading

-- after octets that are ordinary
abbrev pub after_run : Reading → List ℕ → Reading
after_run reading [] = reading
after_run reading (octet ∷ octets) = run_in reading.phase reading octet octets

abbrev pub escape_in : Phase → Reading → Reading
escape_in Outside reading = reading
escape_in Start reading = record (begun reading) { phase = Escaped }
escape_in Plain reading = record reading { phase = Escaped }
escape_in Escaped reading = record reading { phase = Broken }
escape_in Broken reading = reading

abbrev pub after_escape : Reading → Reading
after_escape reading = escape_in reading.phase reading

-- what some bytes do: the decoder goes on to read them too, and what was found is found with the last of them
pub record Moves (old new : Reading) (bytes : List ℕ) (got : List Found) : Type 0 where
  pub limit : new.limit ≡ old.limit
  pub read : (stream : List ℕ) → HasRead old stream → HasRead new (stream ++ bytes)
  pub gives : (stream : List ℕ) → HasRead old stream → found old.limit (stream ++ bytes) ≡ found old.limit stream ++ got
  pub late :
      (stream : List ℕ) → HasRead old stream → (n : ℕ) → n < length bytes →
      found old.limit (stream ++ take n bytes) ≡ found old.limit stream

-- Bytes without a flag, what they add to a content, and whether an escape stands in front of them and behind, whatever
-- follows them.
pub record Unescapes (before : Bool) (bytes : List ℕ) (after : Bool) (old new : List ℕ) : Type 0 where
  pub more : List ℕ
  pub grown : new ≡ old ++ more
  pub few : length more ≤ length bytes
  pub no_flag : All (λ octet. octet ≢ FLAG) bytes
  pub told :
      (rest : List ℕ) → unescaped before (bytes ++ rest) ≡ option_map (λ content. more ++ content) (unescaped after rest)

-- the octet at which a text behind an escape ends: a flag, or an escape behind another
abbrev pub EndsText : ℕ → Phase → Type 0
EndsText octet phase = (octet ≡ FLAG) ⊎ ((octet ≡ ESCAPE) × (phase ≡ Escaped))

abbrev pub phase_in_text : Bool → Phase
phase_in_text true = Escaped
phase_in_text false = Plain

-- what is found in a segment that has just ended
abbrev pub closed_found : Reading → List ℕ → Closed → List Found
closed_found reading piece Open = []
closed_found reading piece (Faulty bad) = fault bad ∷ []
closed_found reading piece Kept = found_in_content reading.limit reading.content ∷ []
closed_found reading piece (Whole from to) = found_in_content reading.limit (take (to - from) (drop from piece)) ∷ []

-- how a segment stands that a flag ends
abbrev pub closed_by : Phase → Bool → Closed
closed_by Outside is_long = Open
closed_by Start is_long = Open
closed_by Plain is_long = cond is_long (Faulty Long) Kept
closed_by Escaped is_long = Faulty Escape
closed_by Broken is_long = Faulty Escape

-- a content that lies in the piece
abbrev pub IsWithin : List ℕ → Closed → Type 0
IsWithin piece (Whole from to) = (from ≤ to) × (to ≤ length piece)
IsWithin piece _ = Unit {0}

-- what was found in a content that ends at an offset: its payload stands in front of the check sequence's four octets
abbrev pub placed : Place → ℕ → Found → Segment
placed place end (frame f) =
    segment.Frame (record { address = f.address; control = f.control; place = place; at = end - 4 - length f.payload; len = length f.payload })
placed place end (fault bad) = segment.Bad bad
