-- What a segment carries: a frame, or the first fault that applies.
use Rattle.std.specs.Prelude.{◌≡◌, ℕ, zero, suc, ◌+◌, ◌-◌, ◌*◌, ◌/◌, ◌%◌, ◌^◌, ◌<◌, ◌≤◌, ◌==◌, nat_lt, Bool, false, not, List, [], ◌∷◌, ◌++◌, length, take, drop, map, if◌then◌else◌, Option, Some, None}
use Rattle.std.specs.Int.{from_le_bytes, w32}
use Rattle.std.specs.List.{flat_map}
use Rattle.std.specs.Option.{option_map}
use Rattle.hdlc_frame.specs.declared.found.Bad.{Bad}
use Rattle.hdlc_frame.specs.declared.found.Bad.TheVariants.{Escape, Long, Short, Check, Address}
use Rattle.hdlc_frame.specs.CheckSequence.{check_sequence_of}
use Rattle.hdlc_frame.specs.Content.{StandsFor, unescaped}
use Rattle.hdlc_frame.specs.Encoded.{with_check_sequence}
use Rattle.hdlc_frame.specs.Segments.{segments}

-- a frame, apart from where its payload lies
pub record FrameParts : Type 0 where
  pub address : ℕ
  pub control : ℕ
  pub payload : List ℕ

pub data Found : Type 0 where
  frame : FrameParts → Found
  fault : Bad → Found

-- A number in groups of seven bits, the lowest first. The lowest bit of an octet is 1 in the last one alone.
pub data SpellsNumber : List ℕ → ℕ → Type 0 where
  last : (octet number : ℕ) → number < 128 → octet ≡ number * 2 + 1 → SpellsNumber (octet ∷ []) number
  more :
      (octet group upper number : ℕ) (octets : List ℕ) → group < 128 → octet ≡ group * 2 → SpellsNumber octets upper →
      number ≡ group + 128 * upper → SpellsNumber (octet ∷ octets) number

-- an address: below 2^32, in at most five groups, and not always in the fewest
pub record SpellsAddress (octets : List ℕ) (address : ℕ) : Type 0 where
  pub spelled : SpellsNumber octets address
  pub groups : length octets ≤ 5
  pub below : address < 2 ^ 32

-- A text that carries a frame: address, control octet, payload and check sequence, within the limit.
pub record IsFrame (limit : ℕ) (text : List ℕ) (carried : FrameParts) : Type 0 where
  pub content : List ℕ
  pub spelling : List ℕ
  pub stands : StandsFor text content
  pub within : length content ≤ limit
  pub least : 6 ≤ length content
  pub address : SpellsAddress spelling carried.address
  pub is : content ≡ with_check_sequence (spelling ++ carried.control ∷ carried.payload)

-- The same by reading. At most n groups: the number, and what stands behind them.
unfoldable pub number_at : ℕ → List ℕ → Option (ℕ × List ℕ)
number_at zero octets = None
number_at (suc n) [] = None
number_at (suc n) (octet ∷ octets) =
    if octet % 2 == 1 then Some (octet / 2, octets) else
    option_map (λ read. (octet / 2 + 128 * read.0, read.1)) (number_at n octets)

abbrev pub framed : Option (ℕ × List ℕ) → Found
framed None = fault Address
framed (Some (address, [])) = fault Address
framed (Some (address, control ∷ payload)) =
    if nat_lt address (2 ^ 32) then frame (record { address = address; control = control; payload = payload }) else fault Address

-- a content without its check sequence
abbrev pub head_of : List ℕ → List ℕ
head_of content = take (length content - 4) content

abbrev pub is_checked : List ℕ → Bool
is_checked content = from_le_bytes w32 (drop (length content - 4) content) == check_sequence_of (head_of content)

-- the faults of a content, the first that applies
unfoldable pub found_in_content : ℕ → List ℕ → Found
found_in_content limit content =
    if nat_lt limit (length content) then fault Long else
    if nat_lt (length content) 6 then fault Short else
    if not (is_checked content) then fault Check else framed (number_at 5 (head_of content))

abbrev pub found_in_unescaped : ℕ → Option (List ℕ) → Found
found_in_unescaped limit None = fault Escape
found_in_unescaped limit (Some content) = found_in_content limit content

abbrev pub found_in : ℕ → List ℕ → Found
found_in limit text = found_in_unescaped limit (unescaped false text)

-- What is found in a stream: for each of its segments a frame or a fault, in order.
unfoldable pub found : ℕ → List ℕ → List Found
found limit stream = map (found_in limit) (segments stream)

abbrev pub frames_in : Found → List FrameParts
frames_in (frame carried) = carried ∷ []
frames_in (fault bad) = []

abbrev pub faults_in : Found → List Bad
faults_in (frame carried) = []
faults_in (fault bad) = bad ∷ []

-- the valid frames of a stream, in order
abbrev pub valid_frames : ℕ → List ℕ → List FrameParts
valid_frames limit stream = flat_map frames_in (found limit stream)

abbrev pub faults_of : ℕ → List ℕ → List Bad
faults_of limit stream = flat_map faults_in (found limit stream)
