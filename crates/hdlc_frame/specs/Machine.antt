-- What a decoder's state says of the stream that it has read.
use Rattle.std.specs.Prelude.{◌≡◌, ℕ, nat_lt, Bool, true, false, List, [], ◌++◌, length, take, Option, Some, None}
use Rattle.std.specs.Option.{option_map}
use Rattle.hdlc_frame.specs.declared.machine.Machine.{Machine}
use Rattle.hdlc_frame.specs.declared.phase.Phase.{Phase}
use Rattle.hdlc_frame.specs.declared.phase.Phase.TheVariants.{Outside, Start, Escaped, Broken}
use Rattle.hdlc_frame.specs.Content.{unescaped}
use Rattle.hdlc_frame.specs.Segments.{has_octets, open_text}

-- a decoder: its limit, where it stands in a segment, the content of the segment up to the limit, and whether there was more
pub record Reading : Type 0 where
  pub limit : ℕ
  pub phase : Phase
  pub is_long : Bool
  pub content : List ℕ

-- a machine and the buffer that it is handed
abbrev pub reading_at : Machine → List ℕ → Reading
reading_at machine buffer =
    record { limit = length buffer; phase = machine.phase; is_long = machine.is_long; content = take machine.len buffer }

-- what the rest of a segment's text adds to its content
unfoldable pub content_behind : Phase → List ℕ → Option (List ℕ)
content_behind Escaped rest = unescaped true rest
content_behind Broken rest = None
content_behind _ rest = unescaped false rest

-- the text of the open segment, as far as it was read
pub record HasReadText (reading : Reading) (text : List ℕ) : Type 0 where
  pub whole : List ℕ
  pub told : (rest : List ℕ) → unescaped false (text ++ rest) ≡ option_map (λ content. whole ++ content) (content_behind reading.phase rest)
  pub content : reading.content ≡ take reading.limit whole
  pub long : reading.is_long ≡ nat_lt reading.limit (length whole)

abbrev pub HasReadIn : Phase → Reading → Option (List ℕ) → Type 0
HasReadIn Outside reading behind = behind ≡ None
HasReadIn Start reading behind = behind ≡ Some []
HasReadIn _ reading behind = (text : List ℕ) × (behind ≡ Some text) × (has_octets text ≡ true) × HasReadText reading text

-- A decoder keeps no stream. It has read any stream of which its state says the truth: that no flag came yet, that a
-- flag came last, or what the text behind the last flag stands for so far.
unfoldable pub HasRead : Reading → List ℕ → Type 0
HasRead reading stream = HasReadIn reading.phase reading (open_text stream)
