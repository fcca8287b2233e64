-- The laws of the definitions. Each is the contract of a public function of `laws`.
use Rattle.std.specs.Prelude.{◌≡◌, ◌↔◌, ℕ, ◌+◌, ◌<◌, ◌≤◌, false, List, [], ◌∷◌, ◌++◌, length, Option, Some, None}
use mathlib.Core.List.{IsPrefix}
use Rattle.std.specs.List.{All}
use Rattle.std.specs.Option.{option_map}
use Rattle.hdlc_frame.specs.declared.found.Bad.TheVariants.{Escape}
use Rattle.hdlc_frame.specs.declared.octets.TheConstants.{FLAG, UI_CONTROL}
use Rattle.hdlc_frame.specs.Content.{StandsFor}
use Rattle.hdlc_frame.specs.Encoded.{encoded_ui, text_of, ui_content}
use Rattle.hdlc_frame.specs.Found.{FrameParts, IsFrame, found, found_in}
use Rattle.hdlc_frame.specs.Found.Found.{fault, frame}
use Rattle.hdlc_frame.specs.Segments.{is_flag, open_text, segments}

abbrev pub AreOctets : List ℕ → Type 0
AreOctets octets = All (λ octet. octet < 256) octets

-- A text's frame is the one that it carries, and it has none but that. Escape is its fault exactly where it stands for
-- no content.
pub record IsFoundIn (limit : ℕ) (text : List ℕ) : Type 0 where
  pub carries : (carried : FrameParts) → (found_in limit text ≡ frame carried) ↔ IsFrame limit text carried
  pub escape : (found_in limit text ≡ fault Escape) ↔ ((content : List ℕ) → StandsFor text content → ⊥)

-- the segment that a flag ends, where this stands behind the last flag before it
abbrev pub ended : Option (List ℕ) → List (List ℕ)
ended None = []
ended (Some []) = []
ended (Some (octet ∷ text)) = (octet ∷ text) ∷ []

-- Octets without a flag end no segment; a flag ends the one that was open, and opens one.
pub record SegmentsGrow (stream : List ℕ) : Type 0 where
  pub text : (more : List ℕ) → All (λ octet. is_flag octet ≡ false) more → segments (stream ++ more) ≡ segments stream
  pub open_text_grows :
      (more : List ℕ) → All (λ octet. is_flag octet ≡ false) more →
      open_text (stream ++ more) ≡ option_map (λ text. text ++ more) (open_text stream)
  pub flag : segments (stream ++ FLAG ∷ []) ≡ segments stream ++ ended (open_text stream)
  pub flag_opens : open_text (stream ++ FLAG ∷ []) ≡ Some []

-- in more of a stream the same is found first
abbrev pub FindsOn : Type 0
FindsOn = (limit : ℕ) (stream more : List ℕ) → IsPrefix (found limit stream) (found limit (stream ++ more))

-- What the writer writes behind any stream is a flag and one segment, in which that very frame is found.
pub record IsReadBack (address : ℕ) (payload : List ℕ) : Type 0 where
  pub stands : StandsFor (text_of (ui_content address payload)) (ui_content address payload)
  pub most : length (ui_content address payload) ≤ length payload + 10
  pub segment :
      (stream : List ℕ) →
      segments (stream ++ encoded_ui address payload) ≡ segments (stream ++ FLAG ∷ []) ++ text_of (ui_content address payload) ∷ []
  pub found :
      (limit : ℕ) (stream : List ℕ) → length (ui_content address payload) ≤ limit →
      found limit (stream ++ encoded_ui address payload) ≡
      found limit (stream ++ FLAG ∷ []) ++ frame (record { address = address; control = UI_CONTROL; payload = payload }) ∷ []
