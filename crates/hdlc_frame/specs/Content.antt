-- What the text between two flags stands for (RFC 1662, section 4.2).
use Rattle.std.specs.Prelude.{◌≡◌, ◌≢◌, ℕ, ◌==◌, Bool, true, false, ◌||◌, List, [], ◌∷◌, cond, bit_xor, Option, Some, None}
use Rattle.std.specs.Option.{option_map}
use Rattle.hdlc_frame.specs.declared.octets.TheConstants.{ESCAPE, ESCAPE_BIT, FLAG}

-- An octet that is no flag and no escape stands for itself. An escape and such an octet stand for the octet with
-- one bit turned over. Nothing else stands for anything.
pub data StandsFor : List ℕ → List ℕ → Type 0 where
  nothing : StandsFor [] []
  itself :
      (octet : ℕ) (text content : List ℕ) → octet ≢ FLAG → octet ≢ ESCAPE → StandsFor text content →
      StandsFor (octet ∷ text) (octet ∷ content)
  escaped :
      (escape octet meant : ℕ) (text content : List ℕ) → escape ≡ ESCAPE → octet ≢ FLAG → octet ≢ ESCAPE →
      meant ≡ bit_xor octet ESCAPE_BIT → StandsFor text content →
      StandsFor (escape ∷ octet ∷ text) (meant ∷ content)

-- The same by one walk over the text. The test says whether an escape stands in front of it.
unfoldable pub unescaped : Bool → List ℕ → Option (List ℕ)
unescaped false [] = Some []
unescaped true [] = None
unescaped false (octet ∷ text) =
    cond (octet == FLAG) None
    (cond (octet == ESCAPE) (unescaped true text) (option_map (λ content. octet ∷ content) (unescaped false text)))
unescaped true (octet ∷ text) =
    cond ((octet == FLAG) || (octet == ESCAPE)) None
    (option_map (λ content. bit_xor octet ESCAPE_BIT ∷ content) (unescaped false text))
