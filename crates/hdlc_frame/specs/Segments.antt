-- How flags part a stream (RFC 1662, section 3.1: one flag may close a frame and open the next one, and two flags in
-- a row hold an empty frame, which is no error).
use Rattle.std.specs.Prelude.{ℕ, ◌==◌, Bool, true, false, List, [], ◌∷◌, drop, Option, Some, None}
use Rattle.std.specs.List.{filter, slice_split}
use Rattle.hdlc_frame.specs.declared.octets.TheConstants.{FLAG}

abbrev pub is_flag : ℕ → Bool
is_flag octet = octet == FLAG

abbrev pub has_octets : List ℕ → Bool
has_octets [] = false
has_octets (octet ∷ text) = true

abbrev pub but_last : {X : Type 0} → List X → List X
but_last [] = []
but_last (x ∷ []) = []
but_last (x ∷ y ∷ ys) = x ∷ but_last (y ∷ ys)

abbrev pub last_of : {X : Type 0} → List X → Option X
last_of [] = None
last_of (x ∷ []) = Some x
last_of (x ∷ y ∷ ys) = last_of (y ∷ ys)

-- what stands behind a flag, up to the next flag or the end, for each flag in order
unfoldable pub texts_behind_flags : List ℕ → List (List ℕ)
texts_behind_flags stream = drop 1 (slice_split is_flag stream)

-- The segments of a stream: the texts between two consecutive flags, but for the empty ones. What stands before the
-- first flag and behind the last one is in none of them.
unfoldable pub segments : List ℕ → List (List ℕ)
segments stream = filter has_octets (but_last (texts_behind_flags stream))

-- what stands behind the last flag, where there is one
unfoldable pub open_text : List ℕ → Option (List ℕ)
open_text stream = last_of (texts_behind_flags stream)
