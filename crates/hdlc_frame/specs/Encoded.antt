-- What the writer makes of a frame.
use Rattle.std.specs.Prelude.{ℕ, zero, suc, ◌+◌, ◌*◌, ◌/◌, ◌%◌, ◌==◌, List, [], ◌∷◌, ◌++◌, if◌then◌else◌, ◌||◌, bit_xor, nat_lt}
use Rattle.std.specs.Int.{to_le_bytes, w32}
use Rattle.std.specs.List.{flat_map}
use Rattle.hdlc_frame.specs.declared.octets.TheConstants.{ESCAPE, ESCAPE_BIT, FLAG, UI_CONTROL}
use Rattle.hdlc_frame.specs.CheckSequence.{check_sequence_of}

-- An address in groups of seven bits, the lowest group first, each in the upper bits of an octet whose lowest bit
-- says whether it is the last. The first number is how many groups there may be.
unfoldable pub address_groups : ℕ → ℕ → List ℕ
address_groups zero address = []
address_groups (suc n) address =
    if nat_lt address 128 then (address * 2 + 1) ∷ [] else (address % 128 * 2) ∷ address_groups n (address / 128)

-- an address below 2^32 takes at most five groups
abbrev pub shortest_address : ℕ → List ℕ
shortest_address address = address_groups 5 address

-- the check sequence goes last, its lowest octet first
abbrev pub with_check_sequence : List ℕ → List ℕ
with_check_sequence octets = octets ++ to_le_bytes w32 (check_sequence_of octets)

-- the content of an unnumbered information frame
unfoldable pub ui_content : ℕ → List ℕ → List ℕ
ui_content address payload = with_check_sequence (shortest_address address ++ UI_CONTROL ∷ payload)

abbrev pub text_of_octet : ℕ → List ℕ
text_of_octet octet =
    if (octet == FLAG) || (octet == ESCAPE) then ESCAPE ∷ bit_xor octet ESCAPE_BIT ∷ [] else octet ∷ []

unfoldable pub text_of : List ℕ → List ℕ
text_of content = flat_map text_of_octet content

-- a content between two flags
abbrev pub between_flags : List ℕ → List ℕ
between_flags content = FLAG ∷ [] ++ text_of content ++ FLAG ∷ []

-- what stands in the stream for an unnumbered information frame
abbrev pub encoded_ui : ℕ → List ℕ → List ℕ
encoded_ui address payload = between_flags (ui_content address payload)
