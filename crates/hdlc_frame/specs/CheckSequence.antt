-- The check sequence, bit by bit (RFC 1662, appendix C.3; the lowest bit of an octet goes first).
use Rattle.std.specs.Prelude.{ℕ, zero, suc, ◌/◌, ◌%◌, ◌==◌, List, [], ◌∷◌, if◌then◌else◌, bit_xor}
use Rattle.hdlc_frame.specs.declared.crc.TheConstants.{ALL_ONES, POLYNOMIAL}

-- the register after one bit
abbrev pub after_bit : ℕ → ℕ → ℕ
after_bit register bit =
    if bit_xor bit (register % 2) == 1 then bit_xor (register / 2) POLYNOMIAL else register / 2

-- the register after n bits of an octet, the lowest first
unfoldable pub after_bits : ℕ → ℕ → ℕ → ℕ
after_bits zero register octet = register
after_bits (suc n) register octet = after_bits n (after_bit register (octet % 2)) (octet / 2)

unfoldable pub after_octet : ℕ → ℕ → ℕ
after_octet register octet = after_bits 8 register octet

abbrev pub after_octets : ℕ → List ℕ → ℕ
after_octets register [] = register
after_octets register (octet ∷ octets) = after_octets (after_octet register octet) octets

-- begun with all ones, and turned over at the end
unfoldable pub check_sequence_of : List ℕ → ℕ
check_sequence_of octets = bit_xor (after_octets ALL_ONES octets) ALL_ONES
