-- What a table of 256 registers gives, against the definition bit by bit.
use Rattle.std.proofs.Common.{◌≡◌, ℕ, ◌+◌, ◌*◌, ◌/◌, ◌%◌, ◌^◌, ◌<◌, ◌==◌, length, get_or, drop, add-one, zero-add, subst, zero, suc, List, [], ◌∷◌, ◌++◌, Bool, true, false, cond, refl, sym, ap, ◌∙◌, arith, bit_xor}
use Rattle.std.specs.Int.Bits.{xor_assoc, xor_self, xor_zero_r, xor_shifted}
use Rattle.std.proofs.lemmas.Nat.{xor_comm, xor_mod, xor_shr, shr_below, shr_split}
use Rattle.std.proofs.Math.Nat.{pow-suc}
use Rattle.std.proofs.lemmas.List.{at_drop_more}
use Rattle.hdlc_frame.specs.declared.crc.TheConstants.{POLYNOMIAL}
use Rattle.hdlc_frame.specs.CheckSequence.{after_bit, after_bits, after_octet, after_octets}

pub xor_swap : (a b c : ℕ) → bit_xor (bit_xor a b) c ≡ bit_xor (bit_xor a c) b
xor_swap a b c = xor_assoc a b c ∙ ap (λ x. bit_xor a x) (xor_comm b c) ∙ sym (xor_assoc a c b)

-- the test and the half of a register after a bit
chosen : Bool → ℕ → ℕ
chosen test half = cond test (bit_xor half POLYNOMIAL) half

chosen_xor : (test : Bool) (half other : ℕ) → chosen test (bit_xor half other) ≡ bit_xor (chosen test half) other
unfolding chosen
chosen_xor true half other = xor_swap half other POLYNOMIAL
chosen_xor false half other = refl

after_bit_is : (r b : ℕ) → after_bit r b ≡ chosen (bit_xor b (r % 2) == 1) (r / 2)
unfolding chosen
after_bit_is r b = refl

low_bit : (r b : ℕ) → bit_xor r b % 2 ≡ bit_xor (b % 2) (r % 2)
low_bit r b = xor_mod r b 1 ∙ xor_comm (r % 2) (b % 2)

-- a bit may be put into the register before
after_bit_merges : (r b : ℕ) → after_bit (bit_xor r b) 0 ≡ bit_xor (after_bit r (b % 2)) (b / 2)
after_bit_merges r b =
    after_bit_is (bit_xor r b) 0 ∙
    ap (λ x. chosen (x == 1) (bit_xor r b / 2)) (low_bit r b) ∙
    ap (λ x. chosen (bit_xor (b % 2) (r % 2) == 1) x) (xor_shr r b 1) ∙
    chosen_xor (bit_xor (b % 2) (r % 2) == 1) (r / 2) (b / 2) ∙
    ap (λ x. bit_xor x (b / 2)) (sym (after_bit_is r (b % 2)))

pub bits_merge : (n r b : ℕ) → b < 2 ^ n → after_bits n r b ≡ after_bits n (bit_xor r b) 0
unfolding after_bits
bits_merge zero r b h = let e : b ≡ 0 = omega arith in sym (xor_zero_r r) ∙ ap (λ x. bit_xor r x) (sym e)
bits_merge (suc n) r b h =
    let below : b / 2 < 2 ^ n = shr_below b n 1 (subst (λ x. b < 2 ^ x) (sym (add-one n)) h) in
    bits_merge n (after_bit r (b % 2)) (b / 2) below ∙ ap (λ x. after_bits n x 0) (sym (after_bit_merges r b))

twice_over : (p q c : ℕ) → bit_xor (bit_xor p c) (bit_xor q c) ≡ bit_xor p q
twice_over p q c =
    xor_assoc p c (bit_xor q c) ∙
    ap (λ x. bit_xor p x) (ap (λ x. bit_xor c x) (xor_comm q c) ∙ sym (xor_assoc c c q) ∙ ap (λ x. bit_xor x q) (xor_self c))

chosen_adds : (x y p q : ℕ) → x < 2 → y < 2 → chosen (bit_xor x y == 1) (bit_xor p q) ≡ bit_xor (chosen (x == 1) p) (chosen (y == 1) q)
unfolding chosen
chosen_adds zero zero p q hx hy = refl
chosen_adds zero (suc zero) p q hx hy = xor_assoc p q POLYNOMIAL
chosen_adds (suc zero) zero p q hx hy = xor_swap p q POLYNOMIAL
chosen_adds (suc zero) (suc zero) p q hx hy = sym (twice_over p q POLYNOMIAL)
chosen_adds (suc (suc x)) y p q hx hy = absurd (omega arith)
chosen_adds x (suc (suc y)) p q hx hy = absurd (omega arith)

-- what zeros make of two registers, bit by bit, they make of both
bit_adds : (a b : ℕ) → after_bit (bit_xor a b) 0 ≡ bit_xor (after_bit a 0) (after_bit b 0)
bit_adds a b =
    after_bit_is (bit_xor a b) 0 ∙
    ap (λ x. chosen (x == 1) (bit_xor a b / 2)) (xor_mod a b 1) ∙
    ap (λ x. chosen (bit_xor (a % 2) (b % 2) == 1) x) (xor_shr a b 1) ∙
    chosen_adds (a % 2) (b % 2) (a / 2) (b / 2) (omega arith) (omega arith) ∙
    ap (λ x. bit_xor x (chosen (b % 2 == 1) (b / 2))) (sym (after_bit_is a 0)) ∙
    ap (λ x. bit_xor (after_bit a 0) x) (sym (after_bit_is b 0))

pub zeros_add : (n a b : ℕ) → after_bits n (bit_xor a b) 0 ≡ bit_xor (after_bits n a 0) (after_bits n b 0)
unfolding after_bits
zeros_add zero a b = refl
zeros_add (suc n) a b = ap (λ x. after_bits n x 0) (bit_adds a b) ∙ zeros_add n (after_bit a 0) (after_bit b 0)

-- first some zeros, then others
pub zeros_then : (m n r : ℕ) → after_bits (m + n) r 0 ≡ after_bits n (after_bits m r 0) 0
unfolding after_bits
zeros_then zero n r = ap (λ k. after_bits k r 0) (zero-add n)
zeros_then (suc m) n r =
    let e : suc m + n ≡ suc (m + n) = omega arith in
    ap (λ k. after_bits k r 0) e ∙ zeros_then m n (after_bit r 0)

-- none make none
pub zeros_of_zero : (n : ℕ) → after_bits n 0 0 ≡ 0
unfolding after_bits
zeros_of_zero zero = refl
zeros_of_zero (suc n) = zeros_of_zero n

chosen_no : (half : ℕ) → chosen false half ≡ half
unfolding chosen
chosen_no half = refl

shifts : (half whole : ℕ) → whole ≡ half * 2 → after_bit whole 0 ≡ half
shifts half whole e =
    let low : whole % 2 ≡ 0 = omega arith in
    let up : whole / 2 ≡ half = omega arith in
    after_bit_is whole 0 ∙ ap (λ x. chosen (x == 1) (whole / 2)) low ∙ chosen_no (whole / 2) ∙ up

doubled : (n high : ℕ) → high * 2 ^ suc n ≡ high * 2 ^ n * 2
doubled n high = ap (λ x. high * x) (pow-suc 2 n) ∙ omega arith

-- n zeros only shift a register whose n lowest bits are zeros
pub zeros_shift : (n high : ℕ) → after_bits n (high * 2 ^ n) 0 ≡ high
unfolding after_bits
zeros_shift zero high = omega arith
zeros_shift (suc n) high = ap (λ x. after_bits n x 0) (shifts (high * 2 ^ n) _ (doubled n high)) ∙ zeros_shift n high

zero_of : (b : ℕ) → b < 256 → b / 256 ≡ 0
zero_of b h = omega arith

-- an octet at once: the upper bits of the register, and what the table has for the lowest eight with the octet
pub octet_at_once :
    (r b : ℕ) → b < 256 → after_octet r b ≡ bit_xor (r / 256) (after_bits 8 (bit_xor r b % 256) 0)
unfolding after_octet
octet_at_once r b h =
    let x = bit_xor r b in
    let upper : x / 256 ≡ r / 256 = xor_shr r b 8 ∙ ap (λ y. bit_xor (r / 256) y) (zero_of b h) ∙ xor_zero_r (r / 256) in
    bits_merge 8 r b h ∙
    ap (λ y. after_bits 8 y 0) (sym (xor_shifted (x / 256) 8 (x % 256) (omega arith) ∙ shr_split x 8)) ∙
    zeros_add 8 (x / 256 * 2 ^ 8) (x % 256) ∙
    ap (λ y. bit_xor y (after_bits 8 (x % 256) 0)) (zeros_shift 8 (x / 256) ∙ upper)

-- one octet more of a loop over octets
pub step :
    (r found i whole : ℕ) (octets : List ℕ) → i < length octets → get_or octets i 0 < 256 →
    found ≡ after_bits 8 (bit_xor r (get_or octets i 0) % 256) 0 → after_octets r (drop i octets) ≡ whole →
    after_octets (bit_xor (r / 256) found) (drop (i + 1) octets) ≡ whole
step r found i whole octets h below is so_far =
    let b = get_or octets i 0 in
    let e : bit_xor (r / 256) found ≡ after_octet r b =
    ap (λ x. bit_xor (r / 256) x) is ∙ sym (octet_at_once r b below)
    in
    ap (λ x. after_octets x (drop (i + 1) octets)) e ∙ sym (at_drop_more (after_octets r) octets i 0 h) ∙ so_far

pub octets-append : (r : ℕ) (xs ys : List ℕ) → after_octets r (xs ++ ys) ≡ after_octets (after_octets r xs) ys
octets-append r [] ys = refl
octets-append r (x ∷ xs) ys = octets-append (after_octet r x) xs ys
