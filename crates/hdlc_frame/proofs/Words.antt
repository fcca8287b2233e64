-- Four and sixteen octets at once, against the definition bit by bit.
use Rattle.std.proofs.Common.{◌≡◌, ℕ, ◌+◌, ◌-◌, ◌*◌, ◌/◌, ◌%◌, ◌^◌, ◌<◌, zero, suc, List, [], ◌∷◌, ◌++◌, length, take, get_or, refl, sym, ap, ◌∙◌, zero-add, bit_xor, arith}
use Rattle.std.specs.Int.{from_le_bytes, w32}
use Rattle.std.specs.Int.Bits.{xor_shifted, xor_zero_r}
use Rattle.std.proofs.lemmas.List.{get_or_default, take_all, take_more}
use Rattle.std.proofs.lemmas.Nat.{pow-add, shr_split, xor_comm}
use Rattle.std.proofs.Math.Nat.{div-div-eq-div-mul, pow-suc}
use Rattle.hdlc_frame.specs.CheckSequence.{after_bit, after_bits, after_octet, after_octets}
use Rattle.hdlc_frame.specs.Laws.{AreOctets}
use Rattle.hdlc_frame.proofs.Register.{bits_merge, octets-append, zeros_add, xor_swap, zeros_of_zero, zeros_shift, zeros_then}

-- the lowest octet of a register, and what is above it
octet_apart : (n r : ℕ) → after_bits (8 + n) r 0 ≡ bit_xor (after_bits n (r / 256) 0) (after_bits (8 + n) (r % 256) 0)
octet_apart n r =
    let high = r / 256 * 2 ^ 8 in
    ap (λ x. after_bits (8 + n) x 0) (sym (xor_shifted (r / 256) 8 (r % 256) (omega arith) ∙ shr_split r 8)) ∙
    zeros_add (8 + n) high (r % 256) ∙
    ap (λ x. bit_xor x (after_bits (8 + n) (r % 256) 0)) (zeros_then 8 n high ∙ ap (λ x. after_bits n x 0) (zeros_shift 8 (r / 256)))

twice : (p m : ℕ) → p * 2 * m ≡ 2 * (p * m)
twice p m = grind arith

-- some bits of an octet, then what stands above them
bits_then : (k n r b m : ℕ) → b < 2 ^ k → after_bits (k + n) r (b + 2 ^ k * m) ≡ after_bits n (after_bits k r b) m
unfolding after_bits
bits_then zero n r b m h =
    let e : b + 1 * m ≡ m = omega arith in ap (λ i. after_bits i r (b + 1 * m)) (zero-add n) ∙ ap (after_bits n r) e
bits_then (suc k) n r b m h =
    let count : suc k + n ≡ suc (k + n) = omega arith in
    let power : 2 ^ suc k ≡ 2 ^ k * 2 = pow-suc 2 k in
    let whole : 2 ^ suc k * m ≡ 2 * (2 ^ k * m) = ap (λ p. p * m) power ∙ twice (2 ^ k) m in
    let low : (b + 2 ^ suc k * m) % 2 ≡ b % 2 = omega arith in
    let half : (b + 2 ^ suc k * m) / 2 ≡ b / 2 + 2 ^ k * m = omega arith in
    ap (λ i. after_bits i r (b + 2 ^ suc k * m)) count ∙ ap (λ x. after_bits (k + n) (after_bit r x) ((b + 2 ^ suc k * m) / 2)) low ∙
    ap (after_bits (k + n) (after_bit r (b % 2))) half ∙ bits_then k n (after_bit r (b % 2)) (b / 2) m (omega arith)

-- octets as one number, the first the lowest
abbrev pub number_of : List ℕ → ℕ
number_of [] = 0
number_of (x ∷ xs) = x + 2 ^ 8 * number_of xs

octets_at_once : (xs : List ℕ) (r : ℕ) → AreOctets xs → after_octets r xs ≡ after_bits (8 * length xs) r (number_of xs)
unfolding after_octet after_bits
octets_at_once [] r fit = refl
octets_at_once (x ∷ xs) r fit =
    let n : 8 + 8 * length xs ≡ 8 * suc (length xs) = omega arith in
    octets_at_once xs (after_octet r x) (λ k d below. fit (suc k) d (omega arith)) ∙
    sym (bits_then 8 (8 * length xs) r x (number_of xs) (fit zero 0 (omega arith))) ∙
    ap (λ n. after_bits n r (x + 2 ^ 8 * number_of xs)) n

-- the word of four octets
word_is : (a b c d : ℕ) → from_le_bytes w32 (a ∷ b ∷ c ∷ d ∷ []) ≡ number_of (a ∷ b ∷ c ∷ d ∷ [])
word_is a b c d = omega arith

word_fits : (a b c d : ℕ) → a < 256 → b < 256 → c < 256 → d < 256 → number_of (a ∷ b ∷ c ∷ d ∷ []) < 2 ^ 32
word_fits a b c d la lb lc ld = omega arith

pub four_at_once :
    (xs : List ℕ) (r : ℕ) → length xs ≡ 4 → AreOctets xs → after_octets r xs ≡ after_bits 32 (bit_xor r (from_le_bytes w32 xs)) 0
four_at_once (a ∷ b ∷ c ∷ d ∷ []) r len fit =
    let xs = a ∷ b ∷ c ∷ d ∷ [] in
    let low : number_of xs < 2 ^ 32 =
    word_fits a b c d (fit 0 0 (omega arith)) (fit 1 0 (omega arith)) (fit 2 0 (omega arith)) (fit 3 0 (omega arith))
    in
    octets_at_once xs r fit ∙ bits_merge 32 r (number_of xs) low ∙
    ap (λ n. after_bits 32 (bit_xor r n) 0) (sym (word_is a b c d))
four_at_once [] r len fit = absurd (omega arith)
four_at_once (a ∷ []) r len fit = absurd (omega arith)
four_at_once (a ∷ b ∷ []) r len fit = absurd (omega arith)
four_at_once (a ∷ b ∷ c ∷ []) r len fit = absurd (omega arith)
four_at_once (a ∷ b ∷ c ∷ d ∷ e ∷ xs) r len fit = absurd (omega arith)

-- what zeros make of the upper octets of a word, as far as i of them
pub upper_none : (lane word : ℕ) → word < 2 ^ 32 → 0 ≡ after_bits (8 * (lane + 0)) (word / 2 ^ (8 * (4 - 0))) 0
upper_none lane word h =
    let none : word / 2 ^ 32 ≡ 0 = omega arith in
    sym (ap (λ x. after_bits (8 * (lane + 0)) x 0) none ∙ zeros_of_zero (8 * (lane + 0)))

pub upper_more :
    (lane word i sum found : ℕ) → i < 4 → sum ≡ after_bits (8 * (lane + i)) (word / 2 ^ (8 * (4 - i))) 0 →
    found ≡ after_bits (8 * (lane + i + 1)) (word / 2 ^ (8 * (3 - i)) % 256) 0 →
    bit_xor sum found ≡ after_bits (8 * (lane + (i + 1))) (word / 2 ^ (8 * (4 - (i + 1)))) 0
upper_more lane word i sum found h so_far is =
    let n = 8 * (lane + i) in
    let x = word / 2 ^ (8 * (3 - i)) in
    let bits : 8 * (3 - i) + 8 ≡ 8 * (4 - i) = omega arith in
    let zeros : 8 * (lane + i + 1) ≡ 8 + n = omega arith in
    let all : 8 + n ≡ 8 * (lane + (i + 1)) = omega arith in
    let left : 3 - i ≡ 4 - (i + 1) = omega arith in
    let high : x / 256 ≡ word / 2 ^ (8 * (4 - i)) =
    div-div-eq-div-mul word (2 ^ (8 * (3 - i))) 256 ∙ ap (λ p. word / p) (sym (pow-add 2 (8 * (3 - i)) 8)) ∙ ap (λ k. word / 2 ^ k) bits
    in
    ap (λ y. bit_xor y found) (so_far ∙ ap (λ y. after_bits n y 0) (sym high)) ∙
    ap (bit_xor (after_bits n (x / 256) 0)) (is ∙ ap (λ k. after_bits k (x % 256) 0) zeros) ∙ sym (octet_apart n x) ∙
    ap (λ k. after_bits k x 0) all ∙ ap (λ k. after_bits (8 * (lane + (i + 1))) (word / 2 ^ (8 * k)) 0) left

pub upper_all :
    (lane word i sum : ℕ) → i ≡ 4 → sum ≡ after_bits (8 * (lane + i)) (word / 2 ^ (8 * (4 - i))) 0 → sum ≡ after_bits (8 * (lane + 4)) word 0
upper_all lane word i sum e so_far =
    let whole : word / 1 ≡ word = omega arith in
    so_far ∙ ap (λ k. after_bits (8 * (lane + k)) (word / 2 ^ (8 * (4 - k))) 0) e ∙ ap (λ x. after_bits (8 * (lane + 4)) x 0) whole

pub are_octets : (xs : List ℕ) → ((i : ℕ) → get_or xs i 0 < 256) → AreOctets xs
are_octets xs fit k x below = rw (get_or_default xs k x 0 below) (fit k)

octet_merges : (r b : ℕ) → b < 256 → after_octet r b ≡ after_bits 8 (bit_xor r b) 0
unfolding after_octet
octet_merges r b below = bits_merge 8 r b below

-- what i of twelve octets make of a register of zeros, and then the zeros in the place of those behind them
pub ahead_none : (octets : List ℕ) → 0 ≡ after_bits (8 * (12 - 0)) (after_octets 0 (take 0 octets)) 0
ahead_none octets = sym (zeros_of_zero 96)

pub ahead_more :
    (octets : List ℕ) (i sum found : ℕ) → i < 12 → length octets ≡ 12 → get_or octets i 0 < 256 →
    sum ≡ after_bits (8 * (12 - i)) (after_octets 0 (take i octets)) 0 →
    found ≡ after_bits (8 * (11 - i + 1)) (get_or octets i 0) 0 →
    bit_xor sum found ≡ after_bits (8 * (12 - (i + 1))) (after_octets 0 (take (i + 1) octets)) 0
ahead_more octets i sum found h len below so_far is =
    let n = 8 * (12 - (i + 1)) in
    let old = after_octets 0 (take i octets) in
    let x = get_or octets i 0 in
    let all : 8 + n ≡ 8 * (12 - i) = omega arith in
    let same : 8 * (11 - i + 1) ≡ 8 * (12 - i) = omega arith in
    let inside : i < length octets = omega arith in
    ap (λ y. bit_xor y found) so_far ∙ ap (bit_xor (after_bits (8 * (12 - i)) old 0)) (is ∙ ap (λ k. after_bits k x 0) same) ∙
    sym (zeros_add (8 * (12 - i)) old x) ∙ ap (λ k. after_bits k (bit_xor old x) 0) (sym all) ∙
    zeros_then 8 n (bit_xor old x) ∙ ap (λ y. after_bits n y 0) (sym (octet_merges old x below)) ∙
    ap (λ y. after_bits n y 0) (sym (octets-append 0 (take i octets) (x ∷ []))) ∙
    ap (λ y. after_bits n (after_octets 0 y) 0) (sym (take_more octets i 0 inside))

pub ahead_all :
    (octets : List ℕ) (i sum : ℕ) → i ≡ 12 → length octets ≡ 12 →
    sum ≡ after_bits (8 * (12 - i)) (after_octets 0 (take i octets)) 0 → sum ≡ after_octets 0 octets
unfolding after_bits
ahead_all octets i sum e len so_far =
    so_far ∙ ap (λ k. after_bits (8 * (12 - k)) (after_octets 0 (take k octets)) 0) e ∙ ap (after_octets 0) (take_all 12 octets (omega arith))

octet_adds : (a b x : ℕ) → x < 256 → after_octet (bit_xor a b) x ≡ bit_xor (after_octet a x) (after_bits 8 b 0)
octet_adds a b x below =
    octet_merges (bit_xor a b) x below ∙ ap (λ y. after_bits 8 y 0) (xor_swap a b x) ∙ zeros_add 8 (bit_xor a x) b ∙
    ap (λ y. bit_xor y (after_bits 8 b 0)) (sym (octet_merges a x below))

-- what a part of a register comes to behind octets is what zeros make of it
octets_add :
    (xs : List ℕ) (a b : ℕ) → AreOctets xs →
    after_octets (bit_xor a b) xs ≡ bit_xor (after_octets a xs) (after_bits (8 * length xs) b 0)
unfolding after_bits
octets_add [] a b fit = refl
octets_add (x ∷ xs) a b fit =
    let n : 8 + 8 * length xs ≡ 8 * suc (length xs) = omega arith in
    ap (λ y. after_octets y xs) (octet_adds a b x (fit zero 0 (omega arith))) ∙
    octets_add xs (after_octet a x) (after_bits 8 b 0) (λ k d below. fit (suc k) d (omega arith)) ∙
    ap (bit_xor (after_octets (after_octet a x) xs)) (sym (zeros_then 8 (8 * length xs) b) ∙ ap (λ n. after_bits n b 0) n)

-- a word and twelve octets behind it: what the word leaves goes through the zeros of the others
pub sixteen_at_once :
    (xs ys : List ℕ) (r : ℕ) → length xs ≡ 4 → length ys ≡ 12 → AreOctets xs → AreOctets ys →
    after_octets r (xs ++ ys) ≡ bit_xor (after_octets 0 ys) (after_bits 128 (bit_xor r (from_le_bytes w32 xs)) 0)
sixteen_at_once xs ys r few more fit fits =
    let word = bit_xor r (from_le_bytes w32 xs) in
    let left = after_bits 32 word 0 in
    let alone : left ≡ bit_xor 0 left = sym (xor_comm 0 left ∙ xor_zero_r left) in
    octets-append r xs ys ∙ ap (λ x. after_octets x ys) (four_at_once xs r few fit ∙ alone) ∙ octets_add ys 0 left fits ∙
    ap (λ n. bit_xor (after_octets 0 ys) (after_bits (8 * n) left 0)) more ∙
    ap (bit_xor (after_octets 0 ys)) (sym (zeros_then 32 96 word))
