-- The reader of an address, group by group.
use Rattle.std.proofs.Common.{◌≡◌, ◌≢◌, ℕ, ◌+◌, ◌-◌, ◌*◌, ◌/◌, ◌%◌, ◌^◌, ◌<◌, ◌≤◌, zero, suc, List, [], ◌∷◌, length, get_or, drop, Option, Some, None, refl, sym, ap, ◌∙◌, add-one, arith}
use Rattle.std.specs.Option.{option_map}
use Rattle.std.proofs.lemmas.Bool.{eq-eqb}
use Rattle.std.proofs.lemmas.List.{at_drop_more, drop_all}
use Rattle.std.proofs.Math.Nat.{mul_comm, pow-suc, pow-le-pow_right, mul-le-mul_left}
use Rattle.hdlc_frame.specs.Found.{number_at}
use Rattle.hdlc_frame.proofs.Contents.{neq-eqb}

-- a number that was read, behind the groups in front of it
abbrev pub behind : ℕ → ℕ → ℕ × List ℕ → ℕ × List ℕ
behind number worth read = (number + worth * read.0, read.1)

pub number_empty : (n : ℕ) → number_at n [] ≡ None
unfolding number_at
number_empty zero = refl
number_empty (suc n) = refl

pub number_stop : (octets : List ℕ) → number_at zero octets ≡ None
unfolding number_at
number_stop octets = refl

pub number_last : (n octet : ℕ) (octets : List ℕ) → octet % 2 ≡ 1 → number_at (suc n) (octet ∷ octets) ≡ Some (octet / 2, octets)
unfolding number_at
number_last n octet octets e = rw (eq-eqb (octet % 2) 1 e) refl

pub number_more :
    (n octet : ℕ) (octets : List ℕ) → octet % 2 ≢ 1 →
    number_at (suc n) (octet ∷ octets) ≡ option_map (behind (octet / 2) 128) (number_at n octets)
unfolding number_at
number_more n octet octets e = rw (neq-eqb (octet % 2) 1 e) refl

-- what was read of a number, and what its rest adds
pub record ReadTo (octets : List ℕ) (number worth i : ℕ) : Type 0 where
  pub power : worth ≡ 128 ^ i
  pub below : number < worth
  pub read : number_at 5 octets ≡ option_map (behind number worth) (number_at (5 - i) (drop i octets))

abbrev with_rest : List ℕ → ℕ → Option (ℕ × List ℕ)
with_rest rest number = Some (number, rest)

same : (read : Option (ℕ × List ℕ)) → read ≡ option_map (behind 0 1) read
same None = refl
same (Some (n, rest)) = let e : n ≡ 0 + 1 * n = omega arith in ap (with_rest rest) e

pub read_none : (octets : List ℕ) → ReadTo octets 0 1 0
read_none octets = record { power = refl; below = omega arith; read = same (number_at 5 octets) }

twice :
    (number worth group : ℕ) (read : Option (ℕ × List ℕ)) →
    option_map (behind number worth) (option_map (behind group 128) read) ≡
    option_map (behind (number + group * worth) (worth * 128)) read
twice number worth group None = refl
twice number worth group (Some (n, rest)) =
    let e : number + worth * (group + 128 * n) ≡ (number + group * worth) + (worth * 128) * n = grind arith in
    ap (with_rest rest) e

left_at : (octets : List ℕ) (i : ℕ) → i < 5 → i < length octets → number_at (5 - i) (drop i octets) ≡ number_at (suc (5 - (i + 1))) (get_or octets i 0 ∷ drop (i + 1) octets)
left_at octets i h below =
    let e : 5 - i ≡ suc (5 - (i + 1)) = omega arith in
    ap (λ n. number_at n (drop i octets)) e ∙ at_drop_more (number_at (suc (5 - (i + 1)))) octets i 0 below

pub group_below : (number worth group : ℕ) → number < worth → group < 128 → number + group * worth < worth * 128
group_below number worth group h g =
    let e : worth * group ≤ worth * 127 = mul-le-mul_left worth (omega arith) in
    let f : group * worth ≡ worth * group = mul_comm group worth in
    omega arith

pub read_more :
    (octets : List ℕ) (number worth i : ℕ) → i < 5 → i < length octets → get_or octets i 0 < 256 → get_or octets i 0 % 2 ≢ 1 → ReadTo octets number worth i →
    ReadTo octets (number + get_or octets i 0 / 2 * worth) (worth * 128) (i + 1)
read_more octets number worth i h within fits even r = let octet = get_or octets i 0 in record {
  power = ap (λ x. x * 128) r.power ∙ sym (pow-suc 128 i) ∙ ap (λ n. 128 ^ n) (sym (add-one i));
  below = group_below number worth (octet / 2) r.below (omega arith);
  read =
      r.read ∙ ap (option_map (behind number worth)) (left_at octets i h within ∙ number_more (5 - (i + 1)) octet (drop (i + 1) octets) even) ∙
      twice number worth (octet / 2) (number_at (5 - (i + 1)) (drop (i + 1) octets));
}

pub read_last :
    (octets : List ℕ) (number worth i : ℕ) → i < 5 → i < length octets → get_or octets i 0 % 2 ≡ 1 → ReadTo octets number worth i →
    Some (number + get_or octets i 0 / 2 * worth, drop (i + 1) octets) ≡ number_at 5 octets
read_last octets number worth i h within odd r =
    let octet = get_or octets i 0 in
    let e : number + octet / 2 * worth ≡ number + worth * (octet / 2) = grind arith in
    ap (with_rest (drop (i + 1) octets)) e ∙
    sym (r.read ∙ ap (option_map (behind number worth)) (left_at octets i h within ∙ number_last (5 - (i + 1)) octet (drop (i + 1) octets) odd))

pub read_end : (octets : List ℕ) (number worth i : ℕ) → length octets ≤ i → ReadTo octets number worth i → None ≡ number_at 5 octets
read_end octets number worth i h r =
    sym (r.read ∙ ap (option_map (behind number worth)) (ap (number_at (5 - i)) (drop_all i octets h) ∙ number_empty (5 - i)))

pub read_five : (octets : List ℕ) (number worth i : ℕ) → 5 ≤ i → ReadTo octets number worth i → None ≡ number_at 5 octets
read_five octets number worth i h r =
    let e : 5 - i ≡ 0 = omega arith in
    sym (r.read ∙ ap (option_map (behind number worth)) (ap (λ n. number_at n (drop i octets)) e ∙ number_stop (drop i octets)))

pub worth_most : (octets : List ℕ) (number worth i : ℕ) → i < 5 → ReadTo octets number worth i → worth ≤ 128 ^ 4
worth_most octets number worth i h r = rw r.power (pow-le-pow_right {n = 128} (omega arith) {i = i} {j = 4} (omega arith))
