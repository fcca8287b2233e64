-- Groups of seven bits, read one after another.
use Rattle.std.proofs.Common.{◌≡◌, ℕ, zero, suc, ◌+◌, ◌-◌, ◌*◌, ◌<◌, ◌≤◌, ◌^◌, ◌%◌, List, [], ◌∷◌, length, drop, get_or, Option, Some, None, option_map, option_and_then, refl, ap, sym, ◌∙◌, arith, add-one, lt-ltb, le-ltb, subst, inl, inr, ◌⊎◌, lit≤}
use Rattle.std.proofs.Math.Nat.{pow-suc, mul_assoc, mul_comm, mul-add, pow-le-pow_right, mod-eq_of_lt}
use Rattle.std.proofs.Math.ListN.{drop_of_length-le}
use Rattle.std.proofs.lemmas.Bool.{cases_lt}
use Rattle.std.proofs.lemmas.List.{drop_more}
use Rattle.std.proofs.lemmas.Nat.{mul-mod_first}
use Rattle.proto_wire.specs.Varint.{Number, groups_front, varint_front, within_64, below}

-- the number whose lowest groups have this value, and whose next group is number k
abbrev pub on_top : ℕ → ℕ → Number → Number
on_top value k r = record { value = value + 128 ^ k * r.value; rest = r.rest }

-- the varint whose first k groups have this value, and whose further groups were read
unfoldable pub finish : ℕ → ℕ → Option Number → Option Number
finish value k o = option_and_then within_64 (option_map (on_top value k) o)

pub finish_none : (v k : ℕ) → finish v k None ≡ None
unfolding finish
finish_none v k = refl

-- no further group is allowed
pub finish_full : (v k : ℕ) (bytes : List ℕ) → finish v k (groups_front 0 bytes) ≡ None
unfolding finish groups_front
finish_full v k bytes = refl

-- the bytes end inside the varint
pub finish_cut : (v k n : ℕ) → finish v k (groups_front n []) ≡ None
unfolding finish groups_front
finish_cut v k zero = refl
finish_cut v k (suc n) = refl

starts : (o : Option Number) → option_and_then within_64 (option_map (on_top 0 0) o) ≡ option_and_then within_64 o
starts None = refl
starts (Some r) =
    let e : 0 + 128 ^ 0 * r.value ≡ r.value = omega arith in
    ap (λ v. within_64 (record { value = v; rest = r.rest })) e

-- the varint of no groups yet
pub finish_start : (bytes : List ℕ) → finish 0 0 (groups_front 10 bytes) ≡ varint_front bytes
unfolding finish varint_front
finish_start bytes = starts (groups_front 10 bytes)

-- a group too many for 64 bits
pub finish_large : (v k : ℕ) (o : Option Number) → 2 ^ 64 ≤ v → finish v k o ≡ None
unfolding finish
finish_large v k None h = refl
finish_large v k (Some r) h = rw (le-ltb (v + 128 ^ k * r.value) (2 ^ 64) (omega arith)) refl

last_step : (v k n b : ℕ) (rest : List ℕ) → b < 128 → finish v k (groups_front (suc n) (b ∷ rest)) ≡ within_64 (record { value = v + 128 ^ k * b; rest = rest })
unfolding finish groups_front
last_step v k n b rest h = rw (lt-ltb b 128 h) refl

regroup : (v p g x : ℕ) → v + p * (g + 128 * x) ≡ v + g * p + p * 128 * x
regroup v p g x = omega (arith, mul-add p g (128 * x), mul_assoc p 128 x, mul_comm p g)

next_on_top : (v k g : ℕ) (o : Option Number) → option_and_then within_64 (option_map (on_top v k) (option_map (below g) o)) ≡ option_and_then within_64 (option_map (on_top (v + g * 128 ^ k) (k + 1)) o)
next_on_top v k g None = refl
next_on_top v k g (Some r) =
    let e : 128 ^ (k + 1) ≡ 128 ^ k * 128 = rw add-one (pow-suc 128 k) in
    ap (λ n. within_64 (record { value = n; rest = r.rest })) (regroup v (128 ^ k) g r.value ∙ ap (λ p. v + g * 128 ^ k + p * r.value) (sym e))

-- another group
pub more_step : (v k n b : ℕ) (rest : List ℕ) → 128 ≤ b → finish v k (groups_front (suc n) (b ∷ rest)) ≡ finish (v + (b - 128) * 128 ^ k) (k + 1) (groups_front n rest)
unfolding finish groups_front
more_step v k n b rest h = rw (le-ltb b 128 h) (next_on_top v k (b - 128) (groups_front n rest))

-- the last group, where the number fits
pub last_group : (v k n b : ℕ) (rest : List ℕ) → b < 128 → v + b * 128 ^ k < 2 ^ 64 → finish v k (groups_front (suc n) (b ∷ rest)) ≡ Some (record { value = v + b * 128 ^ k; rest = rest })
last_group v k n b rest small fits =
    last_step v k n b rest small
    ∙ (ap (λ p. within_64 (record { value = v + p; rest = rest })) (mul_comm (128 ^ k) b)
    ∙ (rw (lt-ltb (v + b * 128 ^ k) (2 ^ 64) fits) refl))

large_by : (v k n b : ℕ) (rest : List ℕ) → 2 ^ 64 ≤ v + (b % 128) * 128 ^ k → b < 256 → (b < 128) ⊎ (128 ≤ b) → finish v k (groups_front (suc n) (b ∷ rest)) ≡ None
large_by v k n b rest large byte (inl small) =
    let e : b % 128 ≡ b = omega arith in
    last_step v k n b rest small
    ∙ (ap (λ p. within_64 (record { value = v + p; rest = rest })) (mul_comm (128 ^ k) b)
    ∙ (rw (le-ltb (v + b * 128 ^ k) (2 ^ 64) (subst (λ g. 2 ^ 64 ≤ v + g * 128 ^ k) e large)) refl))
large_by v k n b rest large byte (inr big) =
    let e : b % 128 ≡ b - 128 = omega arith in
    more_step v k n b rest big ∙ finish_large _ _ _ (subst (λ g. 2 ^ 64 ≤ v + g * 128 ^ k) e large)

-- a group that doesn't fit
pub large_group : (v k n b : ℕ) (rest : List ℕ) → 2 ^ 64 ≤ v + (b % 128) * 128 ^ k → b < 256 → finish v k (groups_front (suc n) (b ∷ rest)) ≡ None
large_group v k n b rest large byte = large_by v k n b rest large byte (cases_lt b 128)

-- the weight of group k, which fits 64 bits
weight_fits : (k : ℕ) → k < 10 → 128 ^ k % 2 ^ 64 ≡ 128 ^ k
weight_fits k h =
    let most : 128 ^ k ≤ 128 ^ 9 = pow-le-pow_right {n = 128} (lit≤ tt) {i = k} {j = 9} (omega arith) in
    mod-eq_of_lt (omega (arith, most))

-- the groups from number k on, of which there is one
groups_at : (k : ℕ) (bytes : List ℕ) → k < 10 → k < length bytes → groups_front (10 - k) (drop k bytes) ≡ groups_front (suc (9 - k)) (get_or bytes k 0 ∷ drop (k + 1) bytes)
groups_at k bytes few within =
    let e : 10 - k ≡ suc (9 - k) = omega arith in
    ap (λ n. groups_front n (drop k bytes)) e ∙ ap (groups_front (suc (9 - k))) (drop_more bytes k 0 within)

-- The steps of the loop that reads a varint: the value so far, and the weight of group k, are known.
module _ (v k w : ℕ) (bytes : List ℕ) (few : k < 10) (weight : w ≡ 128 ^ k % 2 ^ 64) where
  weight_is : w ≡ 128 ^ k
  weight_is = weight ∙ weight_fits k few

  pub reads_cut : length bytes ≤ k → finish v k (groups_front (10 - k) (drop k bytes)) ≡ None
  reads_cut h = ap (λ rest. finish v k (groups_front (10 - k) rest)) (drop_of_length-le bytes h) ∙ finish_cut v k (10 - k)

  pub reads_large : k < length bytes → get_or bytes k 0 < 256 → 2 ^ 64 ≤ v + (get_or bytes k 0 % 128) * w → finish v k (groups_front (10 - k) (drop k bytes)) ≡ None
  reads_large within byte large =
      ap (finish v k) (groups_at k bytes few within)
      ∙ large_group v k (9 - k) (get_or bytes k 0) (drop (k + 1) bytes) (subst (λ p. 2 ^ 64 ≤ v + (get_or bytes k 0 % 128) * p) weight_is large) byte

  pub reads_last : k < length bytes → get_or bytes k 0 < 128 → v + (get_or bytes k 0 % 128) * w < 2 ^ 64 → finish v k (groups_front (10 - k) (drop k bytes)) ≡ Some (record { value = v + (get_or bytes k 0 % 128) * w; rest = drop (k + 1) bytes })
  reads_last within small fits =
      let e : (get_or bytes k 0 % 128) * w ≡ get_or bytes k 0 * 128 ^ k = ap (λ g. g * w) (mod-eq_of_lt small) ∙ ap (λ p. get_or bytes k 0 * p) weight_is in
      ap (finish v k) (groups_at k bytes few within)
      ∙ (last_group v k (9 - k) (get_or bytes k 0) (drop (k + 1) bytes) small (subst (λ p. v + p < 2 ^ 64) e fits)
      ∙ ap (λ p. Some (record { value = v + p; rest = drop (k + 1) bytes })) (sym e))

  pub reads_more : k < length bytes → get_or bytes k 0 < 256 → 128 ≤ get_or bytes k 0 → finish v k (groups_front (10 - k) (drop k bytes)) ≡ finish (v + (get_or bytes k 0 % 128) * w) (k + 1) (groups_front (10 - (k + 1)) (drop (k + 1) bytes))
  reads_more within byte big =
      let g : get_or bytes k 0 - 128 ≡ get_or bytes k 0 % 128 = omega arith in
      let e : (get_or bytes k 0 - 128) * 128 ^ k ≡ (get_or bytes k 0 % 128) * w = ap (λ x. x * 128 ^ k) g ∙ ap (λ p. (get_or bytes k 0 % 128) * p) (sym weight_is) in
      let n : 9 - k ≡ 10 - (k + 1) = omega arith in
      ap (finish v k) (groups_at k bytes few within)
      ∙ (more_step v k (9 - k) (get_or bytes k 0) (drop (k + 1) bytes) big
      ∙ (ap (λ p. finish (v + p) (k + 1) (groups_front (9 - k) (drop (k + 1) bytes))) e
      ∙ ap (λ m. finish (v + (get_or bytes k 0 % 128) * w) (k + 1) (groups_front m (drop (k + 1) bytes))) n))

  pub next_weight : w * 128 % 2 ^ 64 ≡ 128 ^ (k + 1) % 2 ^ 64
  next_weight =
      ap (λ p. p * 128 % 2 ^ 64) weight
      ∙ (mul-mod_first (128 ^ k) 128 (2 ^ 64)
      ∙ ap (λ p. p % 2 ^ 64) (sym (pow-suc 128 k) ∙ ap (λ j. 128 ^ j) (sym (add-one k))))
