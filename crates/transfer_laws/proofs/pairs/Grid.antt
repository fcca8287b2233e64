-- The pieces of a resource by their numbers: where each begins, and how many there are.
use Rattle.std.proofs.Common.{◌≡◌, ℕ, suc, ◌+◌, ◌-◌, ◌*◌, ◌/◌, ◌%◌, ◌<◌, ◌≤◌, arith}
use Rattle.std.proofs.Math.Nat.{div-add-mod, mod-lt, mul_comm, mul-le-mul_right}
use Rattle.transfer_laws.specs.pairs.Bound.{need}

-- a resource of n bytes has so many pieces of c bytes from the offset o on
pub record Grid (n o c big : ℕ) : Type 0 where
  pub some : 1 ≤ big
  pub within : o ≤ n
  pub inner : (i : ℕ) → 1 ≤ i → i < big → o + i * c < n
  pub outer : n ≤ o + big * c

pub one_more : (i c : ℕ) → suc i * c ≡ i * c + c
one_more i c = omega arith

pub grid : (n o c : ℕ) → 1 ≤ c → o ≤ n → Grid n o c (need n o c)
grid n o c some within = record { some = omega arith; within = within; inner = inner; outer = outer }
  where
    whole : c * ((n - o + (c - 1)) / c) + (n - o + (c - 1)) % c ≡ n - o + (c - 1)
    whole = div-add-mod (n - o + (c - 1)) c

    rest : (n - o + (c - 1)) % c < c
    rest = mod-lt (n - o + (c - 1)) some

    turned : c * ((n - o + (c - 1)) / c) ≡ (n - o + (c - 1)) / c * c
    turned = mul_comm c ((n - o + (c - 1)) / c)

    inner : (i : ℕ) → 1 ≤ i → i < need n o c → o + i * c < n
    inner i low high =
        let up : suc i * c ≤ (n - o + (c - 1)) / c * c = mul-le-mul_right c (omega (arith, low, high)) in
        omega (arith, up, one_more i c, whole, turned, within, some)

    outer : n ≤ o + need n o c * c
    outer =
        let up : (n - o + (c - 1)) / c * c ≤ need n o c * c = mul-le-mul_right c (omega arith) in
        omega (arith, up, whole, rest, turned, within, some)
