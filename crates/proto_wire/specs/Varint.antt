-- Base-128 varints of the Protocol Buffers encoding.
use Rattle.std.specs.Prelude.{◌≡◌, ℕ, ◌+◌, ◌-◌, ◌*◌, ◌/◌, ◌%◌, ◌^◌, ◌<◌, ◌≤◌, nat_lt, if◌then◌else◌, List, [], ◌∷◌, length, Option, Some, None, option_map, option_and_then}
use Rattle.std.proofs.Common.{zero, suc}

-- Groups of seven bits that stand for a number, the least significant group first. The top bit of a byte says that another group follows.
pub data Groups : List ℕ → ℕ → Type 0 where
  last : (b : ℕ) → b < 128 → Groups (b ∷ []) b
  more : (b n m : ℕ) (text : List ℕ) → 128 ≤ b → m ≡ (b - 128) + 128 * n → Groups text n → Groups (b ∷ text) m

-- The text spells the number as a varint: at most ten bytes, for a number below 2^64. It needn't be the shortest spelling.
pub record IsVarint (text : List ℕ) (n : ℕ) : Type 0 where
  pub groups : Groups text n
  pub short : length text ≤ 10
  pub fits : n < 2 ^ 64

-- a number that stands at the front of some bytes, and the bytes behind it
pub record Number : Type 0 where
  pub value : ℕ
  pub rest : List ℕ

-- the number with one more group below
abbrev pub below : ℕ → Number → Number
below group r = record { value = group + 128 * r.value; rest = r.rest }

-- the number that at most so many groups at the front stand for
unfoldable pub groups_front : ℕ → List ℕ → Option Number
groups_front zero bytes = None
groups_front (suc k) [] = None
groups_front (suc k) (b ∷ rest) =
    if nat_lt b 128 then Some (record { value = b; rest = rest }) else option_map (below (b - 128)) (groups_front k rest)

-- a number of at most 64 bits
abbrev pub within_64 : Number → Option Number
within_64 r = if nat_lt r.value (2 ^ 64) then Some r else None

-- the varint at the front
unfoldable pub varint_front : List ℕ → Option Number
varint_front bytes = option_and_then within_64 (groups_front 10 bytes)

-- the shortest spelling of a number, in at most so many bytes
unfoldable pub groups_of : ℕ → ℕ → List ℕ
groups_of zero n = []
groups_of (suc k) n = if nat_lt n 128 then n ∷ [] else (128 + n % 128) ∷ groups_of k (n / 128)

-- the shortest varint of a number below 2^64
unfoldable pub varint_text : ℕ → List ℕ
varint_text n = groups_of 10 n
