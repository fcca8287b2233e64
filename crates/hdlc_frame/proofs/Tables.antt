-- The tables, each entry computed anew from the same one of the table before it.
use Rattle.std.proofs.Common.{◌≡◌, ℕ, ◌+◌, ◌*◌, ◌<◌, ◌==◌, ◌&&◌, zero, suc, Bool, true, false, List, [], ◌∷◌, length, get_or, zero-add, refl, sym, ap, ◌∙◌, arith}
use Rattle.std.specs.List.{range_with_len}
use Rattle.std.proofs.lemmas.Bool.{eqb-true}
use Rattle.std.proofs.lemmas.List.FromFn.{get_or-range_with_len}
use Rattle.hdlc_frame.specs.declared.lanes.TheConstants.{LANES}
use Rattle.hdlc_frame.specs.CheckSequence.{after_bits}
use Rattle.hdlc_frame.proofs.Register.{zeros_then}

-- each entry of a table is what an octet of zeros makes of the same entry of the table before it
abbrev follows : List ℕ → List ℕ → Bool
follows [] [] = true
follows [] (y ∷ ys) = false
follows (x ∷ xs) [] = false
follows (x ∷ xs) (y ∷ ys) = (y == after_bits 8 x 0) && follows xs ys

abbrev all_follow : List ℕ → List (List ℕ) → Bool
all_follow before [] = true
all_follow before (table ∷ tables) = follows before table && all_follow table tables

both : (a b : Bool) → (a && b) ≡ true → (a ≡ true) × (b ≡ true)
both true b h = (refl, h)
both false b h = absurd (cc)

entry_follows :
    (xs ys : List ℕ) (i : ℕ) → follows xs ys ≡ true → i < length xs → (i < length ys) × (get_or ys i 0 ≡ after_bits 8 (get_or xs i 0) 0)
entry_follows [] ys i holds h = absurd (omega arith)
entry_follows (x ∷ xs) [] i holds h = absurd (cc)
entry_follows (x ∷ xs) (y ∷ ys) zero holds h =
    (omega arith, eqb-true y (after_bits 8 x 0) ((both (y == after_bits 8 x 0) (follows xs ys) holds).0))
entry_follows (x ∷ xs) (y ∷ ys) (suc i) holds h =
    let more = entry_follows xs ys i ((both (y == after_bits 8 x 0) (follows xs ys) holds).1) (omega arith) in (omega (arith, more.0), more.1)

entry_is :
    (before : List ℕ) (tables : List (List ℕ)) (k i : ℕ) → all_follow before tables ≡ true → k < length tables → i < length before →
    get_or (get_or tables k []) i 0 ≡ after_bits (8 * (k + 1)) (get_or before i 0) 0
entry_is before [] k i holds hk hi = absurd (omega arith)
entry_is before (table ∷ tables) zero i holds hk hi =
    (entry_follows before table i ((both (follows before table) (all_follow table tables) holds).0) hi).1
entry_is before (table ∷ tables) (suc k) i holds hk hi =
    let all = both (follows before table) (all_follow table tables) holds in
    let entry = entry_follows before table i all.0 hi in
    let count : 8 + 8 * (k + 1) ≡ 8 * (suc k + 1) = omega arith in
    entry_is table tables k i all.1 (omega arith) entry.0 ∙ ap (λ x. after_bits (8 * (k + 1)) x 0) entry.1 ∙
    sym (zeros_then 8 (8 * (k + 1)) (get_or before i 0)) ∙ ap (λ n. after_bits n (get_or before i 0) 0) count

-- the first table follows the octets themselves
lanes_follow : all_follow (range_with_len 0 256) LANES ≡ true
unfolding after_bits
lanes_follow = refl

pub lane_at : (k i : ℕ) → k < 16 → i < 256 → get_or (get_or LANES k []) i 0 ≡ after_bits (8 * (k + 1)) i 0
lane_at k i hk hi =
    entry_is (range_with_len 0 256) LANES k i lanes_follow hk hi ∙
    ap (λ x. after_bits (8 * (k + 1)) x 0) (get_or-range_with_len 0 256 i 0 hi ∙ zero-add i)
