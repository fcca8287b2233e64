-- Texts that are written into a slice one behind the other.
use Rattle.std.proofs.Common.{◌≡◌, ℕ, ◌+◌, ◌<◌, ◌≤◌, List, [], ◌++◌, length, take, Option, Some, None, sym, ap, ◌∙◌, append_assoc, subst, arith}
use Rattle.std.proofs.lemmas.List.{append-nil, length-append, length-take-le}
use Rattle.hdlc_frame.specs.Laid.{Lays}

-- a text that finds no room has none with more behind it
pub lays_none : (old new : List ℕ) (at : ℕ) (x y : List ℕ) → Lays old at x None new → Lays old at (x ++ y) None new
lays_none old new at x y h = omega (arith, h, length-append x y)

lays_then :
    (old middle new : List ℕ) (at mid : ℕ) (x y : List ℕ) (end : Option ℕ) → length middle ≡ length old → Lays old at x (Some mid) middle →
    Lays middle mid y end new → Lays old at (x ++ y) end new
lays_then old middle new at mid x y None same first second = omega (arith, first.0, second, same, length-append x y)
lays_then old middle new at mid x y (Some end) same first second = (
  omega (arith, first.0, second.0, length-append x y),
  omega (arith, second.1, same),
  second.2 ∙ ap (λ l. l ++ y) first.2 ∙ append_assoc (take at old) x y,
)

pub lays_behind :
    (old middle new : List ℕ) (at mid : ℕ) (x y : List ℕ) (found end : Option ℕ) → length middle ≡ length old → Lays old at x (Some mid) middle →
    found ≡ end → Lays middle mid y found new → Lays old at (x ++ y) end new
lays_behind old middle new at mid x y found end same first is second =
    let P : Option ℕ → Type 0 = λ e. Lays middle mid y e new in
    lays_then old middle new at mid x y end same first (subst P is second)

-- a part of a text that finds no room
pub part_none :
    (old out part rest whole : List ℕ) (at end : ℕ) → length out ≡ length old → end ≤ length out → at ≤ length old →
    take end out ++ (part ++ rest) ≡ take at old ++ whole → length out < end + length part → length old < at + length whole
part_none old out part rest whole at end same within start e full =
    omega (
      arith,
      same,
      full,
      ap length e,
      length-append (take end out) (part ++ rest),
      length-append part rest,
      length-append (take at old) whole,
      length-take-le end out within,
      length-take-le at old start,
    )

-- a text with nothing left of it
pub whole_laid :
    (old out rest whole : List ℕ) (at end : ℕ) → length out ≡ length old → end ≤ length out → at ≤ length old → rest ≡ [] →
    take end out ++ rest ≡ take at old ++ whole → (end ≡ at + length whole) × (end ≤ length old) × (take end out ≡ take at old ++ whole)
whole_laid old out rest whole at end same within start none e =
    let all : take end out ≡ take at old ++ whole = sym (append-nil (take end out)) ∙ ap (λ l. take end out ++ l) (sym none) ∙ e in (
      omega (arith, ap length all, length-append (take at old) whole, length-take-le end out within, length-take-le at old start),
      omega (arith, same, within),
      all,
    )
