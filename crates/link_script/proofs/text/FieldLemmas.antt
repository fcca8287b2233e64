-- A number in front of a blank.
use Rattle.std.proofs.Common.{◌≡◌, ℕ, ◌^◌, ◌<◌, List, ◌∷◌, ◌++◌, arith}
use Rattle.std.specs.Fmt.{decimal}
use Rattle.text_fields.specs.Splits.{IsSplitAt}
use Rattle.text_fields.proofs.NumberTexts.{decimal_lacks}

-- it stands in front of the first blank
pub number_split : (text rest : List ℕ) (n : ℕ) → n < 2 ^ 32 → text ≡ decimal n ++ 32 ∷ rest → IsSplitAt 32 text (decimal n) rest
number_split text rest n small is = record { spelled = is; first = decimal_lacks n 32 (omega (arith, small)) (λ digit. omega arith) }
