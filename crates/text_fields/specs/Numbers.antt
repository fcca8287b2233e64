-- How a decimal number begins.
use Rattle.std.specs.Prelude.{◌≡◌, ◌≢◌, ℕ, List, length, slice_index}

abbrev pub plus_sign : ℕ
plus_sign = 43

abbrev pub digit_zero : ℕ
digit_zero = 48

-- no plus stands first, and a zero only alone
abbrev pub BeginsPlainly : List ℕ → Type 0
BeginsPlainly text = (slice_index text 0 ≢ plus_sign) × (slice_index text 0 ≡ digit_zero → length text ≡ 1)
