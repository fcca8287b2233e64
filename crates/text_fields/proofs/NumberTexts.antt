-- Numbers and their decimal texts.
use Rattle.std.proofs.Common.{◌≡◌, ℕ, ◌^◌, ◌<◌, List, Result, Ok, Err, inl, inr, sym, arith}
use Rattle.std.specs.Prelude.{◌≢◌, IfSome}
use Rattle.std.specs.Result.{result_ok}
use Rattle.std.specs.Fmt.{decimal}
use Rattle.std.specs.Int.{IsInRange}
use Rattle.std.specs.Str.Parse.{AllDigits, ParsesUnsigned, digits_value}
use Rattle.std.proofs.lemmas.Bool.{cases_lt}
use Rattle.std.proofs.lemmas.Fmt.{decimal_digit, decimal-digits_value, digits_decimal, first_decimal}
use Rattle.std.proofs.lemmas.List.Elements.{All-from_get_or}
use Rattle.std.proofs.lemmas.Str.Parse.{IsNumeralModel, numerals_by_value, tells_digits, parse_plain, not_in_digits}
use Rattle.text_fields.specs.Numbers.{BeginsPlainly}
use Rattle.text_fields.specs.Splits.{Lacks}

digit_texts : IsNumeralModel (AllDigits 10) (digits_value 10)
digit_texts = numerals_by_value (AllDigits 10) tells_digits

-- what parses, and begins plainly, is the decimal text of what it parses to
pub some_parsed :
    {E : Type 0} (text : List ℕ) (r : Result ℕ E) → BeginsPlainly text → ParsesUnsigned 64 10 text r →
    IfSome (result_ok r) (λ n. text ≡ decimal n)
some_parsed {E} text (Ok n) plain parses =
    let read = parse_plain digit_texts {E = E} 64 text (Ok n) parses plain.0 in
    let spelled = decimal-digits_value digit_texts text read.0.0 read.0.1 plain.1 read.0.2 in
    rw read.1 (sym spelled)
some_parsed text (Err e) plain parses = tt

-- a decimal text begins plainly
pub decimal_begins_plainly : (n : ℕ) → n < 2 ^ 64 → BeginsPlainly (decimal n)
decimal_begins_plainly n small =
    elim (cases_lt 0 n) [
      | inl above ↦ let first = first_decimal n above small in (λ plus. omega (arith, first, plus), λ zero. omega (arith, first, zero))
      | inr none ↦
          let e : n ≡ 0 = omega arith in
          rw e (rw (decimal_digit 0 (omega arith)) (λ plus. omega (arith, plus), λ zero. omega arith))
    ]

-- a byte that is no digit is nowhere in a decimal text
pub decimal_lacks : (n byte : ℕ) → n < 2 ^ 64 → ¬ (IsInRange 48 57 byte) → Lacks byte (decimal n)
decimal_lacks n byte small other =
    All-from_get_or (λ b. b ≢ byte) (decimal n) 0 (not_in_digits digit_texts (decimal n) byte (digits_decimal digit_texts n small) other)
