-- A payload as a word.
use Rattle.std.specs.Prelude.{◌≡◌, ℕ, ◌≤◌, ◌%◌, ◌==◌, ◌&&◌, not, Bool, List, length, nat_le, nat_lt}
use Rattle.std.specs.Char.{is_ascii_uppercase}
use Rattle.std.specs.List.{list_all}
use Rattle.hex.specs.Hex.{IsBytes, is_hex_digit}
use Rattle.rpc_handlers.specs.declared.answer.TheConstants.{MAX_PAYLOAD}
use Rattle.run_report.specs.CallReport.{payload_word}

-- the word tells these bytes, of which there are at most 8,000: a dash where there are none, else their lower-case digits
pub record IsPayload (word bytes : List ℕ) : Type 0 where
  pub spelled : word ≡ payload_word bytes
  pub octets : IsBytes bytes
  pub short : length bytes ≤ MAX_PAYLOAD

-- a digit, with small letters
abbrev pub lower_digit : ℕ → Bool
lower_digit c = is_hex_digit c && not (is_ascii_uppercase c)

-- an even number, from 2 to 16,000
abbrev pub is_length : ℕ → Bool
is_length n = nat_lt 0 n && nat_le n 16000 && (n % 2 == 0)

-- so many such digits
abbrev pub are_digits : List ℕ → Bool
are_digits text = is_length (length text) && list_all lower_digit text
