-- The id of a service or a method, as a word tells it.
use Rattle.std.specs.Prelude.{◌≡◌, ◌⊎◌, ℕ, List, ◌++◌, codes, Option, Some, None, Result, Ok, Err}
use Rattle.std.specs.Int.{w32, from_be_bytes}
use Rattle.hex.specs.Hex.{decode_sized}
use Rattle.hex.specs.declared.error.FromHexError.{FromHexError}
use Rattle.rpc_ids.specs.Names.{name_id}

abbrev pub id_of_bytes : Result (List ℕ) FromHexError → Option ℕ
id_of_bytes (Ok bytes) = Some (from_be_bytes w32 bytes)
id_of_bytes (Err e) = None

-- the number that these are the eight hexadecimal digits of
abbrev pub id_of_digits : List ℕ → Option ℕ
id_of_digits digits = id_of_bytes (decode_sized digits 4)

-- THE ID THAT A WORD TELLS: what the digits behind `0x` say, else the hash of the name that the word is
abbrev pub IsId : List ℕ → ℕ → Type 0
IsId word id =
    ((digits : List ℕ) × (word ≡ codes "0x" ++ digits) × (id_of_digits digits ≡ Some id))
    ⊎ (((digits : List ℕ) → word ≡ codes "0x" ++ digits → ⊥) × (name_id word ≡ id))
