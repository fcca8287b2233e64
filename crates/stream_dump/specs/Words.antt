-- The words of a line as they are gathered.
use Rattle.std.specs.Prelude.{◌≡◌, ℕ, ◌+◌, ◌≤◌, List, ◌++◌, map}
use Rattle.std.specs.Fmt.{decimal}
use Rattle.std.specs.Int.{to_be_bytes, w32}
use Rattle.arrayvec.specs.ArrayVec.{ArrayVec, array_vec_len}
use Rattle.hex.specs.Hex.{encode_lower}
use Rattle.stream_dump.specs.declared.words.Word.{Word}
use Rattle.stream_dump.specs.declared.words.Word.TheVariants.{Plain, Name, Number, Digits, Id}

abbrev pub word_text : Word → List ℕ
word_text (Plain text) = text.now
word_text (Name text) = text.now
word_text (Number n) = decimal n
word_text (Digits bytes) = encode_lower bytes.now
word_text (Id id) = encode_lower (to_be_bytes w32 id)

abbrev pub texts : List Word → List (List ℕ)
texts words = map word_text words

-- these words were added, at most so many
pub record Adds (most : ℕ) (old new : ArrayVec Word) (more : List (List ℕ)) : Type 0 where
  pub words : texts new.items ≡ texts old.items ++ more
  pub few : array_vec_len new ≤ array_vec_len old + most
