-- Lines of words.
use Rattle.std.specs.Prelude.{ℕ, List, [], ◌∷◌, ◌++◌}
use Rattle.std.specs.List.{flat_map}

-- a word with the blank in front of it
abbrev pub behind_blank : List ℕ → List ℕ
behind_blank word = 32 ∷ word

-- further words of a line, and its newline
abbrev pub line_behind : List (List ℕ) → List ℕ
line_behind words = flat_map behind_blank words ++ 10 ∷ []

-- these words with a blank between each two, and a newline
abbrev pub line : List (List ℕ) → List ℕ
line [] = 10 ∷ []
line (word ∷ words) = word ++ line_behind words
