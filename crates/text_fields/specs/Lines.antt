-- The lines of a text.
use Rattle.std.specs.Prelude.{ℕ, ◌==◌, if◌then◌else◌, List, [], ◌∷◌, ◌++◌, length}
use Rattle.std.specs.List.{slice_split}
use Rattle.text_fields.specs.declared.lines.TheConstants.{NEWLINE}

-- the parts without the last one, where that is empty
abbrev pub without_empty_last : List (List ℕ) → List (List ℕ)
without_empty_last [] = []
without_empty_last (last ∷ []) = if length last == 0 then [] else last ∷ []
without_empty_last (part ∷ next ∷ parts) = part ∷ without_empty_last (next ∷ parts)

-- the parts between the newlines; behind the last newline an empty part is no line
abbrev pub lines_of : List ℕ → List (List ℕ)
lines_of text = without_empty_last (slice_split (λ b. b == NEWLINE) text)

-- a line with its newline
abbrev pub ended : List ℕ → List ℕ
ended line = line ++ NEWLINE ∷ []
