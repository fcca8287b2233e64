-- Lines of a text, from its front.
use Rattle.std.proofs.Common.{◌≡◌, ℕ, ◌<◌, ◌==◌, Bool, false, List, [], ◌∷◌, ◌++◌, length, refl, ap, append_assoc, ◌∙◌, Option, Some, None, unwrap_or, arith, Bor}
use Rattle.std.specs.Prelude.{◌≢◌, All, IfNone, IfSome}
use Rattle.std.specs.List.{flat_map, slice_split}
use Rattle.std.proofs.lemmas.List.Elements.{All-head, All-tail, All-weaker}
use Rattle.std.proofs.lemmas.List.Splits.{slice_split_at, slice_split_none, length-slice_split}
use Rattle.text_fields.specs.declared.lines.TheConstants.{NEWLINE}
use Rattle.text_fields.specs.Lines.{ended, lines_of, without_empty_last}
use Rattle.text_fields.specs.Splits.{IsSplitAt, Lacks}

abbrev ends_line : ℕ → Bool
ends_line b = b == NEWLINE

is_other : (b : ℕ) → b ≢ NEWLINE → ends_line b ≡ false
is_other b other = grind (arith)

all_other : (line : List ℕ) → Lacks NEWLINE line → All (λ b. ends_line b ≡ false) line
all_other line lacks = All-weaker (λ b. b ≢ NEWLINE) (λ b. ends_line b ≡ false) is_other line lacks

-- only the last part is looked at
before_last : (line : List ℕ) (parts : List (List ℕ)) → 0 < length parts → without_empty_last (line ∷ parts) ≡ line ∷ without_empty_last parts
before_last line [] some = absurd (omega arith)
before_last line (part ∷ parts) some = refl

last_kept : (line : List ℕ) → line ≢ [] → without_empty_last (line ∷ []) ≡ line ∷ []
last_kept [] some = absurd (some refl)
last_kept (b ∷ line) some = grind (arith)

-- what stands in front of a newline is a line
pub first_of_lines : (line rest : List ℕ) → Lacks NEWLINE line → lines_of (line ++ NEWLINE ∷ rest) ≡ line ∷ lines_of rest
first_of_lines line rest lacks =
    let parts = slice_split_at ends_line line NEWLINE rest (all_other line lacks) refl in
    let some = length-slice_split ends_line rest in
    ap without_empty_last parts ∙ before_last line (slice_split ends_line rest) (omega (arith, some))

-- a text without a newline is its one line
pub one_line : (line : List ℕ) → Lacks NEWLINE line → line ≢ [] → lines_of line ≡ line ∷ []
one_line line lacks some = ap without_empty_last (slice_split_none ends_line line (all_other line lacks)) ∙ last_kept line some

-- lines that were written one behind the other are read as these lines
pub lines_of_ended : (lines : List (List ℕ)) → All (Lacks NEWLINE) lines → lines_of (flat_map ended lines) ≡ lines
lines_of_ended [] lack = refl
lines_of_ended (line ∷ lines) lack =
    let behind = flat_map ended lines in
    let joined : ended line ++ behind ≡ line ++ NEWLINE ∷ behind = append_assoc line (NEWLINE ∷ []) behind in
    let first = first_of_lines line behind (All-head (Lacks NEWLINE) line lines lack) in
    let later = lines_of_ended lines (All-tail (Lacks NEWLINE) line lines lack) in
    ap lines_of joined ∙ first ∙ ap (λ ls. line ∷ ls) later

-- a split at the newline, or else the whole text, is the first line and what stands behind it
pub split_is_line :
    (text : List ℕ) (found : Option (Bor (List ℕ) × Bor (List ℕ))) (whole : Bor (List ℕ) × Bor (List ℕ)) →
    IfNone found (Lacks NEWLINE text) → IfSome found (λ parts. IsSplitAt NEWLINE text parts.0.now parts.1.now) →
    text ≢ [] → whole.0.now ≡ text → whole.1.now ≡ [] →
    lines_of text ≡ (unwrap_or found whole).0.now ∷ lines_of (unwrap_or found whole).1.now
split_is_line text (Some parts) whole none some full front rest =
    rw some.spelled (first_of_lines parts.0.now parts.1.now some.first)
split_is_line text None whole none some full front rest = rw (front, rest) (one_line text none full)
