-- How the lines of a dump grow.
use Rattle.std.proofs.Common.{◌≡◌, ℕ, suc, ◌==◌, ◌+◌, true, false, cond, List, [], ◌∷◌, ◌++◌, length, map, Some, None, refl, sym, ap, ◌∙◌, arith, append-nil, append_assoc, codes}
use Rattle.std.specs.Fmt.{decimal}
use Rattle.hdlc_frame.specs.Found.{Found, found_in}
use Rattle.hdlc_frame.specs.Laws.{ended}
use Rattle.rpc_frames.specs.declared.limits.TheConstants.{LARGEST_CONTENT}
use Rattle.stream_dump.specs.Dump.{apart_line, lines_behind, lines_of, segment_line}
use Rattle.stream_dump.specs.Lines.{line}
use Rattle.stream_dump.specs.Names.{Name}
use Rattle.stream_dump.specs.Progress.{behind_all, closed_behind, closed_lines, is_some_text}
use Rattle.stream_dump.specs.Steps.{apart_text, ended_line, last_word}

-- the line of a text when its flag has come
abbrev pub closing_line : List Name → List (List ℕ) → List ℕ → List ℕ
closing_line names [] last = apart_line (codes "skipped") 0 last
closing_line names (f ∷ fs) last = segment_line names (behind_all (f ∷ fs)) last

-- the line of the text behind the last flag
abbrev pub last_line : List (List ℕ) → List ℕ → List ℕ
last_line [] last = apart_line (codes "skipped") 0 last
last_line (f ∷ fs) last = apart_line (codes "open") (behind_all (f ∷ fs)) last

not_zero : (n : ℕ) → (suc n == 0) ≡ false
not_zero n = grind (arith)

pub apart_same : (word : List ℕ) (at : ℕ) (text : List ℕ) → apart_text word at (length text) ≡ apart_line word at text
apart_same word at [] = refl
apart_same word at (x ∷ xs) = ap (λ b. cond b [] (line (decimal at ∷ word ∷ decimal (length (x ∷ xs)) ∷ []))) (not_zero (length xs))

behind_more : (names : List Name) (at : ℕ) (fs : List (List ℕ)) (last : List ℕ)
    → closed_behind names at (fs ++ last ∷ []) ≡ closed_behind names at fs ++ segment_line names (at + behind_all fs) last
behind_more names at [] last = append-nil (segment_line names at last) ∙ ap (λ a. segment_line names a last) (omega arith)
behind_more names at (t ∷ ts) last =
    ap (λ r. segment_line names at t ++ r) (behind_more names (at + length t + 1) ts last) ∙
    sym (append_assoc (segment_line names at t) (closed_behind names (at + length t + 1) ts) (segment_line names (at + length t + 1 + behind_all ts) last)) ∙
    ap (λ a. (segment_line names at t ++ closed_behind names (at + length t + 1) ts) ++ segment_line names a last) (omega arith)

pub closed_more : (names : List Name) (front : List (List ℕ)) (last : List ℕ)
    → closed_lines names (front ++ last ∷ []) ≡ closed_lines names front ++ closing_line names front last
closed_more names [] last = append-nil (apart_line (codes "skipped") 0 last)
closed_more names (f ∷ fs) last =
    ap (λ r. apart_line (codes "skipped") 0 f ++ r) (behind_more names (length f + 1) fs last) ∙
    sym (append_assoc (apart_line (codes "skipped") 0 f) (closed_behind names (length f + 1) fs) (segment_line names (length f + 1 + behind_all fs) last))

behind_split : (names : List Name) (at : ℕ) (fs : List (List ℕ)) (last : List ℕ)
    → lines_behind names at (fs ++ last ∷ []) ≡ closed_behind names at fs ++ apart_line (codes "open") (at + behind_all fs) last
behind_split names at [] last = ap (λ a. apart_line (codes "open") a last) (omega arith)
behind_split names at (t ∷ []) last =
    sym (append_assoc (segment_line names at t) [] (apart_line (codes "open") (at + length t + 1) last)) ∙
    ap (λ a. (segment_line names at t ++ []) ++ apart_line (codes "open") a last) (omega arith)
behind_split names at (t ∷ u ∷ us) last =
    ap (λ r. segment_line names at t ++ r) (behind_split names (at + length t + 1) (u ∷ us) last) ∙
    sym (append_assoc (segment_line names at t) (closed_behind names (at + length t + 1) (u ∷ us)) (apart_line (codes "open") (at + length t + 1 + behind_all (u ∷ us)) last)) ∙
    ap (λ a. (segment_line names at t ++ closed_behind names (at + length t + 1) (u ∷ us)) ++ apart_line (codes "open") a last) (omega arith)

-- the lines of all texts
pub lines_split : (names : List Name) (front : List (List ℕ)) (last : List ℕ)
    → lines_of names (front ++ last ∷ []) ≡ closed_lines names front ++ last_line front last
lines_split names [] last = append-nil (apart_line (codes "skipped") 0 last)
lines_split names (f ∷ fs) last =
    ap (λ r. apart_line (codes "skipped") 0 f ++ r) (behind_split names (length f + 1) fs last) ∙
    sym (append_assoc (apart_line (codes "skipped") 0 f) (closed_behind names (length f + 1) fs) (apart_line (codes "open") (length f + 1 + behind_all fs) last))

-- what is found in the text that a flag ends
abbrev pub found_ended : List (List ℕ) → List ℕ → List Found
found_ended front last = map (found_in LARGEST_CONTENT) (ended (cond (is_some_text front) (Some last) None))

pub ended_is : (names : List Name) (front : List (List ℕ)) (last : List ℕ)
    → ended_line names (behind_all front) (length last) (is_some_text front) (found_ended front last) ≡ closing_line names front last
ended_is names [] last = apart_same (codes "skipped") 0 last
ended_is names (f ∷ fs) [] = refl
ended_is names (f ∷ fs) (x ∷ xs) = refl

pub last_same : (front : List (List ℕ)) (last : List ℕ) → apart_text (last_word (is_some_text front)) (behind_all front) (length last) ≡ last_line front last
last_same [] last = apart_same (codes "skipped") 0 last
last_same (f ∷ fs) last = apart_same (codes "open") (behind_all (f ∷ fs)) last

pub behind_grows : (front : List (List ℕ)) (last : List ℕ) → behind_all (front ++ last ∷ []) ≡ behind_all front + (length last + 1)
behind_grows [] last = omega arith
behind_grows (f ∷ fs) last = let more = behind_grows fs last in omega (arith, more)

pub some_grows : (front : List (List ℕ)) (last : List ℕ) → is_some_text (front ++ last ∷ []) ≡ true
some_grows [] last = refl
some_grows (f ∷ fs) last = refl
