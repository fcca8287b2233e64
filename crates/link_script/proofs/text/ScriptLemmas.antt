-- A script is read line by line.
use Rattle.std.proofs.Common.{◌≡◌, ℕ, ◌+◌, ◌≤◌, refl, sym, ap, ◌∙◌, subst, append_assoc, append-nil, true, false, List, [], ◌∷◌, ◌++◌, length, length-append, Option, Some, None, arith}
use Rattle.text_fields.specs.Lines.{lines_of}
use Rattle.link_script.specs.declared.script.Script.{Script}
use Rattle.link_script.specs.Script.{new_script}
use Rattle.link_script.specs.declared.text.line.Line.{Line}
use Rattle.link_script.specs.text.Lines.{IsLine}
use Rattle.link_script.specs.text.Standing.{may_stand, with_line}
use Rattle.link_script.specs.text.Reading.{IsNext, GoesOn, IsScriptText, IsFirstBadLine}

-- what a reader of a line finds: what the line says, and nothing else
abbrev pub IsFound : List ℕ → Option Line → Type 0
IsFound text None = (line : Line) → IsLine text line → ⊥
IsFound text (Some line) = IsLine text line × ((other : Line) → IsLine text other → line ≡ other)

-- of the text's lines so many are read, and this script is what they say; the lines of the rest are left
pub record HasRead (text rest : List ℕ) (s : Script) (number : ℕ) : Type 0 where
  pub good : List (List ℕ)
  pub whole : lines_of text ≡ good ++ lines_of rest
  pub says : GoesOn new_script good s
  pub only : (left : List (List ℕ)) (after : Script) → GoesOn new_script (good ++ left) after → GoesOn s left after
  pub count : number ≡ length good + 1
  pub room : number + length rest ≤ length text + 1

pub nothing_read : (text : List ℕ) → HasRead text text new_script 1
nothing_read text = record {
  good = [];
  whole = refl;
  says = refl;
  only = λ left after goes. goes;
  count = refl;
  room = omega arith;
}

-- one more line behind good ones
says_more :
    (good : List (List ℕ)) (from s : Script) (text : List ℕ) (line : Line) → GoesOn from good s → IsNext s text line →
    GoesOn from (good ++ text ∷ []) (with_line s line)
says_more [] from s text line says is = (line, subst (λ x. IsNext x text line) says is, ap (λ x. with_line x line) says)
says_more (g ∷ good) from s text line says is = (says.0, says.1, says_more good (with_line from says.0) s text line says.2 is)

next_only :
    (s : Script) (text : List ℕ) (line : Line) (left : List (List ℕ)) (after : Script) →
    ((other : Line) → IsLine text other → line ≡ other) → GoesOn s (text ∷ left) after → GoesOn (with_line s line) left after
next_only s text line left after one goes = subst (λ x. GoesOn (with_line s x) left after) (sym (one goes.0 goes.1.0)) goes.2

pub line_read :
    (text rest bad more : List ℕ) (s : Script) (number : ℕ) (line : Line) → HasRead text rest s number →
    lines_of rest ≡ bad ∷ lines_of more → length more + 1 ≤ length rest → IsFound bad (Some line) → may_stand s line ≡ true →
    HasRead text more (with_line s line) (number + 1)
line_read text rest bad more s number line read first shorter found stands = record {
  good = read.good ++ bad ∷ [];
  whole = read.whole ∙ ap (λ lines. read.good ++ lines) first ∙ sym (append_assoc read.good (bad ∷ []) (lines_of more));
  says = says_more read.good new_script s bad line read.says (found.0, stands);
  only = λ left after goes.
      next_only s bad line left after found.1 (read.only (bad ∷ left) after (rw (append_assoc read.good (bad ∷ []) left) at goes));
  count = ap (λ n. n + 1) (read.count ∙ sym (length-append read.good (bad ∷ [])));
  room = omega (arith, read.room, shorter);
}

-- a line that isn't good behind those before it
pub line_bad :
    (text rest bad more : List ℕ) (s : Script) (number : ℕ) → HasRead text rest s number → lines_of rest ≡ bad ∷ lines_of more →
    ((line : Line) → IsNext s bad line → ⊥) → IsFirstBadLine text number
line_bad text rest bad more s number read first none = record {
  good = read.good;
  bad = bad;
  more = lines_of more;
  whole = read.whole ∙ ap (λ lines. read.good ++ lines) first;
  script = s;
  says = read.says;
  none = none;
  place = read.count;
}

-- a text with such a line is no script
pub no_script :
    (text rest bad more : List ℕ) (s : Script) (number : ℕ) → HasRead text rest s number → lines_of rest ≡ bad ∷ lines_of more →
    ((line : Line) → IsNext s bad line → ⊥) → (after : Script) → IsScriptText text after → ⊥
no_script text rest bad more s number read first none after is =
    let goes = read.only (bad ∷ lines_of more) after (rw (read.whole ∙ ap (λ lines. read.good ++ lines) first) at is) in
    none goes.0 goes.1

pub nothing_next : (s : Script) (bad : List ℕ) → IsFound bad None → (line : Line) → IsNext s bad line → ⊥
nothing_next s bad found line is = found line is.0

pub not_next : (s : Script) (bad : List ℕ) (line : Line) → IsFound bad (Some line) → may_stand s line ≡ false → (other : Line) → IsNext s bad other → ⊥
not_next s bad line found stands other is =
    let e : may_stand s line ≡ true = ap (λ x. may_stand s x) (found.1 other is.0) ∙ is.1 in
    cc

-- all lines are read
pub script_read : (text rest : List ℕ) (s : Script) (number : ℕ) → HasRead text rest s number → lines_of rest ≡ [] → IsScriptText text s
script_read text rest s number read none =
    rw (read.whole ∙ ap (λ lines. read.good ++ lines) none ∙ append-nil read.good) read.says

pub script_only :
    (text rest : List ℕ) (s : Script) (number : ℕ) → HasRead text rest s number → lines_of rest ≡ [] → (after : Script) → IsScriptText text after → s ≡ after
script_only text rest s number read none after is =
    sym (read.only [] after (rw (read.whole ∙ ap (λ lines. read.good ++ lines) none) at is))
