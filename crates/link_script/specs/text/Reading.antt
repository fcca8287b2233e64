-- Which texts are scripts, and what they say.
use Rattle.std.specs.Prelude.{◌≡◌, ℕ, ◌+◌, true, List, [], ◌∷◌, ◌++◌, length}
use Rattle.text_fields.specs.Lines.{lines_of}
use Rattle.link_script.specs.declared.script.Script.{Script}
use Rattle.link_script.specs.Script.{new_script}
use Rattle.link_script.specs.declared.text.line.Line.{Line}
use Rattle.link_script.specs.text.Lines.{IsLine}
use Rattle.link_script.specs.text.Standing.{may_stand, with_line}

-- the line is good behind the lines of this script, and says this
abbrev pub IsNext : Script → List ℕ → Line → Type 0
IsNext s text line = IsLine text line × (may_stand s line ≡ true)

-- these lines are good behind the lines of the first script, and the second one is the script with all they say
abbrev pub GoesOn : Script → List (List ℕ) → Script → Type 0
GoesOn s [] after = after ≡ s
GoesOn s (text ∷ texts) after = (line : Line) × IsNext s text line × GoesOn (with_line s line) texts after

-- THE DEFINITION OF A SCRIPT'S TEXT
abbrev pub IsScriptText : List ℕ → Script → Type 0
IsScriptText text s = GoesOn new_script (lines_of text) s

-- behind good lines stands one that isn't, and this is its number, from 1 on
pub record IsFirstBadLine (text : List ℕ) (number : ℕ) : Type 0 where
  pub good : List (List ℕ)
  pub bad : List ℕ
  pub more : List (List ℕ)
  pub whole : lines_of text ≡ good ++ bad ∷ more
  pub script : Script
  pub says : GoesOn new_script good script
  pub none : (line : Line) → IsNext script bad line → ⊥
  pub place : number ≡ length good + 1
