-- What `check` tells of a text.
use Rattle.std.specs.Prelude.{◌≡◌, ℕ, Bool, true, false, List}
use Rattle.journal_text.specs.declared.verdict.Verdict.{Verdict}
use Rattle.journal_text.specs.declared.verdict.Verdict.TheVariants.{NoJournal}
use Rattle.text_fields.specs.Lines.{ended}
use Rattle.journal_text.specs.Verdicts.{IsVerdict, verdict_text}
use Rattle.pw_run.specs.Demo.{demo_setting, no_shelf}

-- the text is a journal, lawful or not
abbrev pub is_journal : Verdict → Bool
is_journal (NoJournal line) = false
is_journal _ = true

-- the verdict on the text as a journal of the demo service's server
pub record TellsVerdict (text told : List ℕ) (good : Bool) : Type 0 where
  pub verdict : Verdict
  pub is : IsVerdict (demo_setting no_shelf) text verdict
  pub line : told ≡ ended (verdict_text verdict)
  pub journal : good ≡ is_journal verdict
