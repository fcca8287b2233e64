-- What is found of a text that should be a server's journal, and how it is told.
use Rattle.std.specs.Prelude.{◌≡◌, ℕ, List, ◌++◌, length, codes}
use Rattle.std.specs.Fmt.{decimal}
use Rattle.rpc_journal.specs.declared.entry.Entry.{Entry}
use Rattle.rpc_journal.specs.declared.fault.Broken.{Broken}
use Rattle.rpc_journal.specs.declared.fault.Broken.TheVariants.{Seat, UnknownCall, NotReady, NotRunning, AfterEnd, Refused, Nothing}
use Rattle.rpc_journal.specs.declared.fault.Fault.{Fault}
use Rattle.rpc_journal.specs.declared.setting.Setting.{Setting}
use Rattle.rpc_journal.specs.Faults.{IsFirstFault}
use Rattle.rpc_journal.specs.Lawful.{IsLawful}
use Rattle.text_fields.specs.Lines.{lines_of}
use Rattle.journal_text.specs.declared.verdict.Verdict.{Verdict}
use Rattle.journal_text.specs.declared.verdict.Verdict.TheVariants.{Legal, Faulty, NoJournal}
use Rattle.journal_text.specs.Reading.{IsFirstBadLine, IsJournalText}

-- the text is a lawful journal, and has so many lines
pub record IsLegalText (set : Setting) (text : List ℕ) (lines : ℕ) : Type 0 where
  pub entries : List Entry
  pub says : IsJournalText text entries
  pub lawful : IsLawful set entries
  pub count : lines ≡ length (lines_of text)

-- the text is a journal with this first fault
pub record IsFaultyText (set : Setting) (text : List ℕ) (fault : Fault) : Type 0 where
  pub entries : List Entry
  pub says : IsJournalText text entries
  pub first : IsFirstFault set entries fault

abbrev pub IsVerdict : Setting → List ℕ → Verdict → Type 0
IsVerdict set text (Legal lines) = IsLegalText set text lines
IsVerdict set text (Faulty fault) = IsFaultyText set text fault
IsVerdict set text (NoJournal line) = IsFirstBadLine text line

abbrev pub rule_name : Broken → List ℕ
rule_name Seat = codes "Seat"
rule_name UnknownCall = codes "UnknownCall"
rule_name NotReady = codes "NotReady"
rule_name NotRunning = codes "NotRunning"
rule_name AfterEnd = codes "AfterEnd"
rule_name Refused = codes "Refused"
rule_name Nothing = codes "Nothing"

-- how a verdict is told
abbrev pub verdict_text : Verdict → List ℕ
verdict_text (Legal lines) = codes "legal " ++ decimal lines
verdict_text (Faulty fault) = codes "fault at " ++ (decimal fault.at ++ (codes " " ++ rule_name fault.rule))
verdict_text (NoJournal line) = codes "journal line " ++ decimal line

-- the exit status of a program that told it
abbrev pub verdict_status : Verdict → ℕ
verdict_status (NoJournal line) = 7
verdict_status _ = 0
