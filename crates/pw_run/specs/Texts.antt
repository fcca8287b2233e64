-- Texts that a command reads, whatever it tells of them.
use Rattle.std.specs.Prelude.{◌≡◌, ℕ, ◌-◌, ◌<◌, ◌≤◌, Bool, true, false, if◌then◌else◌, List, [], ◌∷◌, length, codes, Option}
use Rattle.std.specs.Fmt.{decimal}
use Rattle.std.specs.Io.KnownBytes.{Consumes, Keeps}
use Rattle.rpc_schedule.specs.declared.stream.TheConstants.{INPUT_LIMIT}
use Rattle.run_report.specs.Lines.{line}
use Rattle.pw_run.specs.declared.outcome.Outcome.{Outcome}
use Rattle.pw_run.specs.declared.outcome.Outcome.TheVariants.{Done, NoMemory, SourceFault, BadLine, InputLimit, JournalLimit, FrameLimit}
use Rattle.pw_run.specs.declared.text_command.TextCommand.{TextCommand}
use Rattle.pw_run.specs.declared.text_command.TextCommand.TheVariants.{Check, Detoken, Link, Route}
use Rattle.pw_run.specs.declared.told.Found.{Found}
use Rattle.pw_run.specs.declared.told.Found.TheVariants as found
use Rattle.pw_run.specs.declared.text_command.TheConstants.{TEXT_LIMIT}
use Rattle.pw_run.specs.Writes.{Writes}

-- a text of a command has fewer bytes than this
abbrev pub limit_of : TextCommand → ℕ
limit_of Check = INPUT_LIMIT
limit_of Detoken = TEXT_LIMIT
limit_of Link = TEXT_LIMIT
limit_of Route = TEXT_LIMIT

-- the outcome of a run that has told of a text that was found to be this
abbrev pub outcome_on : Found → Outcome
outcome_on found.Good = Done
outcome_on found.BadLine = BadLine
outcome_on found.PastFrames = FrameLimit
outcome_on found.PastJournal = JournalLimit

-- what a text of good lines is found to be, or one with a bad line
abbrev pub found_by : Bool → Found
found_by good = if good then found.Good else found.BadLine

-- what is told of a text with good lines, or with a bad one; it is found to be no other
abbrev pub TellsText : (Bool → Type 0) → Found → Type 0
TellsText TellsOf found.Good = TellsOf true
TellsText TellsOf found.BadLine = TellsOf false
TellsText TellsOf _ = ⊥

-- the number of the first bad line of a text, behind a word for it
abbrev pub bad_line : List ℕ → ℕ → List ℕ
bad_line word number = line (word ∷ codes "line" ∷ decimal number ∷ [])

-- the number of the first bad line, counted from 1, where so many good lines may stand in front of a bad one
pub record TellsBadLine (word : List ℕ) (HasBad : ℕ → Type 0) (told : List ℕ) : Type 0 where
  pub number : ℕ
  pub counted : 1 ≤ number
  pub bad : HasBad (number - 1)
  pub line : told ≡ bad_line word number

-- a text is too long
abbrev pub limit_line : ℕ → List ℕ
limit_line limit = line (codes "limit" ∷ codes "input" ∷ decimal limit ∷ [])

abbrev pub WritesLimit : ℕ → Option (List ℕ) → Option (List ℕ) → Outcome → Type 0
WritesLimit limit written_old written_new NoMemory = Unit {0}
WritesLimit limit written_old written_new outcome = Writes written_old written_new (limit_line limit) InputLimit outcome

-- as many bytes were read as a text may not have, and that was told alone
pub record MeetsLimit (limit : ℕ) (left_old left_new written_old written_new : Option (List ℕ)) (outcome : Outcome) : Type 0 where
  pub text : List ℕ
  pub taken : Consumes left_old left_new text
  pub many : length text ≡ limit
  pub told : Writes written_old written_new (limit_line limit) InputLimit outcome

-- a read failed, and nothing was written
pub record FailsToRead (limit : ℕ) (left_old left_new written_old written_new : Option (List ℕ)) (outcome : Outcome) : Type 0 where
  pub text : List ℕ
  pub taken : Consumes left_old left_new text
  pub below : length text < limit
  pub silent : Keeps written_old written_new
  pub fault : outcome ≡ SourceFault
