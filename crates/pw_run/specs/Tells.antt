-- What a run of a command that reads a text read and wrote.
use Rattle.std.specs.Prelude.{ℕ, ◌<◌, ◌⊎◌, List, length, Option}
use Rattle.std.specs.Io.KnownBytes.{Consumes, IsAtEnd}
use Rattle.pw_run.specs.declared.outcome.Outcome.{Outcome}
use Rattle.pw_run.specs.declared.outcome.Outcome.TheVariants.{NoMemory}
use Rattle.pw_run.specs.declared.text_command.TextCommand.{TextCommand}
use Rattle.pw_run.specs.declared.text_command.TextCommand.TheVariants.{Check, Detoken, Link, Route}
use Rattle.pw_run.specs.Check.{TellsVerdict}
use Rattle.pw_run.specs.Detoken.{TellsMessages}
use Rattle.pw_run.specs.declared.told.Found.{Found}
use Rattle.pw_run.specs.Link.{TellsLink}
use Rattle.pw_run.specs.Route.{TellsRoutes}
use Rattle.pw_run.specs.Texts.{FailsToRead, MeetsLimit, TellsText, limit_of, outcome_on}
use Rattle.pw_run.specs.Writes.{Writes}

-- what a command tells of a text, and what the text was found to be
abbrev pub Tells : TextCommand → List ℕ → List ℕ → Found → Type 0
Tells Check text told found = TellsText (TellsVerdict text told) found
Tells Detoken text told found = TellsText (TellsMessages text told) found
Tells Link text told found = TellsLink text told found
Tells Route text told found = TellsText (TellsRoutes text told) found

-- what the command tells of this text was written
pub record WritesAll (command : TextCommand) (text : List ℕ) (written_old written_new : Option (List ℕ)) (outcome : Outcome) : Type 0 where
  pub told : List ℕ
  pub found : Found
  pub tells : Tells command text told found
  pub writes : Writes written_old written_new told (outcome_on found) outcome

abbrev pub WritesTold : TextCommand → List ℕ → Option (List ℕ) → Option (List ℕ) → Outcome → Type 0
WritesTold command text written_old written_new NoMemory = Unit {0}
WritesTold command text written_old written_new outcome = WritesAll command text written_old written_new outcome

-- the text was read to its end, and what the command tells of it was written
pub record ReadsText (command : TextCommand) (left_old left_new written_old written_new : Option (List ℕ)) (outcome : Outcome) : Type 0 where
  pub text : List ℕ
  pub taken : Consumes left_old left_new text
  pub below : length text < limit_of command
  pub at_end : IsAtEnd left_new
  pub wrote : WritesAll command text written_old written_new outcome

-- what was read and written, where there was memory
abbrev pub DidText : TextCommand → Option (List ℕ) → Option (List ℕ) → Option (List ℕ) → Option (List ℕ) → Outcome → Type 0
DidText command left_old left_new written_old written_new NoMemory = Unit {0}
DidText command left_old left_new written_old written_new outcome =
    ReadsText command left_old left_new written_old written_new outcome ⊎
    (MeetsLimit (limit_of command) left_old left_new written_old written_new outcome ⊎
    FailsToRead (limit_of command) left_old left_new written_old written_new outcome)
