-- The words of each recorded command.
use Rattle.std.specs.Prelude.{◌≡◌, ℕ, ◌≤◌, ◌<◌, ◌^◌, List, [], ◌∷◌, codes}
use Rattle.std.specs.Fmt.{decimal}
use Rattle.stream_dump.specs.Named.{AreNamed}
use Rattle.pw_run.specs.declared.command.Command.{Command}
use Rattle.pw_run.specs.declared.command.Command.TheVariants.{Replay, Text, Load, Dump}
use Rattle.pw_run.specs.declared.command.Form.TheVariants.{Report, Raw, Journal}
use Rattle.pw_run.specs.declared.command.TheConstants.{MAX_LOAD}
use Rattle.pw_run.specs.declared.text_command.TextCommand.TheVariants.{Check, Detoken, Link, Route}

-- the words name this command. Numbers are decimal, with no sign and no leading zero; behind `dump` each word names a method
abbrev pub IsCommand : List (List ℕ) → Command → Type 0
IsCommand words (Replay Report) = words ≡ codes "replay" ∷ []
IsCommand words (Replay Raw) = words ≡ codes "replay" ∷ codes "raw" ∷ []
IsCommand words (Replay Journal) = words ≡ codes "replay" ∷ codes "journal" ∷ []
IsCommand words (Text Check) = words ≡ codes "check" ∷ []
IsCommand words (Text Detoken) = words ≡ codes "detoken" ∷ []
IsCommand words (Text Link) = words ≡ codes "link" ∷ []
IsCommand words (Text Route) = words ≡ codes "route" ∷ []
IsCommand words (Load calls seed) =
    (words ≡ codes "load" ∷ decimal calls ∷ decimal seed ∷ []) × (calls ≤ MAX_LOAD) × (seed < 2 ^ 64)
IsCommand words (Dump names) = (more : List (List ℕ)) × (words ≡ codes "dump" ∷ more) × AreNamed more names

-- the words name no command
abbrev pub IsNoCommand : List (List ℕ) → Type 0
IsNoCommand words = (command : Command) → IsCommand words command → ⊥
