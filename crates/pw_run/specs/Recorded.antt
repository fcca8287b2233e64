-- What a run of each recorded command read, wrote and stored.
use Rattle.std.specs.Prelude.{◌≡◌, ℕ, ◌≤◌, List, length, Option}
use Rattle.link_io.specs.Stored.{Stored}
use Rattle.stream_dump.specs.declared.named.TheConstants.{MAX_NAMED}
use Rattle.pw_run.specs.declared.command.Command.{Command}
use Rattle.pw_run.specs.declared.command.Command.TheVariants.{Replay, Text, Load, Dump}
use Rattle.pw_run.specs.declared.command.TheConstants.{MAX_LOAD}
use Rattle.pw_run.specs.declared.outcome.Outcome.{Outcome}
use Rattle.pw_run.specs.Outcome.{code_of}
use Rattle.pw_run.specs.Dump.{DidDump}
use Rattle.pw_run.specs.Load.{DidLoad}
use Rattle.pw_run.specs.Replay.{DidReplay}
use Rattle.pw_run.specs.Tells.{DidText}

-- what is left of the input, what is written and what the store holds, before and after a command with this outcome
abbrev pub Did : Command → Option (List ℕ) → Option (List ℕ) → Option (List ℕ) → Option (List ℕ) → Option Stored → Option Stored → Outcome → Type 0
Did (Replay form) left_old left_new written_old written_new store_old store_new outcome =
    DidReplay form left_old left_new written_old written_new store_old store_new outcome
Did (Text command) left_old left_new written_old written_new store_old store_new outcome =
    DidText command left_old left_new written_old written_new outcome
Did (Load calls seed) left_old left_new written_old written_new store_old store_new outcome =
    DidLoad calls seed written_old written_new outcome
Did (Dump names) left_old left_new written_old written_new store_old store_new outcome =
    DidDump names left_old left_new written_old written_new outcome

-- the exit status is that of an outcome of which this holds
abbrev pub EndsWith : ℕ → (Outcome → Type 0) → Type 0
EndsWith status DidSo = (outcome : Outcome) × (status ≡ code_of outcome) × DidSo outcome

-- the command doesn't touch the store that it is handed
abbrev pub IsStoreless : Command → Type 0
IsStoreless (Replay form) = ⊥
IsStoreless (Text command) = Unit {0}
IsStoreless (Load calls seed) = Unit {0}
IsStoreless (Dump names) = Unit {0}

-- a load has at most 30,000 calls, and a dump is given at most 64 names
abbrev pub Fits : Command → Type 0
Fits (Load calls seed) = calls ≤ MAX_LOAD
Fits (Dump names) = length names ≤ MAX_NAMED
Fits _ = Unit {0}
