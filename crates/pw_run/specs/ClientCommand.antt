-- The words of each command of a client.
use Rattle.std.specs.Prelude.{◌≡◌, ◌≢◌, ℕ, ◌^◌, ◌<◌, ◌≤◌, List, [], ◌∷◌, codes}
use Rattle.std.specs.Fmt.{decimal}
use Rattle.transfer_base.specs.declared.limits.TheConstants.{MAX_RESOURCE}
use Rattle.pw_run.specs.declared.client_command.ClientCommand.{ClientCommand}
use Rattle.pw_run.specs.declared.client_command.ClientCommand.TheVariants.{Get, Put, Watch}
use Rattle.pw_run.specs.declared.client_command.TheConstants.{MAX_WATCH}

-- a number of messages that a watch may wait for
abbrev pub IsWatchLimit : ℕ → Type 0
IsWatchLimit limit = (1 ≤ limit) × (limit ≤ MAX_WATCH)

-- the words name this command. Numbers are decimal, with no sign and no leading zero, and the path isn't empty
abbrev pub IsClientCommand : List (List ℕ) → ClientCommand → Type 0
IsClientCommand words (Get resource offset) =
    (path : List ℕ) × (words ≡ codes "get" ∷ path ∷ decimal resource ∷ decimal offset ∷ []) × (path ≢ []) × (resource < 2 ^ 32) × (offset ≤ MAX_RESOURCE)
IsClientCommand words (Put resource offset) =
    (path : List ℕ) × (words ≡ codes "put" ∷ path ∷ decimal resource ∷ decimal offset ∷ []) × (path ≢ []) × (resource < 2 ^ 32) × (offset ≤ MAX_RESOURCE)
IsClientCommand words (Watch number limit) =
    (path : List ℕ) × (words ≡ codes "watch" ∷ path ∷ decimal number ∷ decimal limit ∷ []) × (path ≢ []) × (number < 2 ^ 8) × IsWatchLimit limit

-- the numbers of a command are within their bounds
abbrev pub IsBounded : ClientCommand → Type 0
IsBounded (Get resource offset) = offset ≤ MAX_RESOURCE
IsBounded (Put resource offset) = offset ≤ MAX_RESOURCE
IsBounded (Watch number limit) = IsWatchLimit limit
