-- The words of each command that works on threads.
use Rattle.std.specs.Prelude.{◌≡◌, ◌≢◌, ℕ, ◌^◌, ◌<◌, ◌≤◌, List, [], ◌∷◌, codes}
use Rattle.std.specs.Fmt.{decimal}
use Rattle.pw_run.specs.declared.live_command.LiveCommand.{LiveCommand}
use Rattle.pw_run.specs.declared.live_command.LiveCommand.TheVariants.{Crew, Serve, Host, Bridge, Client}
use Rattle.pw_run.specs.declared.live_command.TheConstants.{MAX_CONNECTIONS, MAX_WORKERS}
use Rattle.pw_run.specs.ClientCommand.{IsClientCommand}

-- a number of workers
abbrev pub IsCrewSize : ℕ → Type 0
IsCrewSize workers = (1 ≤ workers) × (workers ≤ MAX_WORKERS)

-- the words name this command. Numbers are decimal, with no sign and no leading zero, and a path isn't empty
abbrev pub IsLiveCommand : List (List ℕ) → LiveCommand → Type 0
IsLiveCommand words (Crew workers) = (words ≡ codes "crew" ∷ decimal workers ∷ []) × IsCrewSize workers
IsLiveCommand words (Serve workers connections) =
    (path : List ℕ) × (words ≡ codes "serve" ∷ path ∷ decimal workers ∷ decimal connections ∷ []) × (path ≢ []) ×
    IsCrewSize workers × (1 ≤ connections) × (connections ≤ MAX_CONNECTIONS)
IsLiveCommand words (Host workers) =
    (path : List ℕ) × (words ≡ codes "host" ∷ path ∷ decimal workers ∷ []) × (path ≢ []) × IsCrewSize workers
IsLiveCommand words (Bridge at_right at_left) =
    (left right : List ℕ) × (words ≡ codes "bridge" ∷ left ∷ right ∷ decimal at_right ∷ decimal at_left ∷ []) × (left ≢ []) × (right ≢ []) ×
    (at_right < 2 ^ 32) × (at_left < 2 ^ 32) × (at_right ≢ at_left)
IsLiveCommand words (Client command) = IsClientCommand words command

-- the words name no such command
abbrev pub IsNoLiveCommand : List (List ℕ) → Type 0
IsNoLiveCommand words = (command : LiveCommand) → IsLiveCommand words command → ⊥
