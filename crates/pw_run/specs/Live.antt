-- What a run of each command on threads read, wrote and stored.
use Rattle.std.specs.Prelude.{ℕ, ◌⊎◌, List}
use Rattle.pw_run.specs.declared.client_command.ClientCommand.{ClientCommand}
use Rattle.pw_run.specs.declared.live_command.LiveCommand.{LiveCommand}
use Rattle.pw_run.specs.declared.live_command.LiveCommand.TheVariants.{Crew, Serve, Host, Bridge, Client}
use Rattle.pw_run.specs.declared.outcome.Outcome.{Outcome}
use Rattle.pw_run.specs.Bridge.{DidBridge}
use Rattle.pw_run.specs.CallCommand.{AsksForCall}
use Rattle.pw_run.specs.Client.{DidClient}
use Rattle.pw_run.specs.Crew.{DidCrew}
use Rattle.pw_run.specs.Devices.{Devices}
use Rattle.pw_run.specs.LiveCommand.{IsLiveCommand}
use Rattle.pw_run.specs.Serve.{DidHost, DidServe}

-- what the devices hold before and after a command with this outcome
abbrev pub DidLive : LiveCommand → Devices → Devices → Outcome → Type 0
DidLive (Crew workers) before after outcome = DidCrew workers before after outcome
DidLive (Serve workers connections) before after outcome = DidServe workers connections before after outcome
DidLive (Host workers) before after outcome = DidHost workers before after outcome
DidLive (Bridge at_right at_left) before after outcome = DidBridge at_right at_left before after outcome
DidLive (Client command) before after outcome = DidClient command before after outcome

-- the words ask for connections to be served in turn, so many or as they come
abbrev pub IsServe : List (List ℕ) → Type 0
IsServe words = ((workers connections : ℕ) × IsLiveCommand words (Serve workers connections)) ⊎ ((workers : ℕ) × IsLiveCommand words (Host workers))

-- the words ask for a bridge between two links
abbrev pub IsBridge : List (List ℕ) → Type 0
IsBridge words = (at_right at_left : ℕ) × IsLiveCommand words (Bridge at_right at_left)

-- the words ask for something that a client does
abbrev pub IsClient : List (List ℕ) → Type 0
IsClient words = (command : ClientCommand) × IsLiveCommand words (Client command)

-- the command makes links. It reads no input, and its faults are those of the links
abbrev pub MakesLinks : List (List ℕ) → Type 0
MakesLinks words = IsServe words ⊎ (IsBridge words ⊎ (IsClient words ⊎ AsksForCall words))
