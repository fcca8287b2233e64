-- What a script says, and within which bounds.
use Rattle.std.specs.Prelude.{ℕ, ◌+◌, ◌^◌, ◌<◌, ◌≤◌, List, [], length, None}
use Rattle.hex.specs.Hex.{IsBytes}
use Rattle.transfer_base.specs.declared.limits.TheConstants.{MAX_RESOURCE, MAX_CHUNK, MAX_WINDOW}
use Rattle.link_script.specs.declared.command.Command.{Command}
use Rattle.link_script.specs.declared.command.Command.TheVariants.{Read, Write, Echo, Count, Sum, Chat, Close}
use Rattle.link_script.specs.declared.command.TheConstants.{MAX_MESSAGE}
use Rattle.link_script.specs.declared.loss.Loss.{Loss}
use Rattle.link_script.specs.declared.loss.Loss.TheVariants.{Lose, Repeat, Swap, Flip}
use Rattle.link_script.specs.declared.script.Script.{Script}
use Rattle.link_script.specs.declared.stock.Stock.{Stock}
use Rattle.link_script.specs.declared.stock.TheConstants.{MAX_STOCK}

abbrev pub new_script : Script
new_script = record { chunk = None; window = None; server = []; client = []; left_server = []; left_client = []; losses = []; commands = [] }

-- the numbers of a resource fit
pub record IsStock (s : Stock) : Type 0 where
  pub id : s.id < 2 ^ 32
  pub len : s.len ≤ MAX_STOCK
  pub seed : s.seed < 2 ^ 64

-- the numbers of a loss fit
abbrev pub IsLoss : Loss → Type 0
IsLoss (Flip bit) = bit < 2 ^ 32
IsLoss _ = Unit {0}

-- the number of a frame
abbrev pub IsFrameNumber : ℕ → Type 0
IsFrameNumber k = (1 ≤ k) × (k < 2 ^ 32)

-- the message of a command
pub record IsMessage (message : List ℕ) : Type 0 where
  pub bytes : IsBytes message
  pub some : 1 ≤ length message
  pub few : length message ≤ MAX_MESSAGE

abbrev pub IsTransfer : ℕ → ℕ → Type 0
IsTransfer resource offset = (resource < 2 ^ 32) × (offset ≤ MAX_RESOURCE)

-- the numbers of a command fit
abbrev pub IsCommand : Command → Type 0
IsCommand (Read resource offset) = IsTransfer resource offset
IsCommand (Write resource offset) = IsTransfer resource offset
IsCommand (Echo bytes) = IsMessage bytes
IsCommand (Count n) = n ≤ 255
IsCommand (Sum bytes) = IsMessage bytes
IsCommand (Chat bytes) = IsMessage bytes
IsCommand (Close channel) = (1 ≤ channel) × (channel ≤ 8)
