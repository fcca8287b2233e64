-- Which lines of a script are good, and what they say.
use Rattle.std.specs.Prelude.{◌≡◌, ℕ, ◌≤◌, List, ◌++◌, codes}
use Rattle.std.specs.Fmt.{decimal}
use Rattle.hex.specs.Hex.{encode_lower}
use Rattle.rpc_ids.specs.declared.method.Role.TheVariants.{Server, Client}
use Rattle.transfer_base.specs.declared.limits.TheConstants.{MAX_CHUNK, MAX_WINDOW}
use Rattle.link_script.specs.declared.command.Command.{Command}
use Rattle.link_script.specs.declared.command.Command.TheVariants.{Read, Write, Echo, Count, Sum, Chat, Close}
use Rattle.link_script.specs.declared.loss.Loss.{Loss}
use Rattle.link_script.specs.declared.loss.Loss.TheVariants.{Lose, Repeat, Swap, Flip}
use Rattle.link_script.specs.declared.stock.Stock.{Stock}
use Rattle.link_script.specs.Script.{IsStock, IsLoss, IsFrameNumber, IsCommand}
use Rattle.link_script.specs.declared.text.line.Line.{Line}
use Rattle.link_script.specs.declared.text.line.Line.TheVariants as line
use Rattle.link_script.specs.declared.text.line.LossAt.{LossAt}
use Rattle.link_script.specs.declared.text.line.Setting.{Setting}
use Rattle.link_script.specs.declared.text.line.Setting.TheVariants.{Chunk, Window, Full, Left}

-- two numbers with a blank between them
abbrev pub two_numbers : ℕ → ℕ → List ℕ
two_numbers n m = decimal n ++ (codes " " ++ decimal m)

abbrev pub stock_text : Stock → List ℕ
stock_text s = decimal s.id ++ (codes " " ++ two_numbers s.len s.seed)

-- the line says how chunks are asked for, or what a store has
abbrev pub IsSettingLine : List ℕ → Setting → Type 0
IsSettingLine text (Chunk size) = (text ≡ codes "chunk " ++ decimal size) × ((1 ≤ size) × (size ≤ MAX_CHUNK))
IsSettingLine text (Window chunks) = (text ≡ codes "window " ++ decimal chunks) × ((1 ≤ chunks) × (chunks ≤ MAX_WINDOW))
IsSettingLine text (Full Server s) = (text ≡ codes "server " ++ stock_text s) × IsStock s
IsSettingLine text (Full Client s) = (text ≡ codes "client " ++ stock_text s) × IsStock s
IsSettingLine text (Left Server s) = (text ≡ codes "left server " ++ stock_text s) × IsStock s
IsSettingLine text (Left Client s) = (text ≡ codes "left client " ++ stock_text s) × IsStock s

abbrev pub loss_text : ℕ → Loss → List ℕ
loss_text frame Lose = codes "drop " ++ decimal frame
loss_text frame Repeat = codes "repeat " ++ decimal frame
loss_text frame Swap = codes "swap " ++ decimal frame
loss_text frame (Flip bit) = codes "flip " ++ two_numbers frame bit

-- the line says what the link does to a frame
pub record IsLossLine (text : List ℕ) (l : LossAt) : Type 0 where
  pub spelled : text ≡ loss_text l.frame l.loss
  pub frame : IsFrameNumber l.frame
  pub loss : IsLoss l.loss

abbrev pub transfer_text : ℕ → ℕ → List ℕ
transfer_text resource offset = two_numbers resource offset

abbrev pub command_text : Command → List ℕ
command_text (Read resource offset) = codes "read " ++ transfer_text resource offset
command_text (Write resource offset) = codes "write " ++ transfer_text resource offset
command_text (Echo bytes) = codes "echo " ++ encode_lower bytes
command_text (Count n) = codes "count " ++ decimal n
command_text (Sum bytes) = codes "sum " ++ encode_lower bytes
command_text (Chat bytes) = codes "chat " ++ encode_lower bytes
command_text (Close channel) = codes "close " ++ decimal channel

-- the line says what happens
abbrev pub IsCommandLine : List ℕ → Command → Type 0
IsCommandLine text c = (text ≡ command_text c) × IsCommand c

-- the line says this
abbrev pub IsLine : List ℕ → Line → Type 0
IsLine text (line.Setting s) = IsSettingLine text s
IsLine text (line.Loss l) = IsLossLine text l
IsLine text (line.Command c) = IsCommandLine text c
