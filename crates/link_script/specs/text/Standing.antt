-- Which lines may stand behind those before them, and what they add.
use Rattle.std.specs.Prelude.{ℕ, ◌+◌, ◌==◌, ◌&&◌, ◌||◌, nat_lt, Bool, true, not, List, [], ◌∷◌, ◌++◌, length, Some, is_none}
use Rattle.std.specs.List.{list_any}
use Rattle.rpc_ids.specs.declared.method.Role.{Role}
use Rattle.rpc_ids.specs.declared.method.Role.TheVariants.{Server, Client}
use Rattle.link_script.specs.declared.loss.Loss.{Loss}
use Rattle.link_script.specs.declared.script.Script.{Script}
use Rattle.link_script.specs.declared.script.TheConstants.{MAX_FULL}
use Rattle.link_script.specs.declared.stock.Stock.{Stock}
use Rattle.link_script.specs.declared.text.line.Line.{Line}
use Rattle.link_script.specs.declared.text.line.Line.TheVariants as line
use Rattle.link_script.specs.declared.text.line.Setting.{Setting}
use Rattle.link_script.specs.declared.text.line.Setting.TheVariants.{Chunk, Window, Full, Left}

abbrev pub has_some : {A : Type 0} → List A → Bool
has_some xs = not (length xs == 0)

abbrev pub full_of : Script → Role → List Stock
full_of s Server = s.server
full_of s Client = s.client

abbrev pub left_of : Script → Role → List Stock
left_of s Server = s.left_server
left_of s Client = s.left_client

-- the whole resources of both stores
abbrev pub full_count : Script → ℕ
full_count s = length s.server + length s.client

abbrev pub has_stock : List Stock → ℕ → Bool
has_stock stocks id = list_any (λ s. s.id == id) stocks

abbrev pub has_loss : List (ℕ × Loss) → ℕ → Bool
has_loss losses frame = list_any (λ l. l.0 == frame) losses

-- The kinds of lines have an order: chunk, window, whole resources, what was left, losses, commands. A line of a kind
-- behind what was left stands; behind whole resources; behind chunk and window.
abbrev pub is_past_left : Script → Bool
is_past_left s = has_some s.losses || has_some s.commands

abbrev pub is_past_full : Script → Bool
is_past_full s = (has_some s.left_server || has_some s.left_client) || is_past_left s

abbrev pub is_past_windows : Script → Bool
is_past_windows s = nat_lt 0 (full_count s) || is_past_full s

-- chunk and window stand once; no resource stands twice under the same words, and only so many are whole
abbrev pub may_set : Script → Setting → Bool
may_set s (Chunk size) = (is_none s.chunk && is_none s.window) && not (is_past_windows s)
may_set s (Window chunks) = is_none s.window && not (is_past_windows s)
may_set s (Full role stock) = (not (is_past_full s) && not (has_stock (full_of s role) stock.id)) && nat_lt (full_count s) MAX_FULL
may_set s (Left role stock) = not (is_past_left s) && not (has_stock (left_of s role) stock.id)

-- THE DEFINITION OF A LINE THAT MAY STAND BEHIND OTHERS: it is of their last kind or of a later one, and a frame has one loss
abbrev pub may_stand : Script → Line → Bool
may_stand s (line.Setting setting) = may_set s setting
may_stand s (line.Loss l) = not (has_some s.commands) && not (has_loss s.losses l.frame)
may_stand s (line.Command c) = true

abbrev pub with_full : Script → Role → Stock → Script
with_full s Server stock = record s { server = s.server ++ stock ∷ [] }
with_full s Client stock = record s { client = s.client ++ stock ∷ [] }

abbrev pub with_left : Script → Role → Stock → Script
with_left s Server stock = record s { left_server = s.left_server ++ stock ∷ [] }
with_left s Client stock = record s { left_client = s.left_client ++ stock ∷ [] }

abbrev pub with_setting : Script → Setting → Script
with_setting s (Chunk size) = record s { chunk = Some size }
with_setting s (Window chunks) = record s { window = Some chunks }
with_setting s (Full role stock) = with_full s role stock
with_setting s (Left role stock) = with_left s role stock

-- the script with what one more line says
abbrev pub with_line : Script → Line → Script
with_line s (line.Setting setting) = with_setting s setting
with_line s (line.Loss l) = record s { losses = s.losses ++ (l.frame, l.loss) ∷ [] }
with_line s (line.Command c) = record s { commands = s.commands ++ c ∷ [] }
