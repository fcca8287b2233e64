-- What the Close of a channel adds, as a plain table tells.
use Rattle.std.specs.Prelude.{ℕ, ◌+◌, List, [], ◌∷◌, count_by, if◌then◌else◌}
use Rattle.rpc_ids.specs.declared.method.Role.{Role}
use Rattle.rpc_ids.specs.declared.status.Status.TheVariants.{Aborted}
use Rattle.rpc_journal.specs.declared.table.call_state.CallState.{CallState}
use Rattle.rpc_journal.specs.declared.item.Item.{Item}
use Rattle.rpc_journal.specs.declared.table.notice.Notice.TheVariants.{ChannelClosed}
use Rattle.rpc_journal.specs.Entries.{error_type}
use Rattle.rpc_journal.specs.Rows.{packet_item, status_packet}
use Rattle.rpc_journal.specs.table.Touch.{is_told}

-- of the calls from number c on, what goes out of each live one on this channel
abbrev pub closing_items : Role → ℕ → ℕ → List CallState → List Item
closing_items role channel c [] = []
closing_items role channel c (r ∷ rs) =
    if is_told (ChannelClosed channel) r
    then packet_item c (status_packet (error_type role) r.name Aborted) ∷ closing_items role channel (c + 1) rs
    else closing_items role channel (c + 1) rs

-- how many live calls are on this channel
abbrev pub live_on : ℕ → List CallState → ℕ
live_on channel states = count_by (is_told (ChannelClosed channel)) states
