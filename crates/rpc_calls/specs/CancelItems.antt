-- What a Cancel adds.
use Rattle.std.specs.Prelude.{ℕ, Bool, List, [], ◌∷◌, ◌++◌, if◌then◌else◌}
use Rattle.rpc_ids.specs.declared.status.Status.TheVariants.{Cancelled}
use Rattle.rpc_packet.specs.declared.call_name.CallName.{CallName}
use Rattle.rpc_ids.specs.declared.method.Role.{Role}
use Rattle.rpc_journal.specs.declared.item.Item.{Item}
use Rattle.rpc_journal.specs.Entries.{error_type, leave_item}
use Rattle.rpc_journal.specs.Rows.{packet_item, status_packet}

-- SERVER_ERROR or CLIENT_ERROR CANCELLED, by the role, where the call had no end, and LeaveCall where it doesn't run
abbrev pub cancel_items : Role → ℕ → CallName → Bool → Bool → List Item
cancel_items role c name ended runs =
    (if ended then [] else packet_item c (status_packet (error_type role) name Cancelled) ∷ []) ++ (if runs then [] else leave_item c ∷ [])
