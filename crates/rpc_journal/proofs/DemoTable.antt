-- A server and a client with four methods, and their packets: what the examples speak of.
use Rattle.std.proofs.Common.{ℕ, true, false, List, [], ◌∷◌}
use Rattle.rpc_ids.specs.declared.method.Kind.{Kind}
use Rattle.rpc_ids.specs.declared.method.Kind.TheVariants.{Unary, ServerStream, ClientStream, Bidi}
use Rattle.rpc_ids.specs.declared.method.MethodRef.{MethodRef}
use Rattle.rpc_ids.specs.declared.method.Role.{Role}
use Rattle.rpc_ids.specs.declared.method.Role.TheVariants.{Server, Client}
use Rattle.rpc_packet.specs.declared.call_name.CallName.{CallName}
use Rattle.rpc_packet.specs.declared.owned.Packet.{Packet}
use Rattle.rpc_packet.specs.declared.packet_type.PacketType.{PacketType}
use Rattle.rpc_handlers.specs.HandlerRule.{empty_memo}
use Rattle.rpc_journal.specs.declared.entry.Entry.{Entry}
use Rattle.rpc_journal.specs.declared.entry.EntryKind.TheVariants.{Arrive}
use Rattle.rpc_journal.specs.declared.setting.Setting.{Setting}
use Rattle.rpc_journal.specs.History.{entry_by}

abbrev pub demo : ℕ → Kind → MethodRef
demo method kind = record { service = 7; method = method; kind = kind; ticks = false }

abbrev pub setting_of : Role → Setting
setting_of role =
    record { role = role; channels = 1 ∷ 2 ∷ []; registry = demo 1 Unary ∷ demo 2 ServerStream ∷ demo 3 ClientStream ∷ demo 4 Bidi ∷ record (demo 5 Bidi) { ticks = true } ∷ []; seed = empty_memo }

abbrev pub server : Setting
server = setting_of Server

abbrev pub client : Setting
client = setting_of Client

-- call 1 of a method of the demo service on channel 1
abbrev pub name_of : ℕ → CallName
name_of method = record { channel = 1; service = 7; method = method; call = 1 }

abbrev pub echo : CallName
echo = name_of 1

abbrev pub count : CallName
count = name_of 2

abbrev pub sum : CallName
sum = name_of 3

abbrev pub chat : CallName
chat = name_of 4

-- a method whose live calls are told of the time
abbrev pub watch : CallName
watch = name_of 5

abbrev pub packet : PacketType → CallName → List ℕ → Packet
packet ptype name payload = record { ptype = ptype; name = name; payload = payload; status = 0 }

-- the packet arrives
abbrev pub arrives : Packet → Entry
arrives p = entry_by 0 (Arrive p)
