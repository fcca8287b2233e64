-- What the rows of the tables of arrivals are made of.
use Rattle.std.specs.Prelude.{ℕ, Bool, false, not, ◌||◌, List, [], ◌∷◌, ◌++◌, filter, Option, Some, None}
use Rattle.rpc_ids.specs.declared.method.MethodRef.{MethodRef}
use Rattle.rpc_ids.specs.declared.status.Status.{Status}
use Rattle.rpc_ids.specs.Registry.{method_of}
use Rattle.rpc_ids.specs.Status.{status_number}
use Rattle.rpc_packet.specs.declared.call_name.CallName.{CallName}
use Rattle.rpc_packet.specs.declared.owned.Packet.{Packet}
use Rattle.rpc_packet.specs.declared.packet_type.PacketType.{PacketType}
use Rattle.rpc_handlers.specs.declared.event.Event.{Event}
use Rattle.rpc_handlers.specs.declared.event.Event.TheVariants.{Ended, Request}
use Rattle.rpc_journal.specs.declared.answers.Arrived.{Arrived}
use Rattle.rpc_journal.specs.declared.answers.Arrived.TheVariants.{Opened, Queued, Closed, Answered, Dropped}
use Rattle.rpc_journal.specs.declared.entry.EntryKind.{EntryKind}
use Rattle.rpc_journal.specs.declared.entry.EntryKind.TheVariants.{Close}
use Rattle.rpc_journal.specs.declared.item.Act.TheVariants.{Send}
use Rattle.rpc_journal.specs.declared.item.Item.{Item}
use Rattle.rpc_journal.specs.declared.setting.Setting.{Setting}
use Rattle.rpc_journal.specs.Effect.{Effect, Deed}
use Rattle.rpc_journal.specs.Items.{is_for}
use Rattle.rpc_journal.specs.Kinds.{or_else}

-- a row of a table: what the packet does, and what its arrival answers
pub record Row : Type 0 where
  pub does : Effect
  pub answer : Arrived

abbrev pub channel_closed : EntryKind → Option ℕ
channel_closed (Close channel) = Some channel
channel_closed _ = None

-- a Close of this channel is there
abbrev pub is_closed : List Deed → ℕ → Bool
is_closed [] channel = false
is_closed (d ∷ ds) channel = is_for channel (channel_closed d.entry.kind) || is_closed ds channel

-- the channels that are in: those that the history begins with, without those of its Close entries
abbrev pub channels_in : Setting → List Deed → List ℕ
channels_in set ds = filter (λ channel. not (is_closed ds channel)) set.channels

-- the method that a name asks for
abbrev pub method_named : Setting → CallName → Option MethodRef
method_named set name = method_of set.registry name.service name.method

abbrev pub no_effect : Effect
no_effect = record { opens = None; ends = []; drops = []; puts = []; says = [] }

-- one thing, and then another
abbrev pub both_effects : Effect → Effect → Effect
both_effects a b =
    record { opens = or_else a.opens b.opens; ends = a.ends ++ b.ends; drops = a.drops ++ b.drops; puts = a.puts ++ b.puts; says = a.says ++ b.says }

-- c ends, and Ended waits behind its other events
abbrev pub ends_call : ℕ → Status → Effect
ends_call c s = record no_effect { ends = (c, s) ∷ []; puts = (c, Ended s) ∷ [] }

-- c ends; its waiting events go, and Ended waits
abbrev pub ends_and_clears : ℕ → Status → Effect
ends_and_clears c s = record (ends_call c s) { drops = c ∷ [] }

-- an event waits for c
abbrev pub puts_event : ℕ → Event → Effect
puts_event c event = record no_effect { puts = (c, event) ∷ [] }

-- a new call, for which its Request waits
abbrev pub opens_served : Packet → MethodRef → ℕ → Effect
opens_served p m c =
    record no_effect { opens = Some (record { name = p.name; method = m; given = None }); puts = (c, Request p.payload) ∷ [] }

abbrev pub says_item : Item → Effect
says_item item = record no_effect { says = item ∷ [] }

-- a packet with a status and no payload
abbrev pub status_packet : PacketType → CallName → Status → Packet
status_packet ptype name s = record { ptype = ptype; name = name; payload = []; status = status_number s }

-- a packet of call c
abbrev pub packet_item : ℕ → Packet → Item
packet_item c p = record { call = Some c; act = Send p }

abbrev pub dropped_row : Row
dropped_row = record { does = no_effect; answer = Dropped }

-- a reply, with the name of the packet and of no call
abbrev pub replied_row : PacketType → Packet → Status → Row
replied_row ptype p s =
    record { does = says_item (record { call = None; act = Send (status_packet ptype p.name s) }); answer = Answered }

abbrev pub queued_row : ℕ → Event → Row
queued_row c event = record { does = puts_event c event; answer = Queued c }

abbrev pub closed_row : ℕ → Effect → Row
closed_row c effect = record { does = effect; answer = Closed c }

abbrev pub opened_row : ℕ → Effect → Row
opened_row c effect = record { does = effect; answer = Opened c }
