-- The items of a history, its arrivals, and whether the input has ended or the table is halted.
use Rattle.std.specs.Prelude.{ℕ, ◌+◌, ◌-◌, Bool, true, false, not, ◌&&◌, ◌||◌, ◌==◌, nat_lt, List, [], ◌∷◌, ◌++◌, length, take, flat_map, Option, Some, None, is_none, if◌then◌else◌}
use Rattle.std.specs.List.{list_any}
use Rattle.link_io.specs.declared.why.Why.{Why}
use Rattle.rpc_packet.specs.declared.owned.Packet.{Packet}
use Rattle.rpc_packet.specs.declared.packet_type.PacketType.{PacketType}
use Rattle.rpc_packet.specs.declared.packet_type.PacketType.TheVariants.{Completion}
use Rattle.rpc_journal.specs.declared.entry.Entry.{Entry}
use Rattle.rpc_journal.specs.declared.entry.EntryKind.{EntryKind}
use Rattle.rpc_journal.specs.declared.entry.EntryKind.TheVariants.{Arrive, Tick, Flush, EndIn, Halt}
use Rattle.rpc_journal.specs.declared.item.Item.{Item}
use Rattle.rpc_journal.specs.declared.item.Act.{Act}
use Rattle.rpc_journal.specs.declared.item.Act.TheVariants.{Send}
use Rattle.rpc_journal.specs.Effect.{Deed}
use Rattle.rpc_journal.specs.Calls.{runner_of, is_cancelled}
use Rattle.rpc_journal.specs.Queues.{waiting_of}
use Rattle.rpc_journal.specs.Kinds.{is_empty, or_else}

abbrev pub arrival_of : EntryKind → List Packet
arrival_of (Arrive p) = p ∷ []
arrival_of _ = []

-- the packets that arrived, in order; of entries in order
abbrev pub arrivals : List Entry → List Packet
arrivals [] = []
arrivals (e ∷ h) = arrival_of e.kind ++ arrivals h

abbrev pub is_flush : EntryKind → Bool
is_flush Flush = true
is_flush _ = false

-- how many of these entries are a Flush
abbrev pub flushes : List Entry → ℕ
flushes [] = 0
flushes (e ∷ h) = if is_flush e.kind then flushes h + 1 else flushes h

-- the items of all entries, in order
abbrev pub items_sent : List Deed → List Item
items_sent [] = []
items_sent (d ∷ ds) = items_sent ds ++ d.does.says

-- how many items were flushed
abbrev pub flush_count : List Deed → ℕ
flush_count [] = 0
flush_count (d ∷ ds) = if is_flush d.entry.kind then flush_count ds + 1 else flush_count ds

-- the items that were flushed: as many of the first ones as there are Flush entries
abbrev pub items_flushed : List Deed → List Item
items_flushed ds = take (flush_count ds) (items_sent ds)

-- how many items wait to be flushed
abbrev pub items_waiting : List Deed → ℕ
items_waiting ds = length (items_sent ds) - flush_count ds

abbrev pub packet_of : Act → List Packet
packet_of (Send p) = p ∷ []
packet_of _ = []

-- the packets among these items, in order
abbrev pub packets_of : List Item → List Packet
packets_of items = flat_map (λ item. packet_of item.act) items

abbrev pub reason_of : EntryKind → Option Why
reason_of (Halt why) = Some why
reason_of _ = None

-- the reason of the Halt, where there is one
abbrev pub halt_reason : List Deed → Option Why
halt_reason [] = None
halt_reason (d ∷ ds) = or_else (reason_of d.entry.kind) (halt_reason ds)

abbrev pub is_end_in : EntryKind → Bool
is_end_in EndIn = true
is_end_in _ = false

-- EndIn is there
abbrev pub input_ended : List Deed → Bool
input_ended [] = false
input_ended (d ∷ ds) = is_end_in d.entry.kind || input_ended ds

-- among these entries is an EndIn
abbrev pub ends_input : List Entry → Bool
ends_input h = list_any (λ e. is_end_in e.kind) h

abbrev pub moment_of : EntryKind → List ℕ
moment_of (Tick now) = now ∷ []
moment_of _ = []

-- the moments of the Tick entries, in order; of entries in order
abbrev pub moments : List Entry → List ℕ
moments [] = []
moments (e ∷ h) = moment_of e.kind ++ moments h

abbrev pub is_for : ℕ → Option ℕ → Bool
is_for c None = false
is_for c (Some x) = x == c

abbrev pub is_completion_type : PacketType → Bool
is_completion_type Completion = true
is_completion_type _ = false

abbrev pub sends_completion : Act → Bool
sends_completion (Send p) = is_completion_type p.ptype
sends_completion _ = false

-- this client has completed its stream of c: a CLIENT_REQUEST_COMPLETION of c is among the items
abbrev pub is_done : List Deed → ℕ → Bool
is_done ds c = list_any (λ item. is_for c item.call && sends_completion item.act) (items_sent ds)

-- an event waits for c, c has no run and isn't cancelled, fewer than 65,536 items wait, and there is no Halt
abbrev pub is_ready : List Deed → ℕ → Bool
is_ready ds c =
    not (is_empty (waiting_of ds c)) && is_none (runner_of ds c) && not (is_cancelled ds c)
    && nat_lt (items_waiting ds) 65536 && is_none (halt_reason ds)
