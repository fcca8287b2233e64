-- What a table makes of a packet, as one of eleven moves.
use Rattle.std.specs.Prelude.{ℕ, List}
use Rattle.rpc_ids.specs.declared.status.Status.TheVariants.{Cancelled, FailedPrecondition}
use Rattle.rpc_packet.specs.declared.owned.Packet.{Packet}
use Rattle.rpc_packet.specs.declared.packet_type.PacketType.TheVariants.{ClientError, ServerError}
use Rattle.rpc_handlers.specs.declared.event.Event.TheVariants.{Message, Completion}
use Rattle.rpc_journal.specs.declared.table.arrival_move.Move.{Move}
use Rattle.rpc_journal.specs.declared.table.arrival_move.Move.TheVariants.{Drop, Reply, Close, Open, OpenAnew, Queue, Complete, Stray, End, Refuse, Answer}
use Rattle.rpc_journal.specs.declared.table.call_state.CallState.{CallState}
use Rattle.rpc_journal.specs.table.Agrees.{IsOpenAt}
use Rattle.rpc_journal.specs.ClientTable.{refuses_stream}
use Rattle.rpc_journal.specs.Rows.{Row, both_effects, ends_call, ends_and_clears, puts_event, opens_served, dropped_row, replied_row, queued_row, closed_row, opened_row}

-- the row of the table of arrivals that a move stands for, where there are n calls
abbrev pub row_of : Move → Packet → ℕ → Row
row_of Drop p n = dropped_row
row_of (Reply s) p n = replied_row ServerError p s
row_of (Close c s) p n = closed_row c (ends_and_clears c s)
row_of (Open m) p n = opened_row n (opens_served p m n)
row_of (OpenAnew m c) p n = opened_row n (both_effects (ends_and_clears c Cancelled) (opens_served p m n))
row_of (Queue c) p n = queued_row c (Message p.payload)
row_of (Complete c) p n = queued_row c Completion
row_of Stray p n = replied_row ClientError p FailedPrecondition
row_of (End c s) p n = closed_row c (ends_call c s)
row_of (Refuse c) p n = closed_row c (refuses_stream p c)
row_of (Answer c s) p n = closed_row c (both_effects (puts_event c (Message p.payload)) (ends_call c s))

-- the call that a move names is there, and has no end
abbrev pub IsOpenMove : List CallState → Move → Type 0
IsOpenMove states (Close c s) = IsOpenAt states c
IsOpenMove states (OpenAnew m c) = IsOpenAt states c
IsOpenMove states (Queue c) = IsOpenAt states c
IsOpenMove states (Complete c) = IsOpenAt states c
IsOpenMove states (End c s) = IsOpenAt states c
IsOpenMove states (Refuse c) = IsOpenAt states c
IsOpenMove states (Answer c s) = IsOpenAt states c
IsOpenMove states _ = Unit {0}
