-- One arrival at a table.
use Rattle.std.specs.Prelude.{◌≡◌, ℕ, ◌<◌, ◌^◌, Bool, false, List, None, Ok, if◌then◌else◌}
use Rattle.rpc_packet.specs.declared.owned.Packet.{Packet}
use Rattle.rpc_handlers.specs.declared.event.Event.{Event}
use Rattle.rpc_handlers.specs.declared.event.Event.TheVariants.{Message, Completion}
use Rattle.rpc_handlers.specs.HandlerRule.{HandlerRule}
use Rattle.rpc_journal.specs.Calls.{call_count, has_end}
use Rattle.rpc_journal.specs.Effect.{Deed}
use Rattle.rpc_journal.specs.declared.answers.Arrived.{Arrived}
use Rattle.rpc_journal.specs.declared.table.arrival_move.Move.{Move}
use Rattle.rpc_journal.specs.declared.table.arrival_move.Move.TheVariants.{Close, OpenAnew, Queue, Complete, End, Refuse, Answer}
use Rattle.rpc_journal.specs.declared.entry.Entry.{Entry}
use Rattle.rpc_journal.specs.declared.setting.Setting.{Setting}
use Rattle.rpc_journal.specs.Changes.{ArriveDid}
use Rattle.rpc_journal.specs.Conditions.{IsHeard, IsInputOpen}
use Rattle.rpc_journal.specs.Entries.{arrive_row}
use Rattle.rpc_journal.specs.History.{history}
use Rattle.rpc_journal.specs.Lawful.{IsLegal}
use Rattle.rpc_journal.specs.Refusals.{arrive_refusal}
use Rattle.rpc_journal.specs.Rows.{Row}

-- nothing speaks against the arrival, which does what this row says
pub record CanTake (set : Setting) (h : List Entry) (seat : ℕ) (p : Packet) (row : Row) : Type 0 where
  pub input : IsInputOpen set h seat
  pub heard : IsHeard set p
  pub unrefused : arrive_refusal set h p ≡ None
  pub is : arrive_row set (history set h) p ≡ row

-- it has arrived
pub record Took (rule : HandlerRule) (set : Setting) (seat : ℕ) (p : Packet) (answer : Arrived) (before after : List Entry) : Type 0 where
  pub did : ArriveDid set seat p (Ok answer) before after
  pub legal : IsLegal rule set after

-- there is such a call, with a number of 32 bits, and it has no end
pub record IsLiveCall (ds : List Deed) (c : ℕ) : Type 0 where
  pub below : c < call_count ds
  pub small : c < 2 ^ 32
  pub live : has_end ds c ≡ false

-- the event that a packet puts to a live call: the end of the client's stream, or its message
abbrev pub event_put : Bool → Packet → Event
event_put completes p = if completes then Completion else Message p.payload

-- the call that a move names is live
abbrev pub IsLiveMove : List Deed → Move → Type 0
IsLiveMove ds (Close c s) = IsLiveCall ds c
IsLiveMove ds (OpenAnew m c) = IsLiveCall ds c
IsLiveMove ds (Queue c) = IsLiveCall ds c
IsLiveMove ds (Complete c) = IsLiveCall ds c
IsLiveMove ds (End c s) = IsLiveCall ds c
IsLiveMove ds (Refuse c) = IsLiveCall ds c
IsLiveMove ds (Answer c s) = IsLiveCall ds c
IsLiveMove ds _ = Unit {0}
