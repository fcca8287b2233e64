-- What holds of the parts of a call table.
use Rattle.std.specs.Prelude.{◌≡◌, ℕ, ◌<◌, ◌^◌, List, length, drop, Option, is_some}
use Rattle.rpc_handlers.specs.declared.event.Memo.{Memo}
use Rattle.rpc_handlers.specs.HandlerRule.{HandlerRule}
use Rattle.rpc_journal.specs.declared.table.call_states.CallStates.{CallStates}
use Rattle.rpc_journal.specs.declared.item.Item.{Item}
use Rattle.rpc_journal.specs.declared.setting.Setting.{Setting}
use Rattle.rpc_journal.specs.Effect.{Deed}
use Rattle.rpc_journal.specs.History.{history}
use Rattle.rpc_journal.specs.Items.{flush_count, items_sent}
use Rattle.rpc_journal.specs.Lawful.{IsLegal}
use Rattle.rpc_journal.specs.Recorded.{Recorded}
use Rattle.rpc_journal.specs.table.Agrees.{Agrees}
use Rattle.rpc_calls.specs.Handlers.{KeepsAll}
use Rattle.rpc_calls.specs.Room.{HasRoom, HasPlaces}

-- the parts of a table stand for a history: the states of its calls, their handlers, and the items that wait
pub record StandsFor {H : Type 0} (now : H → Memo) (can_act : H → Type 0) (rule : HandlerRule) (set : Setting) (ds : List Deed) (states : CallStates) (handlers : List (Option H)) (items : List Item) : Type 0 where
  pub agrees : Agrees ds states
  pub keeps : KeepsAll now can_act rule set ds handlers
  pub queue : items ≡ drop (flush_count ds) (items_sent ds)

-- it has the room for what is never refused, and few enough calls to be numbered
pub record HasAllRoom (states : CallStates) (items : List Item) (spare capacity : ℕ) : Type 0 where
  pub room : HasRoom states.calls.items (length items) states.input_ended (is_some states.halted) spare capacity
  pub places : HasPlaces states.calls.items states.input_ended
  pub few : length states.calls.items < 2 ^ 32

-- a table: its journal is legal, and its parts stand for it
pub record IsTable {H : Type 0} (now : H → Memo) (can_act : H → Type 0) (rule : HandlerRule) (set : Setting) (recorded : Recorded) (states : CallStates) (handlers : List (Option H)) (items : List Item) (capacity : ℕ) : Type 0 where
  pub legal : IsLegal rule set recorded.entries
  pub stands : StandsFor now can_act rule set (history set recorded.entries) states handlers items
  pub room : HasAllRoom states items recorded.spare capacity
