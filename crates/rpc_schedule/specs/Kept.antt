-- What the items of a server do to a store.
use Rattle.std.specs.Prelude.{◌≡◌, ℕ, Bool, true, false, List, Option, Some, None, option_map}
use Rattle.link_io.specs.declared.store.StoreKey.{StoreKey}
use Rattle.link_io.specs.Stored.{Stored, abandoned, all_abandoned, appended, begun, committed}
use Rattle.rpc_handlers.specs.declared.answer.Out.{Out}
use Rattle.rpc_handlers.specs.declared.answer.Out.TheVariants.{Say}
use Rattle.rpc_journal.specs.declared.item.Act.{Act}
use Rattle.rpc_journal.specs.declared.item.Act.TheVariants.{Send, Keep, LeaveCall}
use Rattle.rpc_journal.specs.declared.item.Item.{Item}
use Rattle.rpc_journal.specs.StoreSteps.{StoreSteps, after_item, after_out, store_after}

abbrev pub key : ℕ → ℕ → StoreKey
key call session = record { call = call; session = session }

-- the steps of a store that tells what it holds
abbrev pub stored_steps : StoreSteps Stored
stored_steps = record {
  begin = λ call session resource offset s. begun (key call session) resource offset s;
  append = λ call session bytes s. appended (key call session) bytes s;
  commit = λ call session s. committed (key call session) s;
  leave = λ call session s. abandoned (key call session) s;
  leave_call = λ call s. all_abandoned call s;
}

-- what a store holds after the store actions among these items, in order
abbrev pub kept : List Item → Stored → Stored
kept items s = store_after stored_steps s items

-- the change by one item, and by one store action of a call
abbrev pub change_of : Option ℕ → Act → Stored → Stored
change_of call act s = after_item stored_steps call act s

abbrev pub change_by : ℕ → Out → Stored → Stored
change_by call out s = after_out stored_steps call out s

-- a store that held this before these items holds that behind them, where it tells
abbrev pub Holds : List Item → Option Stored → Option Stored → Type 0
Holds items before now = now ≡ option_map (kept items) before

-- an action on the store, of a call
abbrev pub is_store_action : Option ℕ → Act → Bool
is_store_action None act = false
is_store_action (Some c) (Send p) = false
is_store_action (Some c) (Keep (Say payload)) = false
is_store_action (Some c) (Keep out) = true
is_store_action (Some c) LeaveCall = true
