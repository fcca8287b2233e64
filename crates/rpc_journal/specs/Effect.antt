-- What an entry does.
use Rattle.std.specs.Prelude.{ℕ, List, Option}
use Rattle.rpc_ids.specs.declared.method.MethodRef.{MethodRef}
use Rattle.rpc_ids.specs.declared.status.Status.{Status}
use Rattle.rpc_packet.specs.declared.call_name.CallName.{CallName}
use Rattle.rpc_handlers.specs.declared.event.Event.{Event}
use Rattle.rpc_handlers.specs.declared.event.Memo.{Memo}
use Rattle.rpc_journal.specs.declared.entry.Entry.{Entry}
use Rattle.rpc_journal.specs.declared.item.Item.{Item}

-- a call as it opens: its name, its method, and the state that an Invoke gives its handler
pub record Opening : Type 0 where
  pub name : CallName
  pub method : MethodRef
  pub given : Option Memo

-- what an entry does: the call that it opens, the ends that it gives to calls, the calls whose waiting events it
-- drops, the events that it puts to calls, and the items that it adds
pub record Effect : Type 0 where
  pub opens : Option Opening
  pub ends : List (ℕ × Status)
  pub drops : List ℕ
  pub puts : List (ℕ × Event)
  pub says : List Item

-- an entry with what it does
pub record Deed : Type 0 where
  pub entry : Entry
  pub does : Effect
