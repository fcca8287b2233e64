-- What items are to the store.
use Rattle.std.specs.Prelude.{ℕ, List, fold, Option, Some, None}
use Rattle.rpc_handlers.specs.declared.answer.Out.{Out}
use Rattle.rpc_handlers.specs.declared.answer.Out.TheVariants.{Say, Begin, Append, Commit, Leave}
use Rattle.rpc_journal.specs.declared.item.Act.{Act}
use Rattle.rpc_journal.specs.declared.item.Act.TheVariants.{Send, Keep, LeaveCall}
use Rattle.rpc_journal.specs.declared.item.Item.{Item}

-- the steps of a store of works, each by the number of a call and of a session
pub record StoreSteps (S : Type 0) : Type 0 where
  pub begin : (call session resource offset : ℕ) → S → S
  pub append : (call session : ℕ) → List ℕ → S → S
  pub commit : (call session : ℕ) → S → S
  pub leave : (call session : ℕ) → S → S
  pub leave_call : (call : ℕ) → S → S

-- the store after one store action of a call; a message is none
abbrev pub after_out : {S : Type 0} → StoreSteps S → ℕ → Out → S → S
after_out steps c (Say payload) store = store
after_out steps c (Begin session resource offset) store = steps.begin c session resource offset store
after_out steps c (Append session bytes) store = steps.append c session bytes store
after_out steps c (Commit session) store = steps.commit c session store
after_out steps c (Leave session) store = steps.leave c session store

abbrev pub after_act : {S : Type 0} → StoreSteps S → Act → ℕ → S → S
after_act steps (Send p) c store = store
after_act steps (Keep out) c store = after_out steps c out store
after_act steps LeaveCall c store = steps.leave_call c store

-- the store after one item; an item of no call is no store action
abbrev pub after_item : {S : Type 0} → StoreSteps S → Option ℕ → Act → S → S
after_item steps None act store = store
after_item steps (Some c) act store = after_act steps act c store

-- the store after the store actions among these items, in order
abbrev pub store_after : {S : Type 0} → StoreSteps S → S → List Item → S
store_after steps store items = fold (λ st item. after_item steps item.call item.act st) store items
