-- The handlers that a table keeps, by what the history says of their calls.
use Rattle.std.specs.Prelude.{◌≡◌, ℕ, Bool, true, false, ◌&&◌, ◌||◌, List, length, slice_get, Option, Some, None, is_some, IsTrue}
use Rattle.rpc_handlers.specs.declared.event.Memo.{Memo}
use Rattle.rpc_handlers.specs.HandlerRule.{HandlerRule}
use Rattle.rpc_journal.specs.declared.table.call_state.CallState.{CallState}
use Rattle.rpc_journal.specs.declared.setting.Setting.{Setting}
use Rattle.rpc_journal.specs.Effect.{Deed}
use Rattle.rpc_journal.specs.Calls.{call_count, has_end, is_cancelled, is_replaced, runner_of}
use Rattle.rpc_journal.specs.Kinds.{is_empty}
use Rattle.rpc_journal.specs.Queues.{waiting_of}
use Rattle.rpc_journal.specs.States.{began_since, state_of, state_before_run}

-- no further run of c can begin: it is cancelled, or it has an end and no event waits
abbrev pub is_over : List Deed → ℕ → Bool
is_over ds c = is_cancelled ds c || (has_end ds c && is_empty (waiting_of ds c))

-- the same, as the state of a call tells
abbrev pub over_state : CallState → Bool
over_state r = r.cancelled || (is_some r.status && is_empty r.waiting.items)

-- the handler can be asked and, where its type is ruled, has the state that the history gives to c
pub record IsHandlerOf {H : Type 0} (now : H → Memo) (can_act : H → Type 0) (rule : HandlerRule) (set : Setting) (ds : List Deed) (c : ℕ) (handler : H) : Type 0 where
  pub able : can_act handler
  pub state : IsTrue rule.ruled → state_of rule set ds c ≡ Some (now handler)

-- c runs with a handler that was replaced since
pub record IsReplacedIn (ds : List Deed) (c : ℕ) : Type 0 where
  pub replaced : is_replaced ds c ≡ true
  pub later : began_since ds c ≡ false

-- c runs with the handler that it had at its Start
pub record IsOut (rule : HandlerRule) (set : Setting) (ds : List Deed) (c : ℕ) : Type 0 where
  pub kept : is_replaced ds c ≡ false
  pub began : began_since ds c ≡ true
  pub state : state_before_run rule set ds c ≡ state_of rule set ds c

-- what the table keeps for c, by the seat that runs c: without a run it is c's handler, or nothing where c is over; in
-- a run it is the handler that replaced the one that runs, or nothing
abbrev pub Keeps : {H : Type 0} → (H → Memo) → (H → Type 0) → HandlerRule → Setting → List Deed → ℕ → Option ℕ → Option H → Type 0
Keeps now can_act rule set ds c None None = is_over ds c ≡ true
Keeps now can_act rule set ds c None (Some h) = IsHandlerOf now can_act rule set ds c h
Keeps now can_act rule set ds c (Some seat) None = IsOut rule set ds c
Keeps now can_act rule set ds c (Some seat) (Some h) = IsHandlerOf now can_act rule set ds c h × IsReplacedIn ds c

-- one place for each call, by its number
pub record KeepsAll {H : Type 0} (now : H → Memo) (can_act : H → Type 0) (rule : HandlerRule) (set : Setting) (ds : List Deed) (kept : List (Option H)) : Type 0 where
  pub many : length kept ≡ call_count ds
  pub each : (c : ℕ) (slot : Option H) → slice_get kept c ≡ Some slot → Keeps now can_act rule set ds c (runner_of ds c) slot
