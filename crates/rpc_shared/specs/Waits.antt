-- A pass that waits until a cancelled call is quiet.
use Rattle.std.specs.Prelude.{◌≡◌, ℕ, true, List, ◌++◌, Some}
use mathlib.Core.List.{IsPrefix}
use Rattle.turn_cell.specs.Passes.{IsSame, LockView, PassView}
use Rattle.rpc_ids.specs.declared.status.Status.{Status}
use Rattle.rpc_handlers.specs.HandlerRule.{HandlerRule}
use Rattle.rpc_journal.specs.declared.answers.Cancelled.{Cancelled}
use Rattle.rpc_journal.specs.declared.entry.Entry.{Entry}
use Rattle.rpc_journal.specs.declared.setting.Setting.{Setting}
use Rattle.rpc_journal.specs.Calls.{end_of}
use Rattle.rpc_journal.specs.Changes.{CancelDid}
use Rattle.rpc_journal.specs.History.{history}
use Rattle.rpc_journal.specs.Lawful.{IsLegal}
use Rattle.rpc_journal.specs.Laws.{StaysQuiet}
use Rattle.rpc_journal.specs.Quiet.{is_quiet}
use Rattle.rpc_shared.specs.Steps.{IsOwn, Steps}

-- The pass has seen more, and added nothing. A call that was quiet to it is quiet still, and no run of it began or ended.
pub record SeesMore (rule : HandlerRule) (r : LockView Setting) (p q : PassView Entry Setting) : Type 0 where
  pub same : IsSame p q
  pub own_still : IsOwn r q
  pub begins : IsPrefix p.view.known.seen q.view.known.seen
  pub legal : IsLegal rule r.base q.view.known.seen
  pub mine : q.view.known.mine ≡ p.view.known.mine
  pub quiet :
      (c : ℕ) (more : List Entry) → q.view.known.seen ≡ p.view.known.seen ++ more → is_quiet (history r.base p.view.known.seen) c ≡ true →
      StaysQuiet r.base c p.view.known.seen more

-- in what the pass has seen the call is quiet, and this is its status
pub record IsQuietWith (set : Setting) (c : ℕ) (status : Status) (q : PassView Entry Setting) : Type 0 where
  pub quiet : is_quiet (history set q.view.known.seen) c ≡ true
  pub status_is : end_of (history set q.view.known.seen) c ≡ Some status

-- one cancel, and then looks alone until the call is quiet
pub record CancelsAndWaits (rule : HandlerRule) (r : LockView Setting) (c : ℕ) (status : Status) (p q : PassView Entry Setting) : Type 0 where
  pub middle : PassView Entry Setting
  pub answer : Cancelled
  pub cancels : Steps rule r p middle (λ set seat. CancelDid set seat c answer)
  pub waits : SeesMore rule r middle q
  pub ends : IsQuietWith r.base c status q
