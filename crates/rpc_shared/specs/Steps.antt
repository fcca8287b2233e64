-- A step of the table through the lock.
use Rattle.std.specs.Prelude.{◌≡◌, ℕ, false, true, List, ◌++◌, Option, Some, Result, IfOk, IfSome, IsTrue}
use mathlib.Core.List.{IsPrefix}
use Rattle.entry_lists.specs.Entries.{made_by}
use Rattle.turn_cell.specs.Passes.{HasTaken, IsSame, LockView, PassView, TurnedAway}
use Rattle.rpc_handlers.specs.HandlerRule.{HandlerRule}
use Rattle.rpc_handlers.specs.declared.event.Memo.{Memo}
use Rattle.rpc_journal.specs.declared.entry.Entry.{Entry}
use Rattle.rpc_journal.specs.declared.setting.Setting.{Setting}
use Rattle.rpc_journal.specs.ChangeLaws.{GoesOnBy}
use Rattle.rpc_journal.specs.History.{history}
use Rattle.rpc_journal.specs.Lawful.{IsLegal}
use Rattle.rpc_journal.specs.Laws.{StaysQuiet, seat_of}
use Rattle.rpc_journal.specs.Quiet.{is_quiet}
use Rattle.rpc_journal.specs.States.{state_of}
use Rattle.rpc_journal.specs.CallTable.{Table}

-- the log of a table is its journal, and its base is what is fixed with it
abbrev pub log_of : Table → List Entry
log_of t = t.entries

abbrev pub base_of : Table → Setting
base_of t = t.setting

-- what a call of the table does: of what is fixed with the table, the seat, and the entries before and after
abbrev pub Step : Type 1
Step = Setting → ℕ → List Entry → List Entry → Type 0

-- a pass that came with this table, and doesn't hold it
pub record IsOwn (r : LockView Setting) (p : PassView Entry Setting) : Type 0 where
  pub table : p.table ≡ r.table
  pub base : p.view.base ≡ Some r.base
  pub idle : p.view.holds ≡ false

-- another pass held the table: this one looked, and knows what it knew
pub record IsBusy (r : LockView Setting) (p q : PassView Entry Setting) (found other : ℕ) : Type 0 where
  pub away : TurnedAway p q found other
  pub own_still : IsOwn r q

-- the pass took the table, whose history is legal
pub record Holds (rule : HandlerRule) (r : LockView Setting) (p m : PassView Entry Setting) (t : Table) : Type 0 where
  pub own : IsOwn r p
  pub taken : HasTaken log_of seat_of base_of p m t
  pub setting : t.setting ≡ r.base
  pub legal : IsLegal rule t.setting t.entries

-- a handler that comes back of a call is in the state in which its last run left it
abbrev pub ComesBack : {H E : Type 0} → HandlerRule → (H → Memo) → Setting → ℕ → Result (Option H) E → List Entry → Type 0
ComesBack rule now set call result before =
    IfOk result (λ old. IfSome old (λ h. IsTrue rule.ruled → state_of rule set (history set before) call ≡ Some (now h)))

-- a call on the table, by this seat
pub record Made (rule : HandlerRule) (seat : ℕ) (old new : Table) (step : Step) : Type 0 where
  pub setting : new.setting ≡ old.setting
  pub legal : IsLegal rule new.setting new.entries
  pub adds : GoesOnBy seat old.entries new.entries
  pub did : step old.setting seat old.entries new.entries

-- The same through the lock. The step was made on a legal history that begins with all that the pass had seen and has the
-- pass's own entries and no other of its number; the pass has then seen that history with what the step added, and its
-- own entries have gained just that. A call that was quiet to the pass is quiet still, and no run of it began or ended.
pub record Steps (rule : HandlerRule) (r : LockView Setting) (p q : PassView Entry Setting) (step : Step) : Type 0 where
  pub same : IsSame p q
  pub own_still : IsOwn r q
  pub before : List Entry
  pub begins : IsPrefix p.view.known.seen before
  pub legal : IsLegal rule r.base before
  pub own : made_by seat_of p.view.known.number before ≡ p.view.known.mine
  pub shown : made_by seat_of p.view.known.number p.view.known.seen ≡ p.view.known.mine
  pub did : step r.base p.view.known.number before q.view.known.seen
  pub legal_after : IsLegal rule r.base q.view.known.seen
  pub adds : GoesOnBy p.view.known.number before q.view.known.seen
  pub mine : (added : List Entry) → q.view.known.seen ≡ before ++ added → q.view.known.mine ≡ p.view.known.mine ++ added
  pub quiet :
      (c : ℕ) (more : List Entry) → q.view.known.seen ≡ p.view.known.seen ++ more → is_quiet (history r.base p.view.known.seen) c ≡ true →
      StaysQuiet r.base c p.view.known.seen more
