-- What holds of the parts of an end.
use Rattle.std.specs.Prelude.{◌≡◌, ℕ, true, false, Option, Some, None, IfSome, option_map}
use Rattle.rpc_ids.specs.declared.method.Role.{Role}
use Rattle.rpc_handlers.specs.declared.event.Memo.{Memo}
use Rattle.rpc_handlers.specs.HandlerRule.{HandlerRule}
use Rattle.rpc_journal.specs.declared.answers.StartRefused.{StartRefused}
use Rattle.rpc_journal.specs.declared.answers.StartRefused.TheVariants.{JournalFull}
use Rattle.rpc_journal.specs.Calls.{runner_of}
use Rattle.rpc_journal.specs.Items.{is_for}
use Rattle.rpc_journal.specs.Lawful.{IsLegal}
use Rattle.rpc_journal.specs.Refusals.{is_full}
use Rattle.rpc_journal.specs.Runs.{IsRunning}
use Rattle.rpc_journal.specs.CallTable.{Table, past}
use Rattle.rpc_journal.specs.Ran.{Ran}
use Rattle.rpc_schedule.specs.ends.OwnEntries.{AreOwn}

-- the call of the run that is kept
abbrev pub kept_call : Option Ran → Option ℕ
kept_call kept = option_map (λ r. r.run.call) kept

-- the run is on, by seat 2, and its handler wasn't asked yet
pub record IsKept (rule : HandlerRule) (table : Table) (r : Ran) : Type 0 where
  pub on : IsRunning rule table.setting table.entries r.run
  pub seat : r.run.seat ≡ 2
  pub unasked : r.answer ≡ None

-- an end's journal is legal and has only entries of its own; no run is on but the one that is kept; and it tells of a
-- full journal only where the journal is full
pub record IsEnd (role : Role) (rule : HandlerRule) (seed : Memo) (table : Table) (kept : Option Ran) (refused : Option StartRefused) : Type 0 where
  pub legal : IsLegal rule table.setting table.entries
  pub has_role : table.setting.role ≡ role
  pub seeded : seed ≡ table.setting.seed
  pub own : AreOwn role table.entries
  pub kept_on : IfSome kept (IsKept rule table)
  pub others : (c : ℕ) → is_for c (kept_call kept) ≡ false → runner_of (past table) c ≡ None
  pub full : refused ≡ Some JournalFull → is_full table.entries ≡ true
