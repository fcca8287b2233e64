-- A run in the hands of the pass that began it.
use Rattle.std.specs.Prelude.{◌≡◌, ◌≢◌, ◌⊎◌, false, List, None}
use Rattle.turn_cell.specs.Passes.{PassView}
use Rattle.rpc_handlers.specs.HandlerRule.{HandlerRule}
use Rattle.rpc_journal.specs.Ran.{Ran}
use Rattle.rpc_journal.specs.declared.entry.Entry.{Entry}
use Rattle.rpc_journal.specs.declared.setting.Setting.{Setting}
use Rattle.rpc_journal.specs.Calls.{is_finish_of}
use Rattle.rpc_journal.specs.Laws.{seat_of}
use Rattle.rpc_journal.specs.Runs.{IsRunning, Run}

-- the run is on in what the pass has seen, by the pass's own seat, and its handler wasn't asked
pub record Runs (rule : HandlerRule) (set : Setting) (q : PassView Entry Setting) (x : Ran) : Type 0 where
  pub on : IsRunning rule set q.view.known.seen x.run
  pub seat : x.run.seat ≡ q.view.known.number
  pub unasked : x.answer ≡ None

-- no Finish of the run's call by its own seat
abbrev pub LetsRun : Run → Entry → Type 0
LetsRun run e = (seat_of e ≢ run.seat) ⊎ (is_finish_of run.call e.kind ≡ false)
