-- Runs of calls, between their Start and their Finish.
use Rattle.std.specs.Prelude.{◌≡◌, ℕ, false, List, length, slice_get, Some, IsTrue}
use Rattle.rpc_handlers.specs.declared.answer.Answer.{Answer}
use Rattle.rpc_handlers.specs.declared.event.Event.{Event}
use Rattle.rpc_handlers.specs.declared.event.Memo.{Memo}
use Rattle.rpc_handlers.specs.HandlerRule.{HandlerRule}
use Rattle.rpc_handlers.specs.Limits.{is_past_limits}
use Rattle.rpc_journal.specs.declared.entry.Entry.{Entry}
use Rattle.rpc_journal.specs.declared.entry.EntryKind.TheVariants.{Start}
use Rattle.rpc_journal.specs.declared.setting.Setting.{Setting}
use Rattle.rpc_journal.specs.Calls.{runner_of}
use Rattle.rpc_journal.specs.Queues.{taken_event}
use Rattle.rpc_journal.specs.States.{state_of, state_before_run}
use Rattle.rpc_journal.specs.History.{history, entry_by, adding}

-- a run: its call, the seat that runs it, the place of its Start, the event that it took, and the state that its
-- handler had at its Start
pub record Run : Type 0 where
  pub call : ℕ
  pub seat : ℕ
  pub place : ℕ
  pub event : Event
  pub state : Memo

-- the run is on in this history: the entry at its place is its Start, which took its event, no Finish of its call
-- follows, and where the handler's type is ruled the history gives that state there
pub record IsRunning (rule : HandlerRule) (set : Setting) (h : List Entry) (run : Run) : Type 0 where
  pub started : slice_get h run.place ≡ Some (entry_by run.seat (Start run.call))
  pub unfinished : runner_of (history set h) run.call ≡ Some run.seat
  pub took : taken_event (history set h) run.call ≡ Some run.event
  pub had : IsTrue rule.ruled → state_before_run rule set (history set h) run.call ≡ Some run.state

-- the seat adds a Start, and this is its run
pub record Begins (rule : HandlerRule) (set : Setting) (by : ℕ) (run : Run) (before after : List Entry) : Type 0 where
  pub adds : after ≡ adding before by (Start run.call)
  pub own_seat : run.seat ≡ by
  pub newest : run.place ≡ length before
  pub takes : taken_event (history set after) run.call ≡ Some run.event
  pub has : IsTrue rule.ruled → state_of rule set (history set before) run.call ≡ Some run.state

-- what the handler of a run answered: within the limits and, where its type is ruled, by the rule
pub record IsAnswerOf (rule : HandlerRule) (run : Run) (a : Answer) : Type 0 where
  pub limits : is_past_limits a ≡ false
  pub by_rule : IsTrue rule.ruled → a ≡ rule.answer run.state run.event
