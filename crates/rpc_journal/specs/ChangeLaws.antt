-- What follows from the relations of the calls of a table.
use Rattle.std.specs.Prelude.{◌≡◌, ◌≢◌, ℕ, true, List, ◌++◌, Option, Result}
use Rattle.std.specs.List.{AllByRecursion}
use Rattle.entry_lists.specs.Entries.{GoesOn}
use Rattle.link_io.specs.declared.why.Why.{Why}
use Rattle.rpc_ids.specs.declared.status.Status.{Status}
use Rattle.rpc_packet.specs.declared.call_name.CallName.{CallName}
use Rattle.rpc_packet.specs.declared.owned.Packet.{Packet}
use Rattle.rpc_handlers.specs.declared.answer.Answer.{Answer}
use Rattle.rpc_handlers.specs.declared.answer.Out.{Out}
use Rattle.rpc_handlers.specs.declared.event.Memo.{Memo}
use Rattle.rpc_handlers.specs.HandlerRule.{HandlerRule}
use Rattle.rpc_journal.specs.declared.answers.Arrived.{Arrived}
use Rattle.rpc_journal.specs.declared.answers.ArriveRefused.{ArriveRefused}
use Rattle.rpc_journal.specs.declared.answers.InvokeRefused.{InvokeRefused}
use Rattle.rpc_journal.specs.declared.answers.SayRefused.{SayRefused}
use Rattle.rpc_journal.specs.declared.answers.StartRefused.{StartRefused}
use Rattle.rpc_journal.specs.declared.answers.StartOfRefused.{StartOfRefused}
use Rattle.rpc_journal.specs.declared.answers.ReplaceRefused.{ReplaceRefused}
use Rattle.rpc_journal.specs.declared.answers.Cancelled.{Cancelled}
use Rattle.rpc_journal.specs.declared.answers.Cancelled.TheVariants.{Quiet}
use Rattle.rpc_journal.specs.declared.answers.CloseRefused.{CloseRefused}
use Rattle.rpc_journal.specs.declared.entry.Entry.{Entry}
use Rattle.rpc_journal.specs.declared.item.Item.{Item}
use Rattle.rpc_journal.specs.declared.setting.Setting.{Setting}
use Rattle.rpc_journal.specs.Changes.{ArriveDid, InvokeDid, SayDid, DoneDid, StartDid, StartOfDid, FinishDid, ReplaceDid, CancelDid, TickDid, EndInDid, FlushDid, HaltDid, CloseDid}
use Rattle.rpc_journal.specs.Conditions.{CanComplete, CanHalt, CanInvoke, CanSay, IsCall, IsHeard, IsInputOpen}
use Rattle.rpc_journal.specs.Calls.{is_cancelled}
use Rattle.rpc_journal.specs.History.{history}
use Rattle.rpc_journal.specs.Lawful.{IsLawful, IsLegal}
use Rattle.rpc_journal.specs.Laws.{seat_of}
use Rattle.rpc_journal.specs.Quiet.{is_quiet}
use Rattle.rpc_journal.specs.Runs.{Run, Begins, IsAnswerOf, IsRunning}

-- a seat goes on with a history
abbrev pub GoesOnBy : ℕ → List Entry → List Entry → Type 0
GoesOnBy seat before after = GoesOn seat_of seat before after

-- what each call adds is by its seat; H is a type of handlers, and R one of runs
pub record AddsBySeat (H R : Type 0) : Type 0 where
  pub arrive :
      (set : Setting) (seat : ℕ) (p : Packet) (result : Result Arrived ArriveRefused) (before after : List Entry)
      → ArriveDid set seat p result before after → GoesOnBy seat before after
  pub invoke :
      (set : Setting) (seat : ℕ) (name : CallName) (payload : List ℕ) (state : Memo) (result : Result ℕ (H × InvokeRefused)) (before after : List Entry)
      → InvokeDid set seat name payload state result before after → GoesOnBy seat before after
  pub say :
      (set : Setting) (seat c : ℕ) (out : Out) (result : Result (Unit {0}) SayRefused) (before after : List Entry)
      → SayDid set seat c out result before after → GoesOnBy seat before after
  pub done :
      (set : Setting) (seat c : ℕ) (result : Result (Unit {0}) SayRefused) (before after : List Entry)
      → DoneDid set seat c result before after → GoesOnBy seat before after
  pub start :
      (rule : HandlerRule) (run_of : R → Run) (set : Setting) (seat : ℕ) (result : Result (Option R) StartRefused) (before after : List Entry)
      → StartDid rule run_of set seat result before after → GoesOnBy seat before after
  pub start_of :
      (rule : HandlerRule) (run_of : R → Run) (set : Setting) (seat c : ℕ) (result : Result R StartOfRefused) (before after : List Entry)
      → StartOfDid rule run_of set seat c result before after → GoesOnBy seat before after
  pub finish :
      (set : Setting) (run : Run) (a : Answer) (handler : H) (result : Option H) (before after : List Entry)
      → FinishDid set run a handler result before after → GoesOnBy run.seat before after
  pub replace :
      (set : Setting) (seat c : ℕ) (state : Memo) (result : Result (Option H) (H × ReplaceRefused)) (before after : List Entry)
      → ReplaceDid set seat c state result before after → GoesOnBy seat before after
  pub cancel :
      (set : Setting) (seat c : ℕ) (result : Cancelled) (before after : List Entry)
      → CancelDid set seat c result before after → GoesOnBy seat before after
  pub tick :
      (seat now : ℕ) (result : Result (Unit {0}) StartRefused) (before after : List Entry)
      → TickDid seat now result before after → GoesOnBy seat before after
  pub end_in : (seat : ℕ) (before after : List Entry) → EndInDid seat before after → GoesOnBy seat before after
  pub flush_front :
      (set : Setting) (seat : ℕ) (result : Option Item) (before after : List Entry)
      → FlushDid set seat result before after → GoesOnBy seat before after
  pub halt : (set : Setting) (seat : ℕ) (why : Why) (before after : List Entry) → HaltDid set seat why before after → GoesOnBy seat before after
  pub close_channel :
      (set : Setting) (seat channel : ℕ) (result : Result ℕ CloseRefused) (before after : List Entry)
      → CloseDid set seat channel result before after → GoesOnBy seat before after

-- a run that begins is on
abbrev pub BegunRuns : Type 0
BegunRuns =
    (rule : HandlerRule) (set : Setting) (seat : ℕ) (run : Run) (before after : List Entry)
    → Begins rule set seat run before after → IsRunning rule set after run

-- to who feeds the input it stays open over the entries of other seats
abbrev pub InputStaysOpen : Type 0
InputStaysOpen =
    (set : Setting) (h more : List Entry) (seat : ℕ) → IsLawful set (h ++ more)
    → AllByRecursion (λ e. seat_of e ≢ 0) more → IsInputOpen set h seat → IsInputOpen set (h ++ more) seat

-- where a history is legal, and what a call asks holds of it, the history after the call is legal; H is a type of
-- handlers, and R one of runs
pub record KeepsLegal (H R : Type 0) : Type 0 where
  pub arrive :
      (rule : HandlerRule) (set : Setting) (seat : ℕ) (p : Packet) (result : Result Arrived ArriveRefused) (before after : List Entry)
      → IsLegal rule set before → IsInputOpen set before seat → IsHeard set p → ArriveDid set seat p result before after → IsLegal rule set after
  pub invoke :
      (rule : HandlerRule) (set : Setting) (seat : ℕ) (name : CallName) (payload : List ℕ) (state : Memo) (result : Result ℕ (H × InvokeRefused)) (before after : List Entry)
      → IsLegal rule set before → CanInvoke set name payload → InvokeDid set seat name payload state result before after → IsLegal rule set after
  pub say :
      (rule : HandlerRule) (set : Setting) (seat c : ℕ) (out : Out) (result : Result (Unit {0}) SayRefused) (before after : List Entry)
      → IsLegal rule set before → CanSay set before c out → SayDid set seat c out result before after → IsLegal rule set after
  pub done :
      (rule : HandlerRule) (set : Setting) (seat c : ℕ) (result : Result (Unit {0}) SayRefused) (before after : List Entry)
      → IsLegal rule set before → CanComplete set before c → DoneDid set seat c result before after → IsLegal rule set after
  pub start :
      (rule : HandlerRule) (run_of : R → Run) (set : Setting) (seat : ℕ) (result : Result (Option R) StartRefused) (before after : List Entry)
      → IsLegal rule set before → StartDid rule run_of set seat result before after → IsLegal rule set after
  pub start_of :
      (rule : HandlerRule) (run_of : R → Run) (set : Setting) (seat c : ℕ) (result : Result R StartOfRefused) (before after : List Entry)
      → IsLegal rule set before → StartOfDid rule run_of set seat c result before after → IsLegal rule set after
  pub finish :
      (rule : HandlerRule) (set : Setting) (run : Run) (a : Answer) (handler : H) (result : Option H) (before after : List Entry)
      → IsLegal rule set before → IsRunning rule set before run → IsAnswerOf rule run a → FinishDid set run a handler result before after → IsLegal rule set after
  pub replace :
      (rule : HandlerRule) (set : Setting) (seat c : ℕ) (state : Memo) (result : Result (Option H) (H × ReplaceRefused)) (before after : List Entry)
      → IsLegal rule set before → ReplaceDid set seat c state result before after → IsLegal rule set after
  pub cancel :
      (rule : HandlerRule) (set : Setting) (seat c : ℕ) (result : Cancelled) (before after : List Entry)
      → IsLegal rule set before → IsCall set before c → CancelDid set seat c result before after → IsLegal rule set after
  pub tick :
      (rule : HandlerRule) (set : Setting) (seat now : ℕ) (result : Result (Unit {0}) StartRefused) (before after : List Entry)
      → IsLegal rule set before → seat ≡ 1 → TickDid seat now result before after → IsLegal rule set after
  pub end_in :
      (rule : HandlerRule) (set : Setting) (seat : ℕ) (before after : List Entry)
      → IsLegal rule set before → IsInputOpen set before seat → EndInDid seat before after → IsLegal rule set after
  pub flush_front :
      (rule : HandlerRule) (set : Setting) (seat : ℕ) (result : Option Item) (before after : List Entry)
      → IsLegal rule set before → seat ≡ 1 → FlushDid set seat result before after → IsLegal rule set after
  pub halt :
      (rule : HandlerRule) (set : Setting) (seat : ℕ) (why : Why) (before after : List Entry)
      → IsLegal rule set before → CanHalt why → HaltDid set seat why before after → IsLegal rule set after
  pub close_channel :
      (rule : HandlerRule) (set : Setting) (seat channel : ℕ) (result : Result ℕ CloseRefused) (before after : List Entry)
      → IsLegal rule set before → CloseDid set seat channel result before after → IsLegal rule set after

-- where a cancel answers Quiet, the call is quiet, and so it is behind the Finish of a cancelled call; H is a type of
-- handlers
pub record BecomesQuiet (H : Type 0) : Type 0 where
  pub cancel :
      (set : Setting) (seat c : ℕ) (status : Status) (before after : List Entry)
      → CancelDid set seat c (Quiet status) before after → is_quiet (history set after) c ≡ true
  pub finish :
      (set : Setting) (run : Run) (a : Answer) (handler : H) (result : Option H) (before after : List Entry)
      → is_cancelled (history set before) run.call ≡ true
      → FinishDid set run a handler result before after → is_quiet (history set after) run.call ≡ true
