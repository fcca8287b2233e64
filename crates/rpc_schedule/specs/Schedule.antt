-- The schedule of one thread: what is done when a packet has arrived, or the input has ended, until nothing is left to
-- do. Each ready call runs, the one whose oldest event was put first before the others; then the items that wait go
-- out; and this again where a call is ready then.
use Rattle.std.specs.Prelude.{◌≡◌, ℕ, zero, suc, List, slice_get, Option, Some, None, IsTrue, option_and_then, option_map}
use Rattle.rpc_handlers.specs.declared.answer.Answer.{Answer}
use Rattle.rpc_handlers.specs.HandlerRule.{HandlerRule}
use Rattle.rpc_journal.specs.declared.entry.Entry.{Entry}
use Rattle.rpc_journal.specs.declared.entry.EntryKind.TheVariants.{Start, Finish, Flush}
use Rattle.rpc_journal.specs.declared.item.Item.{Item}
use Rattle.rpc_journal.specs.declared.setting.Setting.{Setting}
use Rattle.rpc_journal.specs.Choice.{IsFirstReady, NoneReady, SomeReady}
use Rattle.rpc_journal.specs.Effect.{Deed}
use Rattle.rpc_journal.specs.History.{history, adding}
use Rattle.rpc_journal.specs.Items.{flush_count, items_sent}
use Rattle.rpc_journal.specs.Queues.{taken_event}
use Rattle.rpc_journal.specs.States.{state_before_run}

-- the seat that feeds the input
abbrev pub input_seat : ℕ
input_seat = 0

-- the seat that flushes
abbrev pub flush_seat : ℕ
flush_seat = 1

-- the seat that runs handlers
abbrev pub run_seat : ℕ
run_seat = 2

-- the answer that the rule of the handlers' type gives to the last run of c, by the event that it took and the state
-- before it
abbrev pub answer_by_rule : HandlerRule → Setting → List Deed → ℕ → Option Answer
answer_by_rule rule set ds c =
    option_and_then (λ state. option_map (rule.answer state) (taken_event ds c)) (state_before_run rule set ds c)

-- the run of c that is on in this history has this answer by the rule, where the handlers' type is ruled
abbrev pub IsByRule : HandlerRule → Setting → List Entry → ℕ → Answer → Type 0
IsByRule rule set h c answer = IsTrue rule.ruled → answer_by_rule rule set (history set h) c ≡ Some answer

-- the first item that wasn't flushed
abbrev pub next_item : List Deed → Option Item
next_item ds = slice_get (items_sent ds) (flush_count ds)

-- no item waits to be flushed
abbrev pub NoneWaits : List Deed → Type 0
NoneWaits ds = next_item ds ≡ None

-- the call that is first ready ran, and has its Start and its Finish
pub record Ran (rule : HandlerRule) (set : Setting) (before after : List Entry) : Type 0 where
  pub call : ℕ
  pub answer : Answer
  pub first : IsFirstReady (history set before) call
  pub by_rule : IsByRule rule set (adding before run_seat (Start call)) call answer
  pub adds : after ≡ adding (adding before run_seat (Start call)) run_seat (Finish call answer)

-- an item waited, and has its Flush
pub record Flushed (set : Setting) (before after : List Entry) : Type 0 where
  pub item : Item
  pub waits : next_item (history set before) ≡ Some item
  pub adds : after ≡ adding before flush_seat Flush

-- where a settling stands, with the entries so far: calls are run, or items are flushed
pub data Stage : Type 0 where
  running : (entries : List Entry) → Stage
  flushing : (entries : List Entry) → Stage

-- One turn of a settling. While calls run, the first ready one is run; where none is ready, items are flushed from then
-- on. While items are flushed, the first one that waits is; where none waits and a call is ready, calls run again.
abbrev pub Turn : HandlerRule → Setting → Stage → Stage → Type 0
Turn rule set (running h) (running now) = Ran rule set h now
Turn rule set (running h) (flushing now) = NoneReady (history set h) × (now ≡ h)
Turn rule set (flushing h) (flushing now) = Flushed set h now
Turn rule set (flushing h) (running now) = NoneWaits (history set h) × SomeReady (history set h) × (now ≡ h)

-- so many turns
abbrev pub Turns : HandlerRule → Setting → ℕ → Stage → Stage → Type 0
Turns rule set zero stage now = stage ≡ now
Turns rule set (suc n) stage now = (next : Stage) × Turn rule set stage next × Turns rule set n next now

-- some number of turns
abbrev pub Reaches : HandlerRule → Setting → Stage → Stage → Type 0
Reaches rule set stage now = (n : ℕ) × Turns rule set n stage now

-- nothing is left to do: no call is ready, and no item waits
pub record IsOver (set : Setting) (h : List Entry) : Type 0 where
  pub none_ready : NoneReady (history set h)
  pub none_waits : NoneWaits (history set h)

-- one history is settled, and that gives the other
pub record Settles (rule : HandlerRule) (set : Setting) (before after : List Entry) : Type 0 where
  pub reaches : Reaches rule set (running before) (flushing after)
  pub over : IsOver set after
