-- One relation for each call of a table: what is fixed with it, the seat, the arguments, the result, and the entries
-- before and after.
use Rattle.std.specs.Prelude.{◌≡◌, ℕ, Bool, true, false, ◌&&◌, ◌||◌, List, [], ◌∷◌, ◌++◌, length, slice_get, ◌⊎◌, Option, Some, None, Result, is_some, is_none, unwrap_or, OnOk, OnErr, IfOk, IfErr, IfSome, IfNone, if◌then◌else◌}
use Rattle.link_io.specs.declared.why.Why.{Why}
use Rattle.rpc_ids.specs.declared.status.Status.{Status}
use Rattle.rpc_ids.specs.declared.status.Status.TheVariants.{Cancelled as WasCancelled}
use Rattle.rpc_packet.specs.declared.call_name.CallName.{CallName}
use Rattle.rpc_packet.specs.declared.owned.Packet.{Packet}
use Rattle.rpc_packet.specs.declared.packet_type.PacketType.TheVariants.{Request}
use Rattle.rpc_handlers.specs.declared.answer.Answer.{Answer}
use Rattle.rpc_handlers.specs.declared.answer.Out.{Out}
use Rattle.rpc_handlers.specs.declared.event.Memo.{Memo}
use Rattle.rpc_handlers.specs.HandlerRule.{HandlerRule}
use Rattle.rpc_journal.specs.declared.answers.Arrived.{Arrived}
use Rattle.rpc_journal.specs.declared.answers.ArriveRefused as arrive
use Rattle.rpc_journal.specs.declared.answers.InvokeRefused as invoke
use Rattle.rpc_journal.specs.declared.answers.SayRefused as say
use Rattle.rpc_journal.specs.declared.answers.StartRefused as start
use Rattle.rpc_journal.specs.declared.answers.StartOfRefused as start_of
use Rattle.rpc_journal.specs.declared.answers.ReplaceRefused as replace
use Rattle.rpc_journal.specs.declared.answers.CloseRefused as close
use Rattle.rpc_journal.specs.declared.answers.Cancelled.{Cancelled}
use Rattle.rpc_journal.specs.declared.answers.Cancelled.TheVariants.{Quiet, Running}
use Rattle.rpc_journal.specs.declared.entry.Entry.{Entry}
use Rattle.rpc_journal.specs.declared.entry.EntryKind.TheVariants.{Arrive, Invoke, Say, Done, Finish, Replace, Cancel, Tick, Flush, EndIn, Halt, Close}
use Rattle.rpc_journal.specs.declared.item.Item.{Item}
use Rattle.rpc_journal.specs.declared.setting.Setting.{Setting}
use Rattle.rpc_journal.specs.Effect.{Deed}
use Rattle.rpc_journal.specs.Calls.{call_count, end_of, has_end, is_cancelled, is_replaced, runner_of}
use Rattle.rpc_journal.specs.Queues.{waiting_of}
use Rattle.rpc_journal.specs.Items.{flush_count, halt_reason, items_sent}
use Rattle.rpc_journal.specs.Kinds.{is_empty}
use Rattle.rpc_journal.specs.Entries.{arrive_row, close_effect}
use Rattle.rpc_journal.specs.History.{history, entry_by, adding}
use Rattle.rpc_journal.specs.Choice.{IsFirstReady, NoneReady, SomeReady}
use Rattle.rpc_journal.specs.Refusals.{is_full, arrive_refusal, invoke_refusal, say_refusal, done_refusal, start_of_refusal, replace_refusal, tick_refusal, close_refusal}
use Rattle.rpc_journal.specs.Runs.{Run, Begins}

-- A call that may be refused. Nothing speaks against an accepted one; it answers and adds its entry. A refused one
-- tells the first thing that speaks against it, or want of memory, and adds nothing. `told` is the refusal in what
-- is returned.
pub record Accepts {A F E : Type 0} (told : F → E) (refusal : Option E) (memory : E) (answers : A → Type 0) (entry : Entry) (result : Result A F) (before after : List Entry) : Type 0 where
  pub unrefused : OnOk result (refusal ≡ None)
  pub answer : IfOk result answers
  pub adds : OnOk result (after ≡ before ++ entry ∷ [])
  pub cause : IfErr result (λ f. (told f ≡ memory) ⊎ (refusal ≡ Some (told f)))
  pub kept : OnErr result (after ≡ before)

-- arrive: the answer is that of the packet's row
abbrev pub ArriveDid : Setting → ℕ → Packet → Result Arrived arrive.ArriveRefused → List Entry → List Entry → Type 0
ArriveDid set seat p result before after =
    Accepts (λ e. e) (arrive_refusal set before p) arrive.TheVariants.Memory
    (λ answer. answer ≡ (arrive_row set (history set before) p).answer)
    (entry_by seat (Arrive p)) result before after

abbrev pub request : CallName → List ℕ → Packet
request name payload = record { ptype = Request; name = name; payload = payload; status = 0 }

-- invoke with a handler in this state: the answer is the new call's number
abbrev pub InvokeDid : {H : Type 0} → Setting → ℕ → CallName → List ℕ → Memo → Result ℕ (H × invoke.InvokeRefused) → List Entry → List Entry → Type 0
InvokeDid set seat name payload state result before after =
    Accepts (λ e. e.1) (invoke_refusal set before name) invoke.TheVariants.Memory
    (λ c. c ≡ call_count (history set before))
    (entry_by seat (Invoke (request name payload) state)) result before after

abbrev pub SayDid : Setting → ℕ → ℕ → Out → Result (Unit {0}) say.SayRefused → List Entry → List Entry → Type 0
SayDid set seat c out result before after =
    Accepts (λ e. e) (say_refusal set before c out) say.TheVariants.Memory (λ _. Unit {0})
    (entry_by seat (Say c out)) result before after

abbrev pub DoneDid : Setting → ℕ → ℕ → Result (Unit {0}) say.SayRefused → List Entry → List Entry → Type 0
DoneDid set seat c result before after =
    Accepts (λ e. e) (done_refusal set before c) say.TheVariants.Memory (λ _. Unit {0})
    (entry_by seat (Done c)) result before after

-- start: a run of the ready call whose oldest waiting event was put first; None exactly where none is ready, also in
-- a full journal. `run_of` is what contracts see of a run.
pub record StartDid {R : Type 0} (rule : HandlerRule) (run_of : R → Run) (set : Setting) (seat : ℕ) (result : Result (Option R) start.StartRefused) (before after : List Entry) : Type 0 where
  pub begins : IfOk result (λ o. IfSome o (λ r. Begins rule set seat (run_of r) before after))
  pub chosen : IfOk result (λ o. IfSome o (λ r. IsFirstReady (history set before) (run_of r).call))
  pub room : IfOk result (λ o. IfSome o (λ r. is_full before ≡ false))
  pub none : IfOk result (λ o. IfNone o (NoneReady (history set before)))
  pub idle : IfOk result (λ o. IfNone o (after ≡ before))
  pub cause : IfErr result (λ e. (e ≡ start.TheVariants.Memory) ⊎ ((e ≡ start.TheVariants.JournalFull) × (is_full before ≡ true) × SomeReady (history set before)))
  pub kept : OnErr result (after ≡ before)

-- start_of: a run of this call, where it is ready
pub record StartOfDid {R : Type 0} (rule : HandlerRule) (run_of : R → Run) (set : Setting) (seat c : ℕ) (result : Result R start_of.StartOfRefused) (before after : List Entry) : Type 0 where
  pub begins : IfOk result (λ r. Begins rule set seat (run_of r) before after)
  pub chosen : IfOk result (λ r. (run_of r).call ≡ c)
  pub unrefused : OnOk result (start_of_refusal set before c ≡ None)
  pub cause : IfErr result (λ e. (e ≡ start_of.TheVariants.Memory) ⊎ (start_of_refusal set before c ≡ Some e))
  pub kept : OnErr result (after ≡ before)

-- after a Finish of c the table has no further use for the handler that ran: c is cancelled, the handler was replaced
-- since the Start, or c has an end and no event waits
abbrev pub is_spent : List Deed → List Deed → ℕ → Bool
is_spent before after c =
    is_cancelled after c || is_replaced before c || (has_end after c && is_empty (waiting_of after c))

-- finish: it is never refused, and gives the handler that ran back exactly where the table has no further use for it
pub record FinishDid {H : Type 0} (set : Setting) (run : Run) (a : Answer) (handler : H) (result : Option H) (before after : List Entry) : Type 0 where
  pub adds : after ≡ adding before run.seat (Finish run.call a)
  pub gives_back : is_some result ≡ is_spent (history set before) (history set after) run.call
  pub the_one : IfSome result (λ h. h ≡ handler)

-- replace by a handler in this state: the old one comes back exactly where the call doesn't run
abbrev pub ReplaceDid : {H : Type 0} → Setting → ℕ → ℕ → Memo → Result (Option H) (H × replace.ReplaceRefused) → List Entry → List Entry → Type 0
ReplaceDid set seat c state result before after =
    Accepts (λ e. e.1) (replace_refusal set before c) replace.TheVariants.Memory
    (λ old. is_some old ≡ is_none (runner_of (history set before) c))
    (entry_by seat (Replace c state)) result before after

abbrev pub cancel_answer : Status → Option ℕ → Cancelled
cancel_answer status None = Quiet status
cancel_answer status (Some seat) = Running status seat

-- cancel: it is never refused, and a second one adds nothing. It tells the status, which is CANCELLED where the call
-- had no end, and the seat that runs the call
pub record CancelDid (set : Setting) (seat c : ℕ) (result : Cancelled) (before after : List Entry) : Type 0 where
  pub adds : after ≡ (if is_cancelled (history set before) c then before else adding before seat (Cancel c))
  pub answer : result ≡ cancel_answer (unwrap_or (end_of (history set before) c) WasCancelled) (runner_of (history set before) c)

abbrev pub TickDid : ℕ → ℕ → Result (Unit {0}) start.StartRefused → List Entry → List Entry → Type 0
TickDid seat now result before after =
    Accepts (λ e. e) (tick_refusal before) start.TheVariants.Memory (λ _. Unit {0})
    (entry_by seat (Tick now)) result before after

-- end_in: it is never refused
pub record EndInDid (seat : ℕ) (before after : List Entry) : Type 0 where
  pub adds : after ≡ adding before seat EndIn

-- the items that wait to go out are none, or the table is halted
abbrev pub NothingToFlush : List Deed → Type 0
NothingToFlush ds = (slice_get (items_sent ds) (flush_count ds) ≡ None) ⊎ (is_some (halt_reason ds) ≡ true)

-- flush_front: the first item that wasn't flushed; None exactly where no item waits or the table is halted
pub record FlushDid (set : Setting) (seat : ℕ) (result : Option Item) (before after : List Entry) : Type 0 where
  pub front : IfSome result (λ item. slice_get (items_sent (history set before)) (flush_count (history set before)) ≡ Some item)
  pub unhalted : IfSome result (λ _. halt_reason (history set before) ≡ None)
  pub adds : IfSome result (λ _. after ≡ adding before seat Flush)
  pub none : IfNone result (NothingToFlush (history set before))
  pub kept : IfNone result (after ≡ before)

-- halt: it is never refused, and a second one adds nothing
pub record HaltDid (set : Setting) (seat : ℕ) (why : Why) (before after : List Entry) : Type 0 where
  pub adds : after ≡ (if is_some (halt_reason (history set before)) then before else adding before seat (Halt why))

-- close_channel: the answer is how many calls it ends
abbrev pub CloseDid : Setting → ℕ → ℕ → Result ℕ close.CloseRefused → List Entry → List Entry → Type 0
CloseDid set seat channel result before after =
    Accepts (λ e. e) (close_refusal set before channel) close.TheVariants.Memory
    (λ n. n ≡ length (close_effect set.role (history set before) channel).ends)
    (entry_by seat (Close channel)) result before after
