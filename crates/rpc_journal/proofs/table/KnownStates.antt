-- What the history says of a call, by the state that a plain table has of it, where it has one.
use Rattle.std.proofs.Common.{◌≡◌, ℕ, true, false, not, List, [], drop, slice_get, count_by, Option, Some, None, is_some, is_none, refl, ap, sym, ◌∙◌, arith}
use Rattle.std.proofs.Math.Seq.{drop-nil}
use Rattle.rpc_ids.specs.declared.method.Role.{Role}
use Rattle.rpc_journal.specs.declared.table.call_state.CallState.{CallState}
use Rattle.rpc_journal.specs.declared.table.call_states.CallStates.{CallStates}
use Rattle.rpc_journal.specs.Calls.{call_at, calls, has_end, is_cancelled, runner_of}
use Rattle.rpc_journal.specs.Effect.{Deed}
use Rattle.rpc_journal.specs.Items.{items_waiting, is_done, is_ready, halt_reason}
use Rattle.rpc_journal.specs.Lawful.{has_stream, is_unary_call}
use Rattle.rpc_journal.specs.Kinds.{is_empty, is_unary, streams_out}
use Rattle.rpc_journal.specs.Queues.{is_ended, messages_waiting, starts_since, waiting_of}
use Rattle.rpc_journal.specs.table.Agrees.{AgreesOn, IsSilentOn, AgreesOnCalls, Agrees}
use Rattle.rpc_journal.specs.table.Touch.{is_startable}
use Rattle.rpc_journal.proofs.PlaceLemmas.{get_none}
use Rattle.rpc_journal.proofs.table.TableLemmas.{ended_is, opening_is}
use Rattle.std.proofs.lemmas.Option.{slice_get_past}

-- what the table says of a call that it has no state of, or this one
TellsAt : List Deed → ℕ → Option CallState → Type 0
TellsAt ds c None = IsSilentOn ds c
TellsAt ds c (Some r) = AgreesOn ds c r

-- no event waits for a call that isn't there
pub silent_waits : (ds : List Deed) (c : ℕ) → IsSilentOn ds c → waiting_of ds c ≡ []
silent_waits ds c silent = ap (drop (starts_since ds c)) silent.empty ∙ drop-nil (starts_since ds c)

silent_at : (ds : List Deed) (states : List CallState) (c : ℕ) → AgreesOnCalls ds states → slice_get states c ≡ None → IsSilentOn ds c
silent_at ds states c agrees none = agrees.beyond c (omega (arith, get_none states c none, agrees.many))

abbrev pub told_of : {A : Type 0} → A → (CallState → A) → Option CallState → A
told_of none f None = none
told_of none f (Some r) = f r

pub end_known : (ds : List Deed) (states : List CallState) (c : ℕ) (o : Option CallState) → AgreesOnCalls ds states → slice_get states c ≡ o
    → has_end ds c ≡ told_of false (λ r. is_some r.status) o
end_known ds states c None agrees is = ap (λ xs. not (is_empty xs)) (silent_at ds states c agrees is).unended
end_known ds states c (Some r) agrees is = ended_is ds c r (agrees.each c r is)

pub cancel_known : (ds : List Deed) (states : List CallState) (c : ℕ) (o : Option CallState) → AgreesOnCalls ds states → slice_get states c ≡ o
    → is_cancelled ds c ≡ told_of false (λ r. r.cancelled) o
cancel_known ds states c None agrees is = (silent_at ds states c agrees is).uncancelled
cancel_known ds states c (Some r) agrees is = (agrees.each c r is).cancelled

pub run_known : (ds : List Deed) (states : List CallState) (c : ℕ) (o : Option CallState) → AgreesOnCalls ds states → slice_get states c ≡ o
    → runner_of ds c ≡ told_of None (λ r. r.run) o
run_known ds states c None agrees is = (silent_at ds states c agrees is).idle
run_known ds states c (Some r) agrees is = (agrees.each c r is).run

pub stream_known : (role : Role) (ds : List Deed) (states : List CallState) (c : ℕ) (o : Option CallState) → AgreesOnCalls ds states → slice_get states c ≡ o
    → has_stream role (call_at ds c) ≡ told_of false (λ r. streams_out role r.method.kind) o
stream_known role ds states c None agrees is =
    let none : call_at ds c ≡ None = slice_get_past (calls ds) c (omega (arith, get_none states c is, agrees.many)) in
    ap (has_stream role) none
stream_known role ds states c (Some r) agrees is =
    let opening = opening_is ds c r (agrees.each c r is) in
    ap (has_stream role) opening.1 ∙ ap (λ m. streams_out role m.kind) opening.3

pub unary_known : (ds : List Deed) (states : List CallState) (c : ℕ) (o : Option CallState) → AgreesOnCalls ds states → slice_get states c ≡ o
    → is_unary_call (call_at ds c) ≡ told_of true (λ r. is_unary r.method.kind) o
unary_known ds states c None agrees is =
    let none : call_at ds c ≡ None = slice_get_past (calls ds) c (omega (arith, get_none states c is, agrees.many)) in
    ap is_unary_call none
unary_known ds states c (Some r) agrees is =
    let opening = opening_is ds c r (agrees.each c r is) in
    ap is_unary_call opening.1 ∙ ap (λ m. is_unary m.kind) opening.3

pub done_known : (ds : List Deed) (states : List CallState) (c : ℕ) (o : Option CallState) → AgreesOnCalls ds states → slice_get states c ≡ o
    → is_done ds c ≡ told_of false (λ r. r.done) o
done_known ds states c None agrees is = (silent_at ds states c agrees is).undone
done_known ds states c (Some r) agrees is = (agrees.each c r is).done

pub messages_known : (ds : List Deed) (states : List CallState) (c : ℕ) (o : Option CallState) → AgreesOnCalls ds states → slice_get states c ≡ o
    → messages_waiting ds c ≡ told_of 0 (λ r. count_by (λ w. not (is_ended w.event)) r.waiting.items) o
messages_known ds states c None agrees is = ap (count_by (λ w. not (is_ended w.event))) (silent_waits ds c (silent_at ds states c agrees is))
messages_known ds states c (Some r) agrees is = ap (count_by (λ w. not (is_ended w.event))) (agrees.each c r is).waiting

pub ready_known : (ds : List Deed) (t : CallStates) (c : ℕ) (o : Option CallState) → Agrees ds t → slice_get t.calls.items c ≡ o
    → is_ready ds c ≡ told_of false (λ r. is_startable r t.unflushed (is_some t.halted)) o
ready_known ds t c None agrees is = rw (silent_waits ds c (silent_at ds t.calls.items c agrees.calls is)) refl
ready_known ds t c (Some r) agrees is =
    let its = agrees.calls.each c r is in
    let items : items_waiting ds ≡ t.unflushed = omega (arith, agrees.items) in
    let halt : is_none (halt_reason ds) ≡ not (is_some t.halted) = ap is_none (sym agrees.halt) ∙ turned t.halted in
    rw (its.waiting, its.run, its.cancelled, items, halt) refl
  where
    turned : {A : Type 0} (q : Option A) → is_none q ≡ not (is_some q)
    turned None = refl
    turned (Some x) = refl
