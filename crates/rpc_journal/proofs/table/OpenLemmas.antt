-- How a plain table follows its history over an entry that opens a call.
use Rattle.std.proofs.Common.{◌≡◌, ℕ, ◌<◌, true, false, ◌==◌, List, [], ◌∷◌, ◌++◌, length, set, slice_get, Option, Some, None, refl, sym, subst, eq-eqb, ne_eqb, arith}
use Rattle.std.proofs.lemmas.Option.{slice_get_within}
use Rattle.rpc_ids.specs.declared.method.MethodRef.{MethodRef}
use Rattle.rpc_ids.specs.declared.status.Status.TheVariants.{Cancelled}
use Rattle.rpc_packet.specs.declared.owned.Packet.{Packet}
use Rattle.rpc_packet.specs.declared.packet_type.PacketType.TheVariants.{Request}
use Rattle.rpc_handlers.specs.declared.event.Memo.{Memo}
use Rattle.rpc_journal.specs.declared.table.call_state.CallState.{CallState}
use Rattle.rpc_journal.specs.declared.entry.EntryKind.TheVariants.{Arrive, Invoke}
use Rattle.rpc_journal.specs.declared.table.arrival_move.Move.{Move}
use Rattle.rpc_journal.specs.declared.table.call_states.CallStates.{CallStates}
use Rattle.rpc_journal.specs.declared.setting.Setting.{Setting}
use Rattle.rpc_journal.specs.Entries.{arrive_row, invoke_effect}
use Rattle.rpc_journal.specs.History.{entry_by, deeds_with, deed_by}
use Rattle.rpc_journal.specs.table.Moves.{row_of}
use Rattle.rpc_journal.specs.Calls.{calls, call_count}
use Rattle.rpc_journal.specs.Effect.{Opening, Deed}
use Rattle.rpc_journal.specs.Rows.{Row, both_effects, ends_and_clears, method_named, opens_served}
use Rattle.rpc_journal.specs.table.Agrees.{Agrees, AgreesOnCalls}
use Rattle.rpc_journal.specs.table.Touch.{IsInvoked, IsServed, IsTouched, closing}
use Rattle.rpc_journal.proofs.table.DeedLemmas.{anew_touches, invoke_touches, invoked_effect, never, open_touches}
use Rattle.rpc_journal.proofs.PlaceLemmas.{get_last}
use Rattle.rpc_journal.proofs.table.RoomLemmas.{invoked_agrees, served_agrees}
use Rattle.rpc_journal.proofs.table.StepLemmas.{none_changes, one_changes, one_opens}

not_one : (a b : ℕ) → (a ≡ b → ⊥) → (a == b) ≡ false
not_one a b apart = ne_eqb a b apart

pub step_open : (ds : List Deed) (seat : ℕ) (p : Packet) (m : MethodRef) (states : List CallState) (x : CallState) → AgreesOnCalls ds states
    → IsServed (length ds) p m x → AgreesOnCalls (deed_by seat (Arrive p) (opens_served p m (call_count ds)) ∷ ds) (states ++ x ∷ [])
step_open ds seat p m states x agrees is =
    let n : ℕ = call_count ds in
    let d : Deed = deed_by seat (Arrive p) (opens_served p m n) in
    let o : Opening = record { name = p.name; method = m; given = None } in
    one_opens ds d states states o x agrees
    (none_changes ds d states agrees (λ k below. open_touches seat n k p m false (not_one n k (λ same. omega (arith, same, below)))))
    refl
    (served_agrees ds d n p m x (agrees.beyond n (omega arith)) (open_touches seat n n p m true (eq-eqb n n refl)) (get_last (calls ds) o) is)
    (λ k past. open_touches seat n k p m false (not_one n k (λ same. omega (arith, same, past))))

pub step_anew : (ds : List Deed) (seat : ℕ) (p : Packet) (m : MethodRef) (states : List CallState) (c : ℕ) (r y x : CallState) → AgreesOnCalls ds states
    → slice_get states c ≡ Some r → IsTouched (length ds) (closing Cancelled) r y → IsServed (length ds) p m x
    → AgreesOnCalls (deed_by seat (Arrive p) (both_effects (ends_and_clears c Cancelled) (opens_served p m (call_count ds))) ∷ ds) (set states c y ++ x ∷ [])
step_anew ds seat p m states c r y x agrees there touched is =
    let n : ℕ = call_count ds in
    let d : Deed = deed_by seat (Arrive p) (both_effects (ends_and_clears c Cancelled) (opens_served p m n)) in
    let o : Opening = record { name = p.name; method = m; given = None } in
    let within : c < length states = slice_get_within _ _ _ there in
    one_opens ds d states _ o x agrees
    (one_changes ds d states c (closing Cancelled) r y agrees there
    (anew_touches seat n c c p m true false (eq-eqb c c refl) (not_one n c (λ same. omega (arith, same, within, agrees.many))) (λ h. refl))
    (λ k below apart. anew_touches seat n c k p m false false (not_one c k (λ same. apart (sym same))) (not_one n k (λ same. omega (arith, same, below))) never)
    touched)
    refl
    (served_agrees ds d n p m x (agrees.beyond n (omega arith))
    (anew_touches seat n c n p m false true (not_one c n (λ same. omega (arith, same, within, agrees.many))) (eq-eqb n n refl) never)
    (get_last (calls ds) o) is)
    (λ k past. anew_touches seat n c k p m false false (not_one c k (λ same. omega (arith, same, past, within, agrees.many))) (not_one n k (λ same. omega (arith, same, past))) never)

-- an arrival does what its row says
pub arrived : (set : Setting) (ds : List Deed) (seat : ℕ) (p : Packet) (move : Move) (u : CallStates)
    → arrive_row set ds p ≡ row_of move p (call_count ds) → Agrees (deed_by seat (Arrive p) (row_of move p (call_count ds)).does ∷ ds) u
    → Agrees (deeds_with set ds (entry_by seat (Arrive p))) u
arrived set ds seat p move u is agrees = subst (λ (row : Row). Agrees (deed_by seat (Arrive p) row.does ∷ ds) u) (sym is) agrees

-- a client's call
pub step_invoke : (ds : List Deed) (seat : ℕ) (p : Packet) (memo : Memo) (m : MethodRef) (states : List CallState) (x : CallState) → AgreesOnCalls ds states
    → p.ptype ≡ Request → IsInvoked p.name m x
    → AgreesOnCalls (deed_by seat (Invoke p memo) (invoked_effect (call_count ds) p memo m) ∷ ds) (states ++ x ∷ [])
step_invoke ds seat p memo m states x agrees request is =
    let n : ℕ = call_count ds in
    let d : Deed = deed_by seat (Invoke p memo) (invoked_effect n p memo m) in
    let o : Opening = record { name = p.name; method = m; given = Some memo } in
    one_opens ds d states states o x agrees
    (none_changes ds d states agrees (λ k below. invoke_touches seat n k p memo m request))
    refl
    (invoked_agrees ds d n p.name m memo x (agrees.beyond n (omega arith)) (invoke_touches seat n n p memo m request) (get_last (calls ds) o) is)
    (λ k past. invoke_touches seat n k p memo m request)

-- an Invoke opens the call of a method that is known
pub invoked : (set : Setting) (ds : List Deed) (seat : ℕ) (p : Packet) (memo : Memo) (m : MethodRef) (u : CallStates)
    → method_named set p.name ≡ Some m → Agrees (deed_by seat (Invoke p memo) (invoked_effect (call_count ds) p memo m) ∷ ds) u
    → Agrees (deeds_with set ds (entry_by seat (Invoke p memo))) u
invoked set ds seat p memo m u is agrees =
    subst (λ (found : Option MethodRef). Agrees (deed_by seat (Invoke p memo) (invoke_effect ds p memo found) ∷ ds) u) (sym is) agrees
