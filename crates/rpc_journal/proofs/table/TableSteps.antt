-- How a plain table follows its history over an entry of each kind.
use Rattle.std.proofs.Common.{◌≡◌, ◌≢◌, ℕ, ◌+◌, ◌<◌, Bool, true, false, ◌==◌, List, ◌∷◌, length, set, slice_get, Some, None, if◌then◌else◌, refl, ap, sym, ◌∙◌, subst, eq-eqb, ne_eqb, arith, length-append}
use Rattle.std.proofs.lemmas.Option.{slice_get_within}
use Rattle.rpc_journal.specs.declared.table.call_state.CallState.{CallState}
use Rattle.rpc_journal.specs.declared.table.call_states.CallStates.{CallStates}
use Rattle.rpc_journal.specs.declared.entry.EntryKind.{EntryKind}
use Rattle.rpc_journal.specs.Calls.{calls}
use Rattle.rpc_journal.specs.Effect.{Deed}
use Rattle.rpc_journal.specs.Items.{is_end_in, is_flush, items_sent, reason_of}
use Rattle.rpc_channel.specs.Rising.{has_id}
use Rattle.rpc_journal.specs.table.Newest.{AreNewest}
use Rattle.rpc_journal.specs.Rows.{channel_closed}
use Rattle.rpc_journal.specs.table.Agrees.{AgreesOnCalls, Agrees}
use Rattle.rpc_journal.specs.table.Touch.{Touch, Touches, IsTouched, untouched}
use Rattle.rpc_journal.proofs.table.StepLemmas.{one_changes, none_changes, none_opens}
use Rattle.rpc_journal.proofs.table.DeedLemmas.{IsIdle, idle_touches}
use Rattle.rpc_journal.proofs.table.NewestLemmas.{newest_kept}

-- the deed does this to call c, and nothing to any other
pub record TouchesOne (d : Deed) (c : ℕ) (t : Touch) : Type 0 where
  pub opens : d.does.opens ≡ None
  pub each : (k : ℕ) (b : Bool) → (c == k) ≡ b → Touches d k (if b then t else untouched)

apart_from : (c k : ℕ) → k ≢ c → (c == k) ≡ false
apart_from c k apart = ne_eqb c k (λ same. apart (sym same))

pub step_one : (ds : List Deed) (d : Deed) (states : List CallState) (c : ℕ) (t : Touch) (r x : CallState) → AgreesOnCalls ds states
    → slice_get states c ≡ Some r → TouchesOne d c t → IsTouched (length ds) t r x → AgreesOnCalls (d ∷ ds) (set states c x)
step_one ds d states c t r x agrees is touches touched =
    let within : c < length states = slice_get_within _ _ _ is in
    none_opens ds d states _ agrees
    (one_changes ds d states c t r x agrees is (touches.each c true (eq-eqb c c refl)) (λ k below apart. touches.each k false (apart_from c k apart)) touched)
    touches.opens (λ k past. touches.each k false (apart_from c k (λ same. omega (arith, same, past, within, agrees.many))))

pub step_idle : (ds : List Deed) (d : Deed) (states : List CallState) → AgreesOnCalls ds states → IsIdle d → d.does.opens ≡ None
    → AgreesOnCalls (d ∷ ds) states
step_idle ds d states agrees idle opens =
    none_opens ds d states states agrees (none_changes ds d states agrees (λ k below. idle_touches d k idle)) opens (λ k past. idle_touches d k idle)

-- the entry is none that changes what a table keeps beside its calls, but for the newest of them and the number of items
pub record IsPlainKind (kind : EntryKind) : Type 0 where
  pub unflushing : is_flush kind ≡ false
  pub going_on : is_end_in kind ≡ false
  pub running : reason_of kind ≡ None
  pub unclosed : channel_closed kind ≡ None

pub agrees_with : (ds : List Deed) (d : Deed) (t u : CallStates) → Agrees ds t → AgreesOnCalls (d ∷ ds) u.calls.items → AreNewest (d ∷ ds) u.newest → IsPlainKind d.entry.kind
    → u.closed.items ≡ t.closed.items → u.unflushed ≡ t.unflushed + length d.does.says → u.input_ended ≡ t.input_ended → u.halted ≡ t.halted → Agrees (d ∷ ds) u
agrees_with ds d t u agrees states newest plain closed items input halt = record {
  calls = states;
  newest = newest;
  closed = λ x. rw plain.unclosed (ap (λ xs. has_id xs x) closed ∙ agrees.closed x);
  items = rw plain.unflushing (omega (arith, items, agrees.items, length-append (items_sent ds) d.does.says));
  input = rw plain.going_on (input ∙ agrees.input);
  halt = rw plain.running (halt ∙ agrees.halt);
}

-- the entry touches one call
pub table_one : (ds : List Deed) (d : Deed) (t u : CallStates) (c : ℕ) (touch : Touch) (r x : CallState) → Agrees ds t
    → slice_get t.calls.items c ≡ Some r → TouchesOne d c touch → IsTouched (length ds) touch r x → IsPlainKind d.entry.kind
    → u.calls.items ≡ set t.calls.items c x → u.newest ≡ t.newest → u.closed.items ≡ t.closed.items → u.unflushed ≡ t.unflushed + length d.does.says → u.input_ended ≡ t.input_ended → u.halted ≡ t.halted
    → Agrees (d ∷ ds) u
table_one ds d t u c touch r x agrees is touches touched plain calls newest closed items input halt =
    agrees_with ds d t u agrees
    (subst (AgreesOnCalls (d ∷ ds)) (sym calls) (step_one ds d t.calls.items c touch r x agrees.calls is touches touched))
    (newest_kept ds d t.newest u.newest agrees.newest touches.opens newest)
    plain closed items input halt

-- the entry touches no call
pub table_idle : (ds : List Deed) (d : Deed) (t u : CallStates) → Agrees ds t → IsIdle d → d.does.opens ≡ None → IsPlainKind d.entry.kind
    → u.calls.items ≡ t.calls.items → u.newest ≡ t.newest → u.closed.items ≡ t.closed.items → u.unflushed ≡ t.unflushed + length d.does.says → u.input_ended ≡ t.input_ended → u.halted ≡ t.halted
    → Agrees (d ∷ ds) u
table_idle ds d t u agrees idle opens plain calls newest closed items input halt =
    agrees_with ds d t u agrees
    (subst (AgreesOnCalls (d ∷ ds)) (sym calls) (step_idle ds d t.calls.items agrees.calls idle opens))
    (newest_kept ds d t.newest u.newest agrees.newest opens newest)
    plain closed items input halt
