-- A table over an entry that touches one call, and neither begins nor ends a run.
use Rattle.std.proofs.Common.{◌≡◌, ℕ, ◌+◌, ◌<◌, ◌≤◌, ◌^◌, Bool, true, false, not, ◌||◌, List, ◌∷◌, ◌++◌, length, slice_get, Option, Some, is_some, if◌then◌else◌, refl, ap, sym, ◌∙◌, subst, arith, length-append}
use Rattle.std.proofs.lemmas.Option.{slice_get_within}
use Rattle.rpc_handlers.specs.declared.event.Memo.{Memo}
use Rattle.rpc_handlers.specs.HandlerRule.{HandlerRule}
use Rattle.rpc_journal.specs.declared.table.call_state.CallState.{CallState}
use Rattle.rpc_journal.specs.declared.table.call_states.CallStates.{CallStates}
use Rattle.rpc_journal.specs.declared.entry.EntryKind.{EntryKind}
use Rattle.rpc_journal.specs.declared.item.Item.{Item}
use Rattle.rpc_journal.specs.declared.setting.Setting.{Setting}
use Rattle.rpc_journal.specs.Calls.{is_replace_of}
use Rattle.rpc_journal.specs.Effect.{Effect}
use Rattle.rpc_journal.specs.Entries.{effect_of}
use Rattle.rpc_journal.specs.History.{history, adding, deed_by}
use Rattle.rpc_journal.specs.Lawful.{IsLegal}
use Rattle.rpc_journal.specs.Recorded.{Recorded}
use Rattle.rpc_journal.specs.table.Touch.{Touch}
use Rattle.rpc_journal.specs.table.Turns.{Turns}
use Rattle.rpc_journal.proofs.PlaceLemmas.{get_some, some_same}
use Rattle.rpc_calls.specs.Marks.{one_if}
use Rattle.rpc_calls.specs.Places.{ChangesAt}
use Rattle.rpc_calls.specs.Room.{uncancelled, running, items_owed, HasPlaces}
use Rattle.rpc_calls.specs.TableHolds.{StandsFor, HasAllRoom, IsTable}
use Rattle.rpc_calls.proofs.CalmSteps.{table_after}
use Rattle.rpc_calls.proofs.CallSteps.{IsCallEntry, stands_calm_one}
use Rattle.rpc_calls.proofs.OneStep.{TouchesOne, counts_one}
use Rattle.rpc_calls.proofs.StepLemmas.{IsCalm}

pub at_most_one : (b : Bool) → (if b then 0 else 1) ≤ 1
at_most_one true = omega arith
at_most_one false = omega arith

-- the room after an entry that leaves the counts as they are, where it was taken before
pub room_grown : (states after : CallStates) (items items' : List Item) (more spare' capacity' : ℕ)
    → uncancelled after.calls.items ≡ uncancelled states.calls.items → running after.calls.items ≡ running states.calls.items
    → length items' ≡ length items + more → HasPlaces after.calls.items after.input_ended → length after.calls.items < 2 ^ 32
    → length items + items_owed states.calls.items + more ≤ capacity'
    → length items + items_owed states.calls.items + more + (uncancelled states.calls.items + running states.calls.items + 2) + 1 ≤ spare' + 1
    → HasAllRoom after items' spare' capacity'
room_grown states after items items' more spare' capacity' same_open same_busy grown free few places records = record {
  room = record {
    items_fit = omega (arith, places, same_open, same_busy, grown);
    entries_fit = omega (arith, records, same_open, same_busy, grown, at_most_one after.input_ended, at_most_one (is_some after.halted));
  };
  places = free;
  few = few;
}

module _ {H : Type 0} (now : H → Memo) (can_act : H → Type 0) (rule : HandlerRule) (set : Setting) where
  -- call c is touched so, and the entry adds n items
  pub table_touched : (recorded after : Recorded) (seat : ℕ) (kind : EntryKind) (e : Effect) (c n : ℕ) (t : Touch) (states later : CallStates) (handlers : List (Option H)) (items items' : List Item) (r : CallState) (capacity capacity' spare : ℕ)
      → IsTable now can_act rule set recorded states handlers items capacity → effect_of set (history set recorded.entries) kind ≡ e
      → IsLegal rule set after.entries → IsCallEntry (deed_by seat kind e) → ((k : ℕ) → is_replace_of k kind ≡ false)
      → TouchesOne (deed_by seat kind e) c t → length e.says ≡ n → slice_get states.calls.items c ≡ Some r → IsCalm t r → t.cancels ≡ false
      → ChangesAt c (Turns (length (history set recorded.entries)) t) states.calls.items later.calls.items
      → later.unflushed ≡ length items' → later.input_ended ≡ states.input_ended → later.halted ≡ states.halted → later.newest ≡ states.newest → later.closed.items ≡ states.closed.items
      → HasPlaces later.calls.items later.input_ended → items' ≡ items ++ e.says
      → after.entries ≡ adding recorded.entries seat kind → after.spare + 1 ≡ spare
      → length items + items_owed states.calls.items + n ≤ capacity'
      → length items + items_owed states.calls.items + n + (uncancelled states.calls.items + running states.calls.items + 2) + 1 ≤ spare
      → IsTable now can_act rule set after later handlers items' capacity'
  table_touched recorded after seat kind e c n t states later handlers items items' r capacity capacity' spare is does legal entry unreplaced one many there calm uncut changes unflushed input halt newest chans free says adds spent places records =
      let within : c < length states.calls.items = slice_get_within states.calls.items c r there in
      let it = get_some later.calls.items c (omega (arith, within, changes.many)) in
      let turns = changes.here r it.0 there it.1 in
      let counts = counts_one _ states.calls.items later.calls.items c r it.0 changes there it.1 in
      let kept : one_if (not it.0.cancelled) ≡ one_if (not r.cancelled) = ap (λ b. one_if (not b)) (turns.is.cancelled ∙ ap (λ b. b || r.cancelled) uncut) in
      let ran : one_if (is_some it.0.run) ≡ one_if (is_some r.run) =
      ap (λ o. one_if (is_some o)) (turns.is.run ∙ rw (ap is_some calm.unstarted, calm.unfinished) refl) in
      table_after now can_act rule set recorded after seat kind later handlers items' capacity' adds legal
      (subst (λ x. StandsFor now can_act rule set (deed_by seat kind x ∷ history set recorded.entries) later handlers items') (sym does)
      (stands_calm_one now can_act rule set (history set recorded.entries) (deed_by seat kind e) c t states later handlers items items' is.stands
      entry one changes within (record { says = says; unflushed = unflushed; input = input; halt = halt; closed = chans }) newest unreplaced
      (λ q q_is. subst (IsCalm t) (some_same r q (sym there ∙ q_is)) calm)))
      (room_grown states later items items' n after.spare capacity' (omega (arith, counts.going, kept)) (omega (arith, counts.busy, ran))
      (omega (arith, ap length says, length-append items e.says, many)) free
      (omega (arith, is.room.few, changes.many)) places
      (subst (λ k. length items + items_owed states.calls.items + n + (uncancelled states.calls.items + running states.calls.items + 2) + 1 ≤ k) (sym spent) records))
