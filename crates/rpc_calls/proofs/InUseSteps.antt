-- The calls that are kept, over changes of calls.
use Rattle.std.proofs.Common.{◌≡◌, ◌≢◌, ◌⊎◌, inl, inr, ℕ, Bool, true, false, ◌&&◌, List, [], ◌∷◌, ◌++◌, drop, slice_get, Option, Some, None, is_some, is_none, if◌then◌else◌, refl, ap, sym, ◌∙◌, subst}
use Rattle.std.proofs.lemmas.Bool.{and_parts}
use Rattle.rpc_handlers.specs.declared.event.Event.{Event}
use Rattle.rpc_journal.specs.declared.waiting.Waiting.{Waiting}
use Rattle.rpc_journal.specs.declared.table.call_state.CallState.{CallState}
use Rattle.rpc_journal.specs.Kinds.{is_empty}
use Rattle.rpc_journal.specs.Queues.{put_at}
use Rattle.rpc_journal.specs.table.Touch.{Touch}
use Rattle.rpc_journal.specs.table.Turns.{Turns}
use Rattle.rpc_journal.proofs.table.StepLemmas.{same_or_not}
use Rattle.rpc_calls.specs.declared.kept_calls.KeptCalls.{KeptCalls}
use Rattle.rpc_calls.specs.Facts.{IsDoneWith, is_done_with}
use Rattle.rpc_calls.specs.InUse.{AreInUse, AreKept}
use Rattle.rpc_calls.specs.Kept.{is_kept_at}
use Rattle.rpc_calls.specs.Roll.{Changes, Roll}

and_false : (a : Bool) → (a && false) ≡ false
and_false true = refl
and_false false = refl

-- a call for which an event waits isn't done with
pub waits_used : (r : CallState) → is_empty r.waiting.items ≡ false → is_done_with r ≡ false
waits_used r waits = rw waits (ap (λ b. is_some r.status && b) (and_false (is_none r.run)) ∙ and_false (is_some r.status))

run_none : {A : Type 0} (o : Option A) → is_some o ≡ true → is_none o ≡ false
run_none None is = absurd cc
run_none (Some a) is = refl

-- nor is one that runs
pub runs_used : (r : CallState) → is_some r.run ≡ true → is_done_with r ≡ false
runs_used r runs = rw (run_none r.run runs) (and_false (is_some r.status))

-- nor is one without an end
pub live_used : (r : CallState) → r.status ≡ None → is_done_with r ≡ false
live_used r live = rw live refl

none_of : {A : Type 0} (o : Option A) → is_none o ≡ true → o ≡ None
none_of None is = refl
none_of (Some a) is = absurd cc

empty_of : {A : Type 0} (xs : List A) → is_empty xs ≡ true → xs ≡ []
empty_of [] is = refl
empty_of (x ∷ xs) is = absurd cc

pub done_is : (r : CallState) → is_done_with r ≡ true → IsDoneWith r
done_is r done =
    let first = and_parts (is_some r.status) (is_none r.run && is_empty r.waiting.items) done in
    let second = and_parts (is_none r.run) (is_empty r.waiting.items) first.1 in
    record { idle = none_of r.run second.0; empty = empty_of r.waiting.items second.1; over = first.0 }

pub is_done : (r : CallState) → IsDoneWith r → is_done_with r ≡ true
is_done r done = rw (done.over, done.idle, done.empty) refl

pub done_ended : {A : Type 0} (r : CallState) → IsDoneWith r → r.status ≡ None → A
done_ended r done live = absurd (no (sym done.over ∙ ap is_some live))
  where
    no : true ≡ false → ⊥
    no h = absurd cc

empty_put : (xs : List Waiting) (w : Waiting) (ws : List Waiting) → is_empty (xs ++ w ∷ ws) ≡ false
empty_put [] w ws = refl
empty_put (x ∷ xs) w ws = refl

-- a call to which an event is put isn't done with
pub put_used : (at : ℕ) (t : Touch) (e : Event) (es : List Event) (r x : CallState) → t.starts ≡ None → t.puts ≡ e ∷ es → Turns at t r x → is_done_with x ≡ false
put_used at t e es r x unstarted puts turns =
    waits_used x (ap is_empty turns.is.waiting
    ∙ ap (λ (b : Option ℕ). is_empty (if is_some b then drop 1 r.waiting.items else (if t.clears then [] else r.waiting.items) ++ put_at at t.puts)) unstarted
    ∙ ap (λ ps. is_empty ((if t.clears then [] else r.waiting.items) ++ put_at at ps)) puts ∙ empty_put (if t.clears then [] else r.waiting.items) _ _)

module _ {H : Type 0} where
  -- what changes a call and leaves it in use
  pub used_changed : (c : ℕ) (R : CallState → CallState → Type 0) (old new : Roll H) → AreInUse old → Changes c R old new
      → ((x : CallState) → slice_get new.states.calls.items c ≡ Some x → is_done_with x ≡ false) → AreInUse new
  used_changed c R old new used changes here = record { used = λ k r kept is. at k r kept is (same_or_not k c) }
    where
      at : (k : ℕ) (r : CallState) → is_kept_at (slice_get new.places k) ≡ true → slice_get new.states.calls.items k ≡ Some r → (k ≡ c) ⊎ (k ≢ c) → is_done_with r ≡ false
      at k r kept is (inl same) = here r (ap (slice_get new.states.calls.items) (sym same) ∙ is)
      at k r kept is (inr apart) = used.used k r (ap (λ ps. is_kept_at (slice_get ps k)) (sym changes.places) ∙ kept) (sym (changes.change.others k apart) ∙ is)

  pub kept_changed : (c : ℕ) (R : CallState → CallState → Type 0) (old new : Roll H) (kept : KeptCalls) → AreKept kept old.places → Changes c R old new → AreKept kept new.places
  kept_changed c R old new kept are changes = subst (AreKept kept) (sym changes.places) are
