-- The calls of a table over the end of a run, a cancel, and a call that leaves.
use Rattle.std.proofs.Common.{◌≡◌, ◌≢◌, ◌⊎◌, inl, inr, ℕ, ◌<◌, true, false, List, [], ◌++◌, drop, length, slice_get, slice_set, length-set, Option, Some, None, is_some, if◌then◌else◌, refl, ap, sym, ◌∙◌, subst, arith}
use Rattle.std.proofs.lemmas.Option.{slice_get_within}
use Rattle.rpc_journal.specs.declared.table.call_state.CallState.{CallState}
use Rattle.rpc_journal.specs.table.Touch.{Touch, cancelling}
use Rattle.rpc_journal.specs.table.Turns.{Turns}
use Rattle.rpc_journal.proofs.PlaceLemmas.{get_some}
use Rattle.rpc_journal.proofs.table.StepLemmas.{get_other, get_set, same_or_not}
use Rattle.rpc_journal.specs.Queues.{put_at}
use Rattle.rpc_calls.specs.declared.call_place.CallPlace.{CallPlace}
use Rattle.rpc_calls.specs.declared.kept_calls.KeptCalls.{KeptCalls}
use Rattle.rpc_calls.specs.Facts.{is_done_with}
use Rattle.rpc_calls.specs.InUse.{AreInUse, AreKept}
use Rattle.rpc_calls.specs.Kept.{is_kept_at}
use Rattle.rpc_calls.specs.Places.{ChangesAt}
use Rattle.rpc_calls.specs.Roll.{Roll}
use Rattle.rpc_calls.specs.RunEnds.{CutsHandler, EndsRun, IsPutBack, LeavesIfDone, PutsBack}
use Rattle.rpc_calls.proofs.InUseSteps.{done_is}

-- a change that puts nothing is the same at each place
pub turns_anywhere : (c at : ℕ) (t : CallState → Touch) (old new : List CallState) → ((r : CallState) → (t r).puts ≡ [])
    → ChangesAt c (λ r x. Turns 0 (t r) r x) old new → ChangesAt c (λ r x. Turns at (t r) r x) old new
turns_anywhere c at t old new nothing changes = record {
  many = changes.many;
  others = changes.others;
  here = λ r x was is.
      let turns = changes.here r x was is in
      record {
        is = record {
          name = turns.is.name;
          method = turns.is.method;
          status = turns.is.status;
          cancelled = turns.is.cancelled;
          completed = turns.is.completed;
          done = turns.is.done;
          run = turns.is.run;
          took_end = turns.is.took_end;
          waiting = turns.is.waiting ∙ ap (λ ws. if is_some (t r).starts then drop 1 r.waiting.items else (if (t r).clears then [] else r.waiting.items) ++ ws)
              (ap (put_at 0) (nothing r) ∙ ap (put_at at) (sym (nothing r)));
          once = turns.is.once;
          some = turns.is.some;
        };
        capacity = turns.capacity;
      };
}

pub kept_alike : (kept : KeptCalls) (places later : List CallPlace) → AreKept kept places → ((k : ℕ) → is_kept_at (slice_get later k) ≡ is_kept_at (slice_get places k)) → AreKept kept later
kept_alike kept places later are same = record { each = λ c. are.each c ∙ sym (same c) }

module _ {H : Type 0} where
  pub used_same : (old new : Roll H) → new.states ≡ old.states → new.places ≡ old.places → AreInUse old → AreInUse new
  used_same old new states places used = record {
    used = λ k r kept is. used.used k r (ap (λ ps. is_kept_at (slice_get ps k)) (sym places) ∙ kept) (ap (λ ss. slice_get ss.calls.items k) (sym states) ∙ is);
  }

  -- no call is kept that is done with, once this one may have left
  pub used_left : (c : ℕ) (old last new : Roll H) → AreInUse old
      → ((k : ℕ) → k ≢ c → is_kept_at (slice_get last.places k) ≡ is_kept_at (slice_get old.places k))
      → ((k : ℕ) → k ≢ c → slice_get last.states.calls.items k ≡ slice_get old.states.calls.items k)
      → LeavesIfDone c last new → AreInUse new
  used_left c old last new used places states leaves = record { used = λ k r kept is. at k r kept is (same_or_not k c) }
    where
      at : (k : ℕ) (r : CallState) → is_kept_at (slice_get new.places k) ≡ true → slice_get new.states.calls.items k ≡ Some r → (k ≡ c) ⊎ (k ≢ c) → is_done_with r ≡ false
      at k r kept is (inl same) = leaves.used (ap (λ j. is_kept_at (slice_get new.places j)) (sym same) ∙ kept) r (ap (slice_get new.states.calls.items) (sym same) ∙ is)
      at k r kept is (inr apart) =
          used.used k r (sym (places k apart) ∙ ap is_kept_at (sym (leaves.others k apart)) ∙ kept)
          (sym (states k apart) ∙ ap (λ ss. slice_get ss.calls.items k) (sym leaves.states) ∙ is)

  pub ends_run : (c : ℕ) (h : H) (result : Option H) (old mid last new : Roll H) → mid.handlers ≡ old.handlers → PutsBack c h result mid last → LeavesIfDone c last new
      → EndsRun c h result old.handlers new
  ends_run c h result old mid last new same puts leaves = record {
    over = puts.over;
    over_is = λ x is. puts.over_is x (ap (λ ss. slice_get ss.calls.items c) (sym leaves.states) ∙ is);
    between = last.handlers;
    put = subst (λ hs. IsPutBack c h puts.over result hs last.handlers) same puts.put;
    leaves = leaves.handlers;
  }

  -- what becomes of the handler of a call that is cancelled, where the call leaves too
  pub cuts_left : (c : ℕ) (old last new : Roll H) → ChangesAt c (λ r x. Turns 0 (cancelling r.status) r x) old.states.calls.items last.states.calls.items
      → CutsHandler c old last.handlers → LeavesIfDone c last new → c < length old.handlers → CutsHandler c old new.handlers
  cuts_left c old last new change cuts leaves within = by leaves.handlers.how
    where
      idle : (run seat : Option ℕ) → run ≡ seat → run ≡ None → is_some seat ≡ false
      idle run None same none = refl
      idle run (Some s) same none = absurd (no (sym same ∙ none))
        where
          no : Some s ≡ None → ⊥
          no h = absurd cc

      gone : (r : CallState) (slot : Option H) → slice_get old.states.calls.items c ≡ Some r
          → ((x : CallState) → slice_get new.states.calls.items c ≡ Some x → is_done_with x ≡ true) → None ≡ (if is_some r.run then slot else None)
      gone r slot is done =
          let row = get_some last.states.calls.items c (omega (arith, slice_get_within old.states.calls.items c r is, change.many)) in
          let over = done_is row.0 (done row.0 (ap (λ ss. slice_get ss.calls.items c) leaves.states ∙ row.1)) in
          let runs : is_some r.run ≡ false = idle row.0.run r.run (change.here r row.0 is row.1).is.run over.idle in
          ap (λ b. if b then slot else None) (sym runs)

      by : (new.handlers ≡ last.handlers) ⊎ ((new.handlers ≡ slice_set last.handlers c None) × ((x : CallState) → slice_get new.states.calls.items c ≡ Some x → is_done_with x ≡ true))
          → CutsHandler c old new.handlers
      by (inl same) = subst (CutsHandler c old) (sym same) cuts
      by (inr went) = subst (CutsHandler c old) (sym went.0) (record {
        many = length-set last.handlers c None ∙ cuts.many;
        others = λ k apart. get_other last.handlers c k None apart ∙ cuts.others k apart;
        kept = λ slot r there is. get_set last.handlers c None (omega (arith, within, cuts.many)) ∙ ap (λ o. Some o) (gone r slot is went.1);
      })

  -- what became of the handlers is the same where nothing else of it has changed
  pub ends_alike : (c : ℕ) (h : H) (result : Option H) (old : List (Option H)) (new later : Roll H) → later.states.calls.items ≡ new.states.calls.items → later.handlers ≡ new.handlers
      → EndsRun c h result old new → EndsRun c h result old later
  ends_alike c h result old new later states handlers ends = record {
    over = ends.over;
    over_is = λ x is. ends.over_is x (ap (λ ss. slice_get ss c) (sym states) ∙ is);
    between = ends.between;
    put = ends.put;
    leaves = record { how = by ends.leaves.how };
  }
    where
      by : (new.handlers ≡ ends.between) ⊎ ((new.handlers ≡ slice_set ends.between c None) × ((x : CallState) → slice_get new.states.calls.items c ≡ Some x → is_done_with x ≡ true))
          → (later.handlers ≡ ends.between) ⊎ ((later.handlers ≡ slice_set ends.between c None) × ((x : CallState) → slice_get later.states.calls.items c ≡ Some x → is_done_with x ≡ true))
      by (inl same) = inl (handlers ∙ same)
      by (inr went) = inr (handlers ∙ went.0, λ x is. went.1 x (ap (λ ss. slice_get ss c) (sym states) ∙ is))
