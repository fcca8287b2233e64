-- How the state of a call follows its history: one lemma for an entry of any kind.
use Rattle.std.proofs.Common.{◌≡◌, ℕ, ◌+◌, ◌≤◌, Bool, true, false, List, [], ◌∷◌, ◌++◌, length, map, drop, slice_get, Option, Some, None, is_some, option_to_list, if◌then◌else◌, refl, ap, sym, ◌∙◌, subst, arith, length-append, length-drop}
use Rattle.std.proofs.lemmas.Bool.{true≢false, false≢true}
use Rattle.std.proofs.lemmas.List.{append-nil, drop-append-le, drop-drop}
use Rattle.std.proofs.lemmas.List.Folds.{list_any-append}
use Rattle.std.proofs.Math.Bool.{or-false}
use Rattle.rpc_ids.specs.declared.status.Status.{Status}
use Rattle.rpc_handlers.specs.declared.event.Event.{Event}
use Rattle.rpc_journal.specs.declared.table.call_state.CallState.{CallState}
use Rattle.rpc_journal.specs.declared.waiting.Waiting.{Waiting}
use Rattle.rpc_journal.specs.Calls.{of_call, call_at, is_start_of}
use Rattle.rpc_journal.specs.Effect.{Opening, Deed}
use Rattle.rpc_journal.specs.Entries.{was_ended}
use Rattle.rpc_journal.specs.Items.{items_sent}
use Rattle.rpc_journal.specs.Kinds.{is_empty, or_else}
use Rattle.rpc_journal.specs.Queues.{drops_of, puts_since, starts_since, waiting_of, taken_event, put_at}
use Rattle.rpc_journal.specs.table.Agrees.{IsOpening, AgreesOn, IsSilentOn}
use Rattle.rpc_journal.specs.table.Touch.{Touch, Touches, IsTouched, untouched, begins_with_end}
use Rattle.rpc_journal.proofs.QueueLemmas.{put_is, queue_is, some_left}

pub opening_same : (r x : CallState) (o : Option Opening) → x.name ≡ r.name → x.method ≡ r.method → IsOpening r o → IsOpening x o
opening_same r x None name method is = is
opening_same r x (Some o) name method is = (is.0 ∙ sym name, is.1 ∙ sym method)

-- an end is added only where there is none
one_end : (end before after : Option Status) → after ≡ or_else end before → (is_some end ≡ true → before ≡ None)
    → option_to_list before ++ option_to_list end ≡ option_to_list after
one_end None before after is once = append-nil (option_to_list before) ∙ ap option_to_list (sym is)
one_end (Some s) before after is once = rw (once refl, is) refl

-- whether a seat starts the call
pub starts_is : (b : Bool) (seat : ℕ) (o : Option ℕ) → (if b then Some seat else None) ≡ o → is_some o ≡ b
starts_is true seat o is = ap is_some (sym is)
starts_is false seat o is = ap is_some (sym is)

run_is : (b f g : Bool) (seat : ℕ) (o before after : Option ℕ) → (if b then Some seat else None) ≡ o → f ≡ g → before ≡ after
    → (if b then Some seat else if f then None else before) ≡ (if is_some o then o else if g then None else after)
run_is true f g seat o before after is same rest = rw (sym is) refl
run_is false f g seat o before after is same rest = rw (sym is, same, rest) refl

took_is : (b : Bool) (seat : ℕ) (o : Option ℕ) (ws : List Waiting) (event : Option Event) (end : Bool) → (if b then Some seat else None) ≡ o
    → was_ended event ≡ end → was_ended (if b then slice_get (map (λ w. w.event) ws) 0 else event) ≡ (if is_some o then begins_with_end ws else end)
took_is true seat o ws event end is same = rw (sym is) refl
took_is false seat o ws event end is same = rw (sym is) same

-- an entry that does this to a call: the state behind it agrees with the history with it
pub agrees_touched : (ds : List Deed) (d : Deed) (c : ℕ) (t : Touch) (r x : CallState) → AgreesOn ds c r → Touches d c t
    → IsTouched (length ds) t r x → call_at (d ∷ ds) c ≡ call_at ds c → AgreesOn (d ∷ ds) c x
agrees_touched ds d c t r x agrees does is there =
    let starts : is_some t.starts ≡ is_start_of c d.entry.kind = starts_is _ _ _ does.starts in
    let new : put_at (length ds) (of_call c d.does.puts) ≡ put_at (length ds) t.puts =
    ap (put_at (length ds)) does.puts in
    record {
      opening = opening_same r x (call_at (d ∷ ds) c) is.name is.method (subst (IsOpening r) (sym there) agrees.opening);
      ended = rw (agrees.ended, does.ends) (one_end t.ends r.status x.status is.status is.once);
      cancelled = rw (does.cancels, agrees.cancelled) (sym is.cancelled);
      completed = rw (does.puts, agrees.completed) (sym is.completed);
      done = list_any-append _ (items_sent ds) d.does.says ∙ (rw (agrees.done, does.completes) (sym is.done));
      run = run_is _ _ _ _ _ _ _ does.starts does.finishes agrees.run ∙ sym is.run;
      took_end = took_is (is_start_of c d.entry.kind) d.entry.seat t.starts (waiting_of ds c) (taken_event ds c) r.took_end does.starts agrees.took_end
          ∙ (rw agrees.waiting (sym is.took_end));
      waiting = queue_is (drops_of d c) (is_start_of c d.entry.kind) (starts_since ds c) (puts_since ds c) _ r.waiting.items
          (λ h. let alone = does.alone (starts ∙ h) in (does.clears ∙ alone.0, new ∙ ap (put_at (length ds)) alone.1)) agrees.put agrees.waiting
          ∙ (rw (sym starts, does.clears, new) (sym is.waiting));
      put = put_is (drops_of d c) (is_start_of c d.entry.kind) (starts_since ds c) (puts_since ds c) _ agrees.put
          (λ h. some_left _ _ _ agrees.waiting (is.some (starts ∙ h)));
    }

-- nothing is done to it
pub is_untouched : (at : ℕ) (r : CallState) → IsTouched at untouched r r
is_untouched at r = record {
  name = refl;
  method = refl;
  status = refl;
  cancelled = refl;
  completed = refl;
  done = sym (or-false r.done);
  run = refl;
  took_end = refl;
  waiting = sym (append-nil r.waiting.items);
  once = λ h. absurd (false≢true h);
  some = λ h. absurd (false≢true h);
}

pub still_silent : (ds : List Deed) (d : Deed) (c : ℕ) → IsSilentOn ds c → Touches d c untouched → IsSilentOn (d ∷ ds) c
still_silent ds d c silent does =
    let start : is_start_of c d.entry.kind ≡ false = sym (starts_is _ _ _ does.starts) in
    record {
      unended = rw (silent.unended, does.ends) refl;
      uncancelled = rw (does.cancels, silent.uncancelled) refl;
      uncompleted = rw (does.puts, silent.uncompleted) refl;
      undone = list_any-append _ (items_sent ds) d.does.says ∙ (rw (silent.undone, does.completes) refl);
      idle = rw (start, does.finishes, silent.idle) refl;
      took_none = rw start silent.took_none;
      empty = rw (does.clears, silent.empty, does.puts) refl;
      unstarted = rw (does.clears, start, silent.unstarted) refl;
    }
