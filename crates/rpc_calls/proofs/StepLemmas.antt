-- What a table stands for, as entries come that touch its calls.
use Rattle.std.proofs.Common.{◌≡◌, ℕ, ◌≤◌, Bool, true, false, ◌&&◌, ◌||◌, List, [], ◌∷◌, ◌++◌, length, slice_get, Option, Some, None, is_some, if◌then◌else◌, refl, ap, sym, ◌∙◌, subst}
use Rattle.std.proofs.lemmas.Bool.{false≢true}
use Rattle.std.proofs.lemmas.List.{append-nil}
use Rattle.rpc_ids.specs.declared.status.Status.{Status}
use Rattle.rpc_handlers.specs.declared.event.Event.{Event}
use Rattle.rpc_handlers.specs.declared.event.Memo.{Memo}
use Rattle.rpc_handlers.specs.HandlerRule.{HandlerRule}
use Rattle.rpc_journal.specs.declared.table.call_state.CallState.{CallState}
use Rattle.rpc_journal.specs.declared.setting.Setting.{Setting}
use Rattle.rpc_journal.specs.declared.waiting.Waiting.{Waiting}
use Rattle.rpc_journal.specs.Calls.{calls, is_start_of, is_finish_of, is_replace_of, runner_of}
use Rattle.rpc_journal.specs.Effect.{Deed}
use Rattle.rpc_journal.specs.Kinds.{is_empty, or_else}
use Rattle.rpc_journal.specs.States.{opens_call}
use Rattle.rpc_journal.specs.table.Agrees.{AgreesOn, AgreesOnCalls}
use Rattle.rpc_journal.specs.table.Touch.{Touch, Touches, IsTouched, untouched}
use Rattle.rpc_journal.specs.Queues.{put_at}
use Rattle.rpc_journal.proofs.table.TableLemmas.{ended_is}
use Rattle.rpc_journal.proofs.table.StepLemmas.{same_count}
use Rattle.rpc_journal.proofs.table.AgreeLemmas.{agrees_touched, is_untouched, still_silent}
use Rattle.rpc_calls.specs.Handlers.{is_over, over_state, Keeps}
use Rattle.rpc_calls.proofs.StateLemmas.{LeavesHandler}
use Rattle.rpc_calls.proofs.KeepLemmas.{keeps_left}

-- a deed that opens no call
pub same_calls : (ds : List Deed) (d : Deed) → d.does.opens ≡ None → calls (d ∷ ds) ≡ calls ds
same_calls ds d is = rw is (append-nil (calls ds))

pub over_is : (ds : List Deed) (c : ℕ) (r : CallState) → AgreesOn ds c r → is_over ds c ≡ over_state r
over_is ds c r agrees = rw (agrees.cancelled, ended_is ds c r agrees, agrees.waiting) refl

-- neither a Start nor a Finish of the call, and an event is put to it only where it has no end
pub record IsCalm (t : Touch) (r : CallState) : Type 0 where
  pub unstarted : t.starts ≡ None
  pub unfinished : t.finishes ≡ false
  pub put_open : is_empty t.puts ≡ false → r.status ≡ None

no_put : (at : ℕ) (events : List Event) → is_empty events ≡ true → put_at at events ≡ []
no_put at [] none = refl
no_put at (event ∷ events) none = absurd (false≢true none)

kept_status : (end status : Option Status) → is_some status ≡ true → is_some (or_else end status) ≡ true
kept_status None status is = is
kept_status (Some s) status is = refl

cleared_empty : (b : Bool) (ws : List Waiting) → is_empty ws ≡ true → is_empty ((if b then [] else ws) ++ []) ≡ true
cleared_empty true ws is = refl
cleared_empty false [] is = refl
cleared_empty false (w ∷ ws) is = absurd (false≢true is)

over_from : (b c s e s' e' : Bool) → (b || (s && e)) ≡ true → (s ≡ true → e ≡ true → s' ≡ true) → (s ≡ true → e ≡ true → e' ≡ true)
    → ((c || b) || (s' && e')) ≡ true
over_from true true s e s' e' is first second = refl
over_from true false s e s' e' is first second = refl
over_from false true s e s' e' is first second = refl
over_from false false true true s' e' is first second = rw (first refl refl, second refl refl) refl
over_from false false true false s' e' is first second = absurd (false≢true is)
over_from false false false e s' e' is first second = absurd (false≢true is)

puts_none : (events : List Event) (status : Option Status) → (is_empty events ≡ false → status ≡ None) → is_some status ≡ true → is_empty events ≡ true
puts_none [] status only is = refl
puts_none (event ∷ events) status only is = absurd (false≢true (sym (ap is_some (only refl)) ∙ is))

pub over_stays : (at : ℕ) (t : Touch) (r x : CallState) → IsTouched at t r x → IsCalm t r → over_state r ≡ true → over_state x ≡ true
over_stays at t r x is calm over =
    rw (is.cancelled, is.status, is.waiting, ap is_some calm.unstarted)
    (over_from r.cancelled t.cancels (is_some r.status) (is_empty r.waiting.items) _ _ over
    (λ ended none. kept_status t.ends r.status ended)
    (λ ended none. rw (no_put at t.puts (puts_none t.puts r.status calm.put_open ended)) (cleared_empty t.clears r.waiting.items none)))

pub start_none : (b : Bool) (seat : ℕ) → (if b then Some seat else None) ≡ None → b ≡ false
start_none true seat is = absurd cc
start_none false seat is = refl

pub runner_same : (ds : List Deed) (d : Deed) (c : ℕ) → is_start_of c d.entry.kind ≡ false → is_finish_of c d.entry.kind ≡ false
    → runner_of (d ∷ ds) c ≡ runner_of ds c
runner_same ds d c start finish = rw (start, finish) refl

module _ {H : Type 0} (now : H → Memo) (can_act : H → Type 0) (rule : HandlerRule) (set : Setting) where
  -- what is kept for a call stays right over an entry that neither begins nor ends a run of it, nor replaces its handler
  pub keeps_calm : (ds : List Deed) (d : Deed) (c : ℕ) (t : Touch) (r x : CallState) (slot : Option H) → AgreesOn ds c r → AgreesOn (d ∷ ds) c x
      → Touches d c t → IsTouched (length ds) t r x → IsCalm t r → is_replace_of c d.entry.kind ≡ false → opens_call ds d c ≡ false
      → Keeps now can_act rule set ds c (runner_of ds c) slot → Keeps now can_act rule set (d ∷ ds) c (runner_of (d ∷ ds) c) slot
  keeps_calm ds d c t r x slot before after does is calm unreplaced unopened keeps =
      let start : is_start_of c d.entry.kind ≡ false = start_none _ d.entry.seat (does.starts ∙ calm.unstarted) in
      let finish : is_finish_of c d.entry.kind ≡ false = does.finishes ∙ calm.unfinished in
      let leaves : LeavesHandler ds d c = record { start = start; finish = finish; replace = unreplaced; opens = unopened } in
      subst (λ o. Keeps now can_act rule set (d ∷ ds) c o slot) (sym (runner_same ds d c start finish))
      (keeps_left now can_act rule set ds d c (runner_of ds c) slot leaves
      (λ over. over_is (d ∷ ds) c x after ∙ over_stays (length ds) t r x is calm (sym (over_is ds c r before) ∙ over)) keeps)

-- an entry that touches no call
pub agrees_calm : (ds : List Deed) (d : Deed) (states : List CallState) → AgreesOnCalls ds states → ((c : ℕ) → Touches d c untouched)
    → d.does.opens ≡ None → AgreesOnCalls (d ∷ ds) states
agrees_calm ds d states agrees none opens = record {
  many = agrees.many ∙ sym (same_count ds d opens);
  each = λ c r is. agrees_touched ds d c untouched r r (agrees.each c r is) (none c) (is_untouched (length ds) r)
      (ap (λ os. slice_get os c) (same_calls ds d opens));
  beyond = λ c from. still_silent ds d c (agrees.beyond c (subst (λ n. n ≤ c) (same_count ds d opens) from)) (none c);
}
