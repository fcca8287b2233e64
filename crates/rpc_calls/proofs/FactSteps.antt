-- What is told of calls, by their states.
use Rattle.std.proofs.Common.{◌≡◌, ◌∙◌, ℕ, Bool, true, false, if◌then◌else◌, List, slice_get, Option, Some, None, IfSome, IfNone, IsSome, option_map, is_none, is_some, refl, ap, sym}
use Rattle.rpc_journal.specs.declared.table.call_state.CallState.{CallState}
use Rattle.rpc_journal.specs.declared.table.call_states.CallStates.{CallStates}
use Rattle.std.proofs.lemmas.Option.{slice_get_within}
use Rattle.rpc_ids.specs.declared.status.Status.{Status}
use Rattle.rpc_packet.specs.declared.call_name.CallName.{CallName}
use Rattle.rpc_journal.specs.Calls.{live_call}
use Rattle.rpc_journal.specs.Effect.{Deed}
use Rattle.rpc_journal.specs.table.Agrees.{Agrees, IsOpenAt}
use Rattle.rpc_journal.specs.table.Newest.{newest_of}
use Rattle.rpc_journal.proofs.table.KnownStates.{told_of}
use Rattle.rpc_journal.proofs.table.NewestLemmas.{newest_there, live_at as live_at_newest}
use Rattle.rpc_calls.specs.Numbers.{live_at, live_if}
use Rattle.rpc_journal.specs.table.Touch.{is_startable}
use Rattle.rpc_journal.proofs.PlaceLemmas.{some_same}
use Rattle.rpc_calls.specs.declared.call_place.CallFacts.{CallFacts}
use Rattle.rpc_calls.specs.Facts.{IsDoneWith, facts_of, is_done_with}
use Rattle.rpc_calls.specs.First.{starts_in}
use Rattle.rpc_calls.proofs.InUseSteps.{is_done}

-- the state of which these are the facts
pub record IsFactsOf (o : Option CallState) (facts : CallFacts) : Type 0 where
  pub it : CallState
  pub there : o ≡ Some it
  pub are : facts ≡ facts_of it

pub facts_row : (o : Option CallState) (facts : CallFacts) → Some facts ≡ option_map facts_of o → IsFactsOf o facts
facts_row None facts is = absurd cc
facts_row (Some r) facts is = record { it = r; there = refl; are = some_same facts (facts_of r) is }

pub facts_none : (o : Option CallState) → None ≡ option_map facts_of o → o ≡ None
facts_none None is = refl
facts_none (Some r) is = absurd cc

-- a call that is done with can't start
pub done_waits : (t : CallStates) (p : ℕ) (o : Option CallState) → ((r : CallState) → o ≡ Some r → IsDoneWith r) → false ≡ starts_in t p o
done_waits t p None done = refl
done_waits t p (Some r) done = rw ((done r refl).empty) refl

-- what is told of a call that isn't there, or is done with
pub none_told : {A : Type 0} (none : A) (f : CallState → A) (o : Option CallState) → ((r : CallState) → o ≡ Some r → f r ≡ none) → told_of none f o ≡ none
none_told none f None same = refl
none_told none f (Some r) same = same r refl

pub done_unready : (r : CallState) (unflushed : ℕ) (halted : Bool) → IsDoneWith r → is_startable r unflushed halted ≡ false
done_unready r unflushed halted done = rw (done.empty) refl

live_same : (s : Option Status) (c : ℕ) → (if is_none s then Some c else None) ≡ (if is_some s then None else Some c)
live_same None c = refl
live_same (Some s) c = refl

pub live_known : (ds : List Deed) (t : CallStates) (name : CallName) → Agrees ds t → live_at t.calls.items (newest_of t.newest name) ≡ live_call ds name
live_known ds t name agrees = by (newest_of t.newest name) refl ∙ refl
  where
    state : (c : ℕ) (o : Option CallState) → newest_of t.newest name ≡ Some c → slice_get t.calls.items c ≡ o → live_if c o ≡ live_call ds name
    state c None newest none = newest_there ds t.newest t.calls.items name c agrees.newest agrees.calls newest none
    state c (Some r) newest there = live_same r.status c ∙ sym (live_at_newest ds t.newest t.calls.items name c r agrees.newest agrees.calls newest there)

    by : (o : Option ℕ) → newest_of t.newest name ≡ o → live_at t.calls.items o ≡ live_call ds name
    by None newest = rw (sym (agrees.newest name) ∙ newest) refl
    by (Some c) newest = state c (slice_get t.calls.items c) newest refl

pub live_open : (states : List CallState) (o : Option ℕ) (c : ℕ) → live_at states o ≡ Some c → IsOpenAt states c
live_open states None c is = absurd cc
live_open states (Some d) c is = at (slice_get states d) refl is
  where
    here : (r : CallState) → slice_get states d ≡ Some r → (b : Bool) → is_none r.status ≡ b → (if b then Some d else None) ≡ Some c → IsOpenAt states c
    here r there true live found =
        let same : d ≡ c = some_same d c found in
        let at_c : slice_get states c ≡ Some r = ap (slice_get states) (sym same) ∙ there in
        record {
          within = slice_get_within states c r at_c;
          unended = λ x is. none_status x.status (ap (λ (q : CallState). is_none q.status) (some_same x r (sym is ∙ at_c)) ∙ live);
        }
      where
        none_status : (s : Option Status) → is_none s ≡ true → s ≡ None
        none_status None is = refl
        none_status (Some s) is = absurd cc
    here r there false live found = absurd (absurd_none found)
      where
        absurd_none : None ≡ Some c → ⊥
        absurd_none h = absurd cc

    at : (o : Option CallState) → slice_get states d ≡ o → live_if d o ≡ Some c → IsOpenAt states c
    at None none found = absurd (absurd_none found)
      where
        absurd_none : None ≡ Some c → ⊥
        absurd_none h = absurd cc
    at (Some r) there found = here r there (is_none r.status) refl found

pub if_some_weaker : {A : Type 0} {P Q : A → Type 0} (o : Option A) → ((x : A) → P x → Q x) → IfSome o P → IfSome o Q
if_some_weaker None f is = is
if_some_weaker (Some x) f is = f x is

pub if_none_weaker : {A P Q : Type 0} (o : Option A) → (P → Q) → IfNone o P → IfNone o Q
if_none_weaker None f is = f is
if_none_weaker (Some x) f is = is

-- a call that isn't done with has its state
pub kept_some : {A P : Type 0} (o : Option A) → IfNone o P → (P → ⊥) → IsSome o
kept_some None left never = absurd (never left)
kept_some (Some x) left never = refl

pub runs_not_done : (r : CallState) → IsDoneWith r → is_some r.run ≡ true → ⊥
runs_not_done r done runs = absurd_is (sym runs ∙ ap is_some done.idle)
  where
    absurd_is : true ≡ false → ⊥
    absurd_is h = absurd cc

pub used_not_done : (r : CallState) → IsDoneWith r → is_done_with r ≡ false → ⊥
used_not_done r done used = absurd_is (sym (is_done r done) ∙ used)
  where
    absurd_is : true ≡ false → ⊥
    absurd_is h = absurd cc
