-- The calls of a table over what tells all of them, or makes places for the events of all.
use Rattle.std.proofs.Common.{◌≡◌, ◌≢◌, ◌⊎◌, inl, inr, ℕ, ◌+◌, ◌<◌, ◌≤◌, Bool, true, false, not, ◌&&◌, nat_lt, List, length, slice_get, Option, Some, None, is_some, is_none, if◌then◌else◌, refl, ap, sym, ◌∙◌, subst, arith}
use Rattle.std.specs.List.{list_any}
use Rattle.std.proofs.lemmas.List.{append-nil}
use Rattle.rpc_journal.specs.declared.table.call_state.CallState.{CallState}
use Rattle.rpc_journal.specs.declared.table.notice.Notice.{Notice}
use Rattle.rpc_journal.specs.declared.table.notice.Notice.TheVariants.{Time, InputEnded, ChannelClosed}
use Rattle.rpc_journal.specs.Queues.{is_tick}
use Rattle.rpc_journal.specs.table.Touch.{is_told, telling, touch_told, untouched}
use Rattle.rpc_journal.specs.table.Turns.{IsTold, Turns}
use Rattle.rpc_journal.proofs.table.AgreeLemmas.{is_untouched}
use Rattle.std.proofs.Math.Arith.{lt_of_le-ne}
use Rattle.rpc_journal.proofs.PlaceLemmas.{below_or_not}
use Rattle.rpc_journal.proofs.table.StepLemmas.{same_or_not}
use Rattle.rpc_calls.specs.Facts.{IsDoneWith, is_done_with}
use Rattle.rpc_calls.specs.Places.{ChangesAll, ChangesAt}
use Rattle.rpc_calls.specs.Widened.{HasTwoPlaces, IsWider, OpensHaveTwo}
use Rattle.rpc_calls.proofs.InUseSteps.{done_ended, put_used}
use Rattle.rpc_calls.proofs.PlaceChanges.{ChangesBelow, changes_all, changes_skip}

and_false : (a : Bool) → (a && false) ≡ false
and_false true = refl
and_false false = refl

none_off : {A : Type 0} (o : Option A) → is_some o ≡ true → is_none o ≡ false
none_off None is = absurd cc
none_off (Some a) is = refl

-- a call that has an end is told of nothing
pub not_told : (notice : Notice) (r : CallState) → is_some r.status ≡ true → is_told notice r ≡ false
not_told (Time now) r over =
    rw (none_off r.status over) (ap (λ b. b && not (list_any (λ w. is_tick w.event) r.waiting.items) && nat_lt (length r.waiting.items) 64) (and_false r.method.ticks))
not_told InputEnded r over = none_off r.status over
not_told (ChannelClosed channel) r over = rw (none_off r.status over) refl

pub done_untold : (at : ℕ) (notice : Notice) (r : CallState) → IsDoneWith r → IsTold at notice r r
done_untold at notice r done =
    subst (λ b. Turns at (if b then touch_told notice else untouched) r r) (sym (not_told notice r done.over)) (record { is = is_untouched at r; capacity = omega arith })

alike_used : (r x : CallState) → x.status ≡ r.status → x.run ≡ r.run → x.waiting.items ≡ r.waiting.items → is_done_with r ≡ false → is_done_with x ≡ false
alike_used r x status run waiting used = rw (status, run, waiting) used

pub wider_used : (r x : CallState) → IsWider r x → is_done_with r ≡ false → is_done_with x ≡ false
wider_used r x wider = alike_used r x wider.same.status wider.same.run wider.same.waiting

-- a call that is told isn't done with after it
pub told_used : (at : ℕ) (notice : Notice) (r x : CallState) → is_done_with r ≡ false → Turns at (telling notice r) r x → is_done_with x ≡ false
told_used at notice r x used turns = by (is_told notice r) turns
  where
    heard : (n : Notice) → Turns at (touch_told n) r x → is_done_with x ≡ false
    heard (Time now) told = put_used at (touch_told (Time now)) _ _ r x refl refl told
    heard InputEnded told = put_used at (touch_told InputEnded) _ _ r x refl refl told
    heard (ChannelClosed channel) told = put_used at (touch_told (ChannelClosed channel)) _ _ r x refl refl told

    by : (b : Bool) → Turns at (if b then touch_told notice else untouched) r x → is_done_with x ≡ false
    by true told = heard notice told
    by false same = alike_used r x same.is.status same.is.run (same.is.waiting ∙ append-nil r.waiting.items) used

-- the calls up to this one were told, where those between are done with
pub told_to : (at n m : ℕ) (notice : Notice) (first now : List CallState) → ChangesBelow n (IsTold at notice) first now → n ≤ m
    → ((k : ℕ) (r : CallState) → n ≤ k → k < m → slice_get now k ≡ Some r → IsDoneWith r) → ChangesBelow m (IsTold at notice) first now
told_to at n m notice first now told further done =
    changes_skip (IsTold at notice) n m first now told further (λ k r from below is. done_untold at notice r (done k r from below is))

-- all were, where all further ones are done with
pub told_all : (at n : ℕ) (notice : Notice) (first now : List CallState) → ChangesBelow n (IsTold at notice) first now
    → ((k : ℕ) (r : CallState) → n ≤ k → slice_get now k ≡ Some r → IsDoneWith r) → ChangesAll (IsTold at notice) first now
told_all at n notice first now told done =
    changes_all (IsTold at notice) (n + length first) first now
    (told_to at n (n + length first) notice first now told (omega arith) (λ k r from below is. done k r from is)) (omega arith)

pub opens_two : (n : ℕ) (states : List CallState) → ((k : ℕ) (r : CallState) → k < n → slice_get states k ≡ Some r → r.status ≡ None → HasTwoPlaces r)
    → ((k : ℕ) (r : CallState) → n ≤ k → slice_get states k ≡ Some r → IsDoneWith r) → OpensHaveTwo states
opens_two n states room done = record { free = λ k r is live. at k r is live (below_or_not k n) }
  where
    at : (k : ℕ) (r : CallState) → slice_get states k ≡ Some r → r.status ≡ None → (k < n) ⊎ (n ≤ k) → HasTwoPlaces r
    at k r is live (inl below) = room k r below is live
    at k r is live (inr from) = done_ended r (done k r from is) live

-- one more call has two places, where those between are done with
pub room_more : (n m : ℕ) (old new : List CallState) → ((k : ℕ) (r : CallState) → k < n → slice_get old k ≡ Some r → r.status ≡ None → HasTwoPlaces r)
    → ((k : ℕ) (r : CallState) → n ≤ k → k < m → slice_get old k ≡ Some r → IsDoneWith r) → ChangesAt m IsWider old new
    → ((r : CallState) → slice_get new m ≡ Some r → HasTwoPlaces r) → (k : ℕ) (r : CallState) → k < m + 1 → slice_get new k ≡ Some r → r.status ≡ None → HasTwoPlaces r
room_more n m old new room done changes here k r below is live = at (same_or_not k m)
  where
    before : k ≢ m → (k < n) ⊎ (n ≤ k) → HasTwoPlaces r
    before apart (inl early) = room k r early (sym (changes.others k apart) ∙ is) live
    before apart (inr late) = done_ended r (done k r late (lt_of_le-ne (omega (arith, below)) apart) (sym (changes.others k apart) ∙ is)) live

    at : (k ≡ m) ⊎ (k ≢ m) → HasTwoPlaces r
    at (inl same) = here r (ap (slice_get new) (sym same) ∙ is)
    at (inr apart) = before apart (below_or_not k n)
