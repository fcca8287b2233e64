-- What one more entry does to a history.
use Rattle.std.proofs.Common.{◌≡◌, ◌⊎◌, ℕ, zero, suc, ◌+◌, ◌<◌, ◌≤◌, Bool, true, false, List, [], ◌∷◌, ◌++◌, length, reverse, slice_get, Some, refl, ap, sym, ◌∙◌, subst, inl, inr, arith, append_assoc, length-append}
use Rattle.std.proofs.lemmas.Bool.{true≢false, and_parts, not-true}
use Rattle.std.proofs.lemmas.List.{append-nil}
use Rattle.rpc_journal.specs.declared.entry.Entry.{Entry}
use Rattle.rpc_journal.specs.declared.entry.TheConstants.{MAX_ENTRIES}
use Rattle.rpc_journal.specs.declared.setting.Setting.{Setting}
use Rattle.rpc_journal.specs.Calls.{call_count}
use Rattle.rpc_journal.specs.Choice.{NoneReady}
use Rattle.rpc_journal.specs.History.{history}
use Rattle.rpc_journal.specs.Items.{arrival_of, arrivals, is_ready}
use Rattle.rpc_journal.specs.Kinds.{is_empty}
use Rattle.rpc_journal.specs.Queues.{waiting_of}
use Rattle.rpc_journal.specs.Quiet.{all_below}
use Rattle.rpc_journal.proofs.KnownLemmas.{ready_known}
use Rattle.rpc_journal.proofs.PlaceLemmas.{below_or_not}
use Rattle.rpc_schedule.specs.OneThread.{HasRoom, takes_room}
use Rattle.rpc_schedule.specs.Serving.{none_waiting}

pub arrivals-push : (h : List Entry) (e : Entry) → arrivals (h ++ e ∷ []) ≡ arrivals h ++ arrival_of e.kind
arrivals-push [] e = append-nil (arrival_of e.kind)
arrivals-push (x ∷ h) e =
    ap (λ ps. arrival_of x.kind ++ ps) (arrivals-push h e) ∙ sym (append_assoc (arrival_of x.kind) (arrivals h) (arrival_of e.kind))

pub length-push : (h : List Entry) (e : Entry) → length (h ++ e ∷ []) ≡ length h + 1
length-push h e = length-append h (e ∷ [])

-- what stands in a history with one more entry stands in the history, or is that entry
get_push : (h : List Entry) (e x : Entry) (at : ℕ) → slice_get (h ++ e ∷ []) at ≡ Some x
    → (slice_get h at ≡ Some x) ⊎ ((at ≡ length h) × (e ≡ x))
get_push [] e x zero is = inr (refl, cc)
get_push [] e x (suc at) is = absurd cc
get_push (y ∷ h) e x zero is = inl is
get_push (y ∷ h) e x (suc at) is = later (get_push h e x at is)
  where
    later : (slice_get h at ≡ Some x) ⊎ ((at ≡ length h) × (e ≡ x)) → (slice_get (y ∷ h) (suc at) ≡ Some x) ⊎ ((suc at ≡ length (y ∷ h)) × (e ≡ x))
    later (inl there) = inl there
    later (inr last) = inr (ap suc last.0, last.1)

pub room-push : (h : List Entry) (e : Entry) → HasRoom h → (takes_room e.kind ≡ true → length h < MAX_ENTRIES) → HasRoom (h ++ e ∷ [])
room-push h e room fits at x there takes = by_place (get_push h e x at there)
  where
    by_place : (slice_get h at ≡ Some x) ⊎ ((at ≡ length h) × (e ≡ x)) → at < MAX_ENTRIES
    by_place (inl before) = room at x before takes
    by_place (inr last) = omega (arith, last.0, fits (subst (λ y. takes_room y.kind ≡ true) (sym last.1) takes))

pub same_or_below : (n k : ℕ) → k < suc n → (k ≡ n) ⊎ (k < n)
same_or_below n k below = at (below_or_not k n)
  where
    at : (k < n) ⊎ (n ≤ k) → (k ≡ n) ⊎ (k < n)
    at (inl h) = inr h
    at (inr h) = inl (omega (arith, h, below))

pub all_below_at : (n : ℕ) (test : ℕ → Bool) (k : ℕ) → all_below n test ≡ true → k < n → test k ≡ true
all_below_at zero test k all below = absurd (omega (arith, below))
all_below_at (suc n) test k all below =
    at (same_or_below n k below) (and_parts (all_below n test) (test n) all) (all_below_at n test k)
  where
    at : (k ≡ n) ⊎ (k < n) → (all_below n test ≡ true) × (test n ≡ true) → (all_below n test ≡ true → k < n → test k ≡ true) → test k ≡ true
    at (inl same) parts before = subst (λ j. test j ≡ true) (sym same) parts.1
    at (inr less) parts before = before parts.0 less

pub all_below_same : (n : ℕ) (p q : ℕ → Bool) → ((k : ℕ) → p k ≡ true → q k ≡ true) → all_below n p ≡ true → all_below n q ≡ true
all_below_same zero p q each all = refl
all_below_same (suc n) p q each all =
    let parts = and_parts (all_below n p) (p n) all in rw (all_below_same n p q each parts.0, each n parts.1) refl

-- where no event waits no call is ready
pub none_ready : (set : Setting) (h : List Entry) → none_waiting (history set h) ≡ true → NoneReady (history set h)
none_ready set h none c = at (is_ready (history set h) c) refl
  where
    empty : is_ready (history set h) c ≡ true → is_empty (waiting_of (history set h) c) ≡ true
    empty ready = all_below_at (call_count (history set h)) (λ k. is_empty (waiting_of (history set h) k)) c none (ready_known set (reverse h) c ready)

    some : is_ready (history set h) c ≡ true → is_empty (waiting_of (history set h) c) ≡ false
    some ready = not-true _ (and_parts _ _ (and_parts _ _ (and_parts _ _ (and_parts _ _ ready).0).0).0).0

    at : (b : Bool) → is_ready (history set h) c ≡ b → is_ready (history set h) c ≡ false
    at true is = absurd (true≢false (sym (empty is) ∙ some is))
    at false is = is
