-- Where calls are ready, one of them is first.
use Rattle.std.proofs.Common.{◌≡◌, ◌⊎◌, ℕ, zero, suc, ◌<◌, ◌≤◌, Bool, true, false, List, reverse, refl, sym, ◌∙◌, subst, inl, inr, arith}
use Rattle.std.proofs.lemmas.Bool.{true≢false}
use Rattle.rpc_journal.specs.declared.entry.Entry.{Entry}
use Rattle.rpc_journal.specs.declared.setting.Setting.{Setting}
use Rattle.rpc_journal.specs.Calls.{call_count}
use Rattle.rpc_journal.specs.Choice.{GoesBefore, IsFirstReady, NoneReady, oldest_place}
use Rattle.rpc_journal.specs.Effect.{Deed}
use Rattle.rpc_journal.specs.History.{history}
use Rattle.rpc_journal.specs.Items.{is_ready}
use Rattle.rpc_journal.proofs.KnownLemmas.{ready_known}
use Rattle.rpc_journal.proofs.PlaceLemmas.{below_or_not}
use Rattle.rpc_schedule.proofs.EntryLemmas.{same_or_below}

-- of the calls below n, the ready one that goes before each other ready one
record Best (ds : List Deed) (n : ℕ) : Type 0 where
  call : ℕ
  within : call < n
  ready : is_ready ds call ≡ true
  first : (k : ℕ) → k < n → is_ready ds k ≡ true → GoesBefore ds call k

-- none of them is ready
abbrev NoneBelow : List Deed → ℕ → Type 0
NoneBelow ds n = (k : ℕ) → k < n → is_ready ds k ≡ false

module _ (ds : List Deed) where
  goes_either : (c k : ℕ) → GoesBefore ds c k ⊎ GoesBefore ds k c
  goes_either c k = by_place (below_or_not (oldest_place ds c) (oldest_place ds k)) (below_or_not (oldest_place ds k) (oldest_place ds c)) (below_or_not k c)
    where
      by_place : (oldest_place ds c < oldest_place ds k) ⊎ (oldest_place ds k ≤ oldest_place ds c)
          → (oldest_place ds k < oldest_place ds c) ⊎ (oldest_place ds c ≤ oldest_place ds k) → (k < c) ⊎ (c ≤ k) → GoesBefore ds c k ⊎ GoesBefore ds k c
      by_place (inl less) other number = inl (inl less)
      by_place (inr more) (inl less) number = inr (inl less)
      by_place (inr more) (inr same) (inl above) = inr (inr (omega (arith, more, same), omega (arith, above)))
      by_place (inr more) (inr same) (inr below) = inl (inr (omega (arith, more, same), below))

  goes_then : (c k l : ℕ) → GoesBefore ds c k → GoesBefore ds k l → GoesBefore ds c l
  goes_then c k l (inl a) (inl b) = inl (omega (arith, a, b))
  goes_then c k l (inl a) (inr b) = inl (omega (arith, a, b.0))
  goes_then c k l (inr a) (inl b) = inl (omega (arith, a.0, b))
  goes_then c k l (inr a) (inr b) = inr (omega (arith, a.0, b.0), omega (arith, a.1, b.1))

  goes_itself : (c : ℕ) → GoesBefore ds c c
  goes_itself c = inr (refl, omega arith)

  -- one call more, which isn't ready
  keep_best : (n : ℕ) → is_ready ds n ≡ false → Best ds n → Best ds (suc n)
  keep_best n idle b = record {
    call = b.call;
    within = omega (arith, b.within);
    ready = b.ready;
    first = λ k below ready. at k ready (same_or_below n k below);
  }
    where
      at : (k : ℕ) → is_ready ds k ≡ true → (k ≡ n) ⊎ (k < n) → GoesBefore ds b.call k
      at k ready (inl same) = absurd (true≢false (sym ready ∙ subst (λ x. is_ready ds x ≡ false) (sym same) idle))
      at k ready (inr less) = b.first k less ready

  -- one call more, which is ready
  next_best : (n : ℕ) → is_ready ds n ≡ true → (b : Best ds n) → GoesBefore ds b.call n ⊎ GoesBefore ds n b.call → Best ds (suc n)
  next_best n is b (inl before) = record {
    call = b.call;
    within = omega (arith, b.within);
    ready = b.ready;
    first = λ k below ready. at k ready (same_or_below n k below);
  }
    where
      at : (k : ℕ) → is_ready ds k ≡ true → (k ≡ n) ⊎ (k < n) → GoesBefore ds b.call k
      at k ready (inl same) = subst (GoesBefore ds b.call) (sym same) before
      at k ready (inr less) = b.first k less ready
  next_best n is b (inr before) = record {
    call = n;
    within = omega arith;
    ready = is;
    first = λ k below ready. at k ready (same_or_below n k below);
  }
    where
      at : (k : ℕ) → is_ready ds k ≡ true → (k ≡ n) ⊎ (k < n) → GoesBefore ds n k
      at k ready (inl same) = subst (GoesBefore ds n) (sym same) (goes_itself n)
      at k ready (inr less) = goes_then n b.call k before (b.first k less ready)

  only_best : (n : ℕ) → is_ready ds n ≡ true → NoneBelow ds n → Best ds (suc n)
  only_best n is none = record {
    call = n;
    within = omega arith;
    ready = is;
    first = λ k below ready. at k ready (same_or_below n k below);
  }
    where
      at : (k : ℕ) → is_ready ds k ≡ true → (k ≡ n) ⊎ (k < n) → GoesBefore ds n k
      at k ready (inl same) = subst (GoesBefore ds n) (sym same) (goes_itself n)
      at k ready (inr less) = absurd (true≢false (sym ready ∙ none k less))

  none_more : (n : ℕ) → is_ready ds n ≡ false → NoneBelow ds n → NoneBelow ds (suc n)
  none_more n is none k below = at (same_or_below n k below)
    where
      at : (k ≡ n) ⊎ (k < n) → is_ready ds k ≡ false
      at (inl same) = subst (λ x. is_ready ds x ≡ false) (sym same) is
      at (inr less) = none k less

  best : (n : ℕ) → Best ds n ⊎ NoneBelow ds n
  best zero = inr (λ k below. absurd (omega (arith, below)))
  best (suc n) = at (best n) (is_ready ds n) refl
    where
      at : Best ds n ⊎ NoneBelow ds n → (b : Bool) → is_ready ds n ≡ b → Best ds (suc n) ⊎ NoneBelow ds (suc n)
      at (inl b) true is = inl (next_best n is b (goes_either b.call n))
      at (inl b) false is = inl (keep_best n is b)
      at (inr none) true is = inl (only_best n is none)
      at (inr none) false is = inr (none_more n is none)

pub first_or_none : (set : Setting) (h : List Entry) → ((c : ℕ) × IsFirstReady (history set h) c) ⊎ NoneReady (history set h)
first_or_none set h = at (best (history set h) (call_count (history set h)))
  where
    known : (c : ℕ) → is_ready (history set h) c ≡ true → c < call_count (history set h)
    known c ready = ready_known set (reverse h) c ready

    not_ready : NoneBelow (history set h) (call_count (history set h)) → (c : ℕ) (b : Bool) → is_ready (history set h) c ≡ b → is_ready (history set h) c ≡ false
    not_ready none c true is = none c (known c is)
    not_ready none c false is = is

    at : Best (history set h) (call_count (history set h)) ⊎ NoneBelow (history set h) (call_count (history set h))
        → ((c : ℕ) × IsFirstReady (history set h) c) ⊎ NoneReady (history set h)
    at (inl b) = inl (b.call, record { ready = b.ready; first = λ k ready. b.first k (known k ready) ready })
    at (inr none) = inr (λ c. not_ready none c (is_ready (history set h) c) refl)
