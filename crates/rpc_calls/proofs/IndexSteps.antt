-- What a table keeps beside the states of its calls, over the changes of these states.
use Rattle.std.proofs.Common.{◌≡◌, ◌≢◌, ◌⊎◌, inl, inr, ℕ, zero, suc, ◌+◌, ◌<◌, ◌≤◌, ◌^◌, Bool, true, false, not, ◌||◌, List, [], ◌∷◌, ◌++◌, length, slice_get, count_by, Some, is_some, None, if◌then◌else◌, refl, ap, sym, ◌∙◌, subst, arith, length-append}
use Rattle.std.specs.List.{Contains}
use Rattle.std.specs.VecDeque.{deque_capacity}
use Rattle.std.proofs.lemmas.Bool.{not-true}
use Rattle.std.proofs.lemmas.List.Sums.{count_by-le-length}
use Rattle.std.proofs.lemmas.Option.{slice_get_within}
use Rattle.rpc_journal.specs.declared.table.call_state.CallState.{CallState}
use Rattle.rpc_journal.specs.Choice.{first_place}
use Rattle.rpc_journal.specs.Kinds.{is_empty}
use Rattle.rpc_journal.proofs.PlaceLemmas.{below_or_not, get_front, get_last, get_some, some_same}
use Rattle.rpc_journal.proofs.table.StepLemmas.{same_or_not}
use Rattle.rpc_calls.specs.declared.index.Index.{Index}
use Rattle.rpc_calls.specs.declared.marks.Marks.{Marks}
use Rattle.rpc_calls.specs.declared.owed.Owed.{Owed}
use Rattle.rpc_calls.specs.Indexed.{CanReindex, IsIndexed, Reindexes}
use Rattle.rpc_calls.specs.Listed.{InOrder, waits_since}
use Rattle.rpc_calls.specs.Marks.{is_queued, marks_of, no_marks, oldest_since, one_if, waits}
use Rattle.rpc_calls.specs.Owed.{owed_by}
use Rattle.rpc_calls.specs.Places.{ChangesAll, ChangesAt}
use Rattle.rpc_calls.specs.Room.{uncancelled, running}
use Rattle.rpc_calls.proofs.NoticeSteps.{same_counts}
use Rattle.rpc_calls.proofs.PlaceChanges.{count-change, count-cons, count-has, count-push}

-- one of the calls that pass is counted
count-one : (p : CallState → Bool) (states : List CallState) (c : ℕ) (r : CallState) → slice_get states c ≡ Some r → one_if (p r) ≤ count_by p states
count-one p states c r is = at (p r) refl
  where
    at : (b : Bool) → p r ≡ b → one_if (p r) ≤ count_by p states
    at true passes = omega (arith, ap one_if passes, count-has p states c r is passes)
    at false fails = omega (arith, ap one_if fails)

-- where one doesn't pass, fewer than all are counted
count-lacks : (p : CallState → Bool) (states : List CallState) (c : ℕ) (r : CallState) → slice_get states c ≡ Some r → p r ≡ false
    → count_by p states < length states
count-lacks p [] c r is fails = absurd cc
count-lacks p (y ∷ states) zero r is fails =
    let same : y ≡ r = cc in
    omega (arith, count-cons p y states, ap one_if (ap p same ∙ fails), count_by-le-length p states)
count-lacks p (y ∷ states) (suc c) r is fails =
    let one : one_if (p y) ≤ 1 = at_most (p y) in
    omega (arith, count-cons p y states, one, count-lacks p states c r is fails)
  where
    at_most : (b : Bool) → one_if b ≤ 1
    at_most true = omega arith
    at_most false = omega arith

-- two counts are the same where both their numbers are
same_owed : (owed other : Owed) → owed.uncancelled ≡ other.uncancelled → owed.running ≡ other.running → owed.queued ≡ other.queued → owed ≡ other
same_owed owed other open_now busy_now queued_now =
    ap (λ n. all n owed.running owed.queued) open_now ∙ ap (λ n. all other.uncancelled n owed.queued) busy_now ∙ ap (all other.uncancelled other.running) queued_now
  where
    all : ℕ → ℕ → ℕ → Owed
    all m n k = record { uncancelled = m; running = n; queued = k }

-- an event waits for a call exactly where one waits since a place
waits_as : (r : CallState) → waits r ≡ is_some (oldest_since r)
waits_as r = at (is_some r.run || is_empty r.waiting.items)
  where
    at : (b : Bool) → not b ≡ is_some (if b then None else Some (first_place r.waiting.items))
    at true = refl
    at false = refl

pub since_waits : (r : CallState) → waits r ≡ true → oldest_since r ≡ Some (first_place r.waiting.items)
since_waits r waiting = rw (not-true (is_some r.run || is_empty r.waiting.items) waiting) refl

-- these are the marks of this call
abbrev pub AreMarksAt : List CallState → ℕ → Marks → Type 0
AreMarksAt states c marks = (r : CallState) → slice_get states c ≡ Some r → marks ≡ marks_of r

-- a call is counted, and is in the list or has a place there
pub can_reindex : (states : List CallState) (index : Index) (c : ℕ) (was : Marks) → IsIndexed states index → c < length states → AreMarksAt states c was
    → CanReindex c was index
can_reindex states index c was is within marks =
    let row = get_some states c within in
    let its = marks row.0 row.1 in
    record {
      owed = record {
        open_one = omega (arith, ap (λ (m : Marks). one_if m.uncancelled) its, ap (λ (o : Owed). o.uncancelled) is.counts, count-one (λ (r : CallState). not r.cancelled) states c row.0 row.1);
        busy_one = omega (arith, ap (λ (m : Marks). one_if m.runs) its, ap (λ (o : Owed). o.running) is.counts, count-one (λ (r : CallState). is_some r.run) states c row.0 row.1);
        queued_one = omega (arith, ap (λ (m : Marks). one_if m.queued) its, ap (λ (o : Owed). o.queued) is.counts, count-one is_queued states c row.0 row.1);
        few_open = omega (arith, ap (λ (o : Owed). o.uncancelled) is.counts, count_by-le-length (λ (r : CallState). not r.cancelled) states, is.few);
        few_busy = omega (arith, ap (λ (o : Owed). o.running) is.counts, count_by-le-length (λ (r : CallState). is_some r.run) states, is.few);
        few_queued = omega (arith, ap (λ (o : Owed). o.queued) is.counts, count_by-le-length is_queued states, is.few);
      };
      waiting = record {
        order = is.order;
        there = λ p waited. is.covers c row.0 p row.1 (sym (ap (λ (m : Marks). m.since) its) ∙ waited);
        fits = omega (arith, is.short, is.places, count_by-le-length waits states);
        place = λ idle. omega (
          arith,
          is.short,
          is.places,
          count-lacks waits states c row.0 row.1 (waits_as row.0 ∙ ap is_some (sym (ap (λ (m : Marks). m.since) its) ∙ idle)),
        );
      };
    }

-- one call has changed
pub index_changed : (R : CallState → CallState → Type 0) (states later : List CallState) (index after : Index) (c : ℕ) (was now : Marks)
    → IsIndexed states index → c < length states → ChangesAt c R states later → AreMarksAt states c was → AreMarksAt later c now
    → Reindexes c was now index after → IsIndexed later after
index_changed R states later index after c was now is within changes before marks moved =
    let r = get_some states c within in
    let x = get_some later c (omega (arith, within, changes.many)) in
    let its = before r.0 r.1 in
    let now_its = marks x.0 x.1 in
    record {
      counts = same_owed after.owed (owed_by later)
          (omega (
            arith,
            moved.owed.open_now,
            ap (λ (o : Owed). o.uncancelled) is.counts,
            ap (λ (m : Marks). one_if m.uncancelled) its,
            ap (λ (m : Marks). one_if m.uncancelled) now_its,
            count-change (λ (q : CallState). not q.cancelled) states later c r.0 x.0 changes.many changes.others r.1 x.1,
          ))
          (omega (
            arith,
            moved.owed.busy_now,
            ap (λ (o : Owed). o.running) is.counts,
            ap (λ (m : Marks). one_if m.runs) its,
            ap (λ (m : Marks). one_if m.runs) now_its,
            count-change (λ (q : CallState). is_some q.run) states later c r.0 x.0 changes.many changes.others r.1 x.1,
          ))
          (omega (
            arith,
            moved.owed.queued_now,
            ap (λ (o : Owed). o.queued) is.counts,
            ap (λ (m : Marks). one_if m.queued) its,
            ap (λ (m : Marks). one_if m.queued) now_its,
            count-change is_queued states later c r.0 x.0 changes.many changes.others r.1 x.1,
          ));
      covers = λ k y p there waiting. cover k y p there waiting (same_or_not k c);
      order = moved.waiting.order;
      short = omega (
        arith,
        is.short,
        moved.waiting.many,
        ap (λ (m : Marks). one_if (is_some m.since)) its,
        ap (λ (m : Marks). one_if (is_some m.since)) now_its,
        ap one_if (waits_as r.0),
        ap one_if (waits_as x.0),
        count-change waits states later c r.0 x.0 changes.many changes.others r.1 x.1,
      );
      places = omega (arith, is.places, changes.many, moved.capacity);
      few = omega (arith, is.few, changes.many);
    }
  where
    cover : (k : ℕ) (y : CallState) (p : ℕ) → slice_get later k ≡ Some y → oldest_since y ≡ Some p → (k ≡ c) ⊎ (k ≢ c)
        → Contains after.waiting.calls.items (waits_since k p)
    cover k y p there waiting (inl same) =
        let its : now ≡ marks_of y = marks y (subst (λ n. slice_get later n ≡ Some y) same there) in
        subst (λ n. Contains after.waiting.calls.items (waits_since n p)) (sym same) (moved.waiting.here p (ap (λ (m : Marks). m.since) its ∙ waiting))
    cover k y p there waiting (inr apart) =
        moved.waiting.others (waits_since k p) apart (is.covers k y p (sym (changes.others k apart) ∙ there) waiting)

-- there are places for one more call
pub index_widened : (states : List CallState) (index wider : Index) → IsIndexed states index → wider.owed ≡ index.owed
    → wider.waiting.calls.items ≡ index.waiting.calls.items → deque_capacity index.waiting.calls ≤ deque_capacity wider.waiting.calls → IsIndexed states wider
index_widened states index wider is owed listed capacity = record {
  counts = owed ∙ is.counts;
  covers = λ c r p there waiting. subst (λ xs. Contains xs (waits_since c p)) (sym listed) (is.covers c r p there waiting);
  order = subst InOrder (sym listed) is.order;
  short = omega (arith, is.short, ap length listed);
  places = omega (arith, is.places, capacity);
  few = is.few;
}

-- a call that isn't there yet has a place in the list
pub can_index : (states : List CallState) (index : Index) (n : ℕ) → IsIndexed states index → length states < deque_capacity index.waiting.calls
    → CanReindex n no_marks index
can_index states index n is place = record {
  owed = record {
    open_one = omega arith;
    busy_one = omega arith;
    queued_one = omega arith;
    few_open = omega (arith, ap (λ (o : Owed). o.uncancelled) is.counts, count_by-le-length (λ (r : CallState). not r.cancelled) states, is.few);
    few_busy = omega (arith, ap (λ (o : Owed). o.running) is.counts, count_by-le-length (λ (r : CallState). is_some r.run) states, is.few);
    few_queued = omega (arith, ap (λ (o : Owed). o.queued) is.counts, count_by-le-length is_queued states, is.few);
  };
  waiting = record {
    order = is.order;
    there = λ p h. absurd cc;
    fits = omega (arith, is.short, count_by-le-length waits states, place);
    place = λ h. omega (arith, is.short, count_by-le-length waits states, place);
  };
}

-- one more call is there
pub index_opened : (states mid later : List CallState) (index after : Index) (n : ℕ) (x : CallState) (none its : Marks) → IsIndexed states index → mid ≡ states
    → n ≡ length states → n + 1 ≤ deque_capacity index.waiting.calls → n + 1 < 2 ^ 32 → later ≡ mid ++ x ∷ [] → none ≡ no_marks → its ≡ marks_of x
    → Reindexes n none its index after → IsIndexed later after
index_opened states mid later index after n x none its is same number place few more nothing marks moved = record {
  counts = same_owed after.owed (owed_by later)
      (omega (arith, moved.owed.open_now, ap (λ (o : Owed). o.uncancelled) is.counts, ap uncancelled grown, count-push (λ (q : CallState). not q.cancelled) states x, ap (λ (m : Marks). one_if m.uncancelled) nothing, ap (λ (m : Marks). one_if m.uncancelled) marks))
      (omega (arith, moved.owed.busy_now, ap (λ (o : Owed). o.running) is.counts, ap running grown, count-push (λ (q : CallState). is_some q.run) states x, ap (λ (m : Marks). one_if m.runs) nothing, ap (λ (m : Marks). one_if m.runs) marks))
      (omega (arith, moved.owed.queued_now, ap (λ (o : Owed). o.queued) is.counts, ap (count_by is_queued) grown, count-push is_queued states x, ap (λ (m : Marks). one_if m.queued) nothing, ap (λ (m : Marks). one_if m.queued) marks));
  covers = λ k y p there waiting. cover k y p (subst (λ ys. slice_get ys k ≡ Some y) grown there) waiting (below_or_not k (length states));
  order = moved.waiting.order;
  short = omega (
    arith,
    is.short,
    moved.waiting.many,
    ap (count_by waits) grown,
    count-push waits states x,
    ap (λ (m : Marks). one_if (is_some m.since)) nothing,
    ap (λ (m : Marks). one_if (is_some m.since)) marks,
    ap one_if (waits_as x),
  );
  places = omega (arith, place, number, ap length grown, length-append states (x ∷ []), moved.capacity);
  few = omega (arith, few, number, ap length grown, length-append states (x ∷ []));
}
  where
    grown : later ≡ states ++ x ∷ []
    grown = more ∙ ap (λ xs. xs ++ x ∷ []) same

    cover : (k : ℕ) (y : CallState) (p : ℕ) → slice_get (states ++ x ∷ []) k ≡ Some y → oldest_since y ≡ Some p → (k < length states) ⊎ (length states ≤ k)
        → Contains after.waiting.calls.items (waits_since k p)
    cover k y p there waiting (inl within) =
        moved.waiting.others (waits_since k p) (λ same. absurd (omega (arith, same, within, number)))
        (is.covers k y p (sym (get_front states (x ∷ []) k within) ∙ there) waiting)
    cover k y p there waiting (inr past) =
        let bound : k < length (states ++ x ∷ []) = slice_get_within (states ++ x ∷ []) k y there in
        let here : k ≡ length states = omega (arith, past, bound, length-append states (x ∷ [])) in
        let it : x ≡ y = some_same x y (sym (get_last states x) ∙ ap (slice_get (states ++ x ∷ [])) (sym here) ∙ there) in
        subst (λ m. Contains after.waiting.calls.items (waits_since m p)) (number ∙ sym here)
        (moved.waiting.here p (ap (λ (m : Marks). m.since) marks ∙ ap oldest_since it ∙ waiting))

-- the calls have other places for their events, and the same marks
pub index_alike : (R : CallState → CallState → Type 0) (states later : List CallState) (index : Index) → IsIndexed states index → ChangesAll R states later
    → ((r x : CallState) → R r x → marks_of x ≡ marks_of r) → IsIndexed later index
index_alike R states later index is changes alike = record {
  counts = is.counts ∙ same_owed (owed_by states) (owed_by later)
      (sym (same_counts (λ r. not r.cancelled) states later changes.many (λ k x y was now. ap (λ (m : Marks). m.uncancelled) (alike x y (changes.each k x y was now)))))
      (sym (same_counts (λ r. is_some r.run) states later changes.many (λ k x y was now. ap (λ (m : Marks). m.runs) (alike x y (changes.each k x y was now)))))
      (sym (same_counts is_queued states later changes.many (λ k x y was now. ap (λ (m : Marks). m.queued) (alike x y (changes.each k x y was now)))));
  order = is.order;
  covers = λ k y p there waiting.
      let within : k < length later = slice_get_within later k y there in
      let row = get_some states k (omega (arith, within, changes.many)) in
      is.covers k row.0 p row.1 (sym (ap (λ (m : Marks). m.since) (alike row.0 y (changes.each k row.0 y row.1 there))) ∙ waiting);
  short = omega (
    arith,
    is.short,
    same_counts waits states later changes.many
        (λ k x y was now. waits_as y ∙ ap (λ (m : Marks). is_some m.since) (alike x y (changes.each k x y was now)) ∙ sym (waits_as x)),
  );
  places = omega (arith, is.places, changes.many);
  few = omega (arith, is.few, changes.many);
}
