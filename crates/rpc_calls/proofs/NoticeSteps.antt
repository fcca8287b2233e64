-- What a table stands for, over an entry that tells many calls.
use Rattle.std.proofs.Common.{◌≡◌, ℕ, suc, ◌+◌, ◌≤◌, Bool, true, false, not, ◌&&◌, ◌||◌, ◌==◌, List, [], ◌∷◌, length, map, drop, slice_get, count_by, Option, Some, if◌then◌else◌, refl, ap, sym, ◌∙◌, subst, arith, length-append}
use Rattle.std.proofs.lemmas.Bool.{true≢false, false≢true, and_parts, eqb-true}
use Rattle.std.proofs.lemmas.List.{append-nil}
use Rattle.std.specs.List.{list_any}
use Rattle.rpc_ids.specs.declared.method.Role.{Role}
use Rattle.rpc_ids.specs.declared.status.Status.{Status}
use Rattle.rpc_ids.specs.declared.status.Status.TheVariants.{Aborted, Unavailable}
use Rattle.rpc_handlers.specs.declared.event.Event.{Event}
use Rattle.rpc_handlers.specs.declared.event.Event.TheVariants.{Ended, Tick as Ticked}
use Rattle.rpc_handlers.specs.declared.event.Memo.{Memo}
use Rattle.rpc_handlers.specs.HandlerRule.{HandlerRule}
use Rattle.rpc_journal.specs.declared.table.call_state.CallState.{CallState}
use Rattle.rpc_journal.specs.declared.entry.EntryKind.{EntryKind}
use Rattle.rpc_journal.specs.declared.entry.EntryKind.TheVariants.{Close, EndIn, Tick}
use Rattle.rpc_journal.specs.declared.table.notice.Notice.{Notice}
use Rattle.rpc_journal.specs.declared.table.notice.Notice.TheVariants.{Time, InputEnded, ChannelClosed}
use Rattle.rpc_journal.specs.declared.setting.Setting.{Setting}
use Rattle.rpc_journal.specs.Calls.{calls, of_call, has_end, is_cancelled, runner_of}
use Rattle.rpc_journal.specs.Effect.{Opening, Deed}
use Rattle.rpc_journal.specs.Entries.{each_from, is_live_on}
use Rattle.rpc_journal.specs.Kinds.{is_empty}
use Rattle.rpc_journal.specs.Queues.{waiting_of, puts_since, starts_since, put_at}
use Rattle.rpc_journal.specs.table.Touch.{IsTouched, is_told, touch_told, untouched}
use Rattle.rpc_journal.specs.History.{deed_by}
use Rattle.rpc_journal.specs.table.Turns.{IsTold}
use Rattle.rpc_journal.proofs.EachLemmas.{has_number}
use Rattle.rpc_journal.proofs.table.NoticeLemmas.{notice_effect, notice_test}
use Rattle.rpc_journal.proofs.PacketLemmas.{has_end-more}
use Rattle.rpc_calls.specs.Marks.{one_if}
use Rattle.rpc_calls.specs.Handlers.{is_over, Keeps, KeepsAll}
use Rattle.rpc_calls.proofs.KeepLemmas.{keeps_left}
use Rattle.rpc_calls.proofs.PlaceChanges.{count-cons}
use Rattle.rpc_calls.proofs.StateLemmas.{LeavesHandler}

-- nothing for a call that doesn't pass
none_for : {A : Type 0} (test : ℕ → Opening → Bool) (value : A) (os : List Opening) (n k : ℕ) → ((o : Opening) → test k o ≡ false)
    → of_call k (each_from n test value os) ≡ []
none_for test value [] n k fails = refl
none_for test value (o ∷ os) n k fails = at (none_for test value os (n + 1) k fails) (test n o) refl (n == k) refl
  where
    at : of_call k (each_from (n + 1) test value os) ≡ [] → (b : Bool) → test n o ≡ b → (q : Bool) → (n == k) ≡ q
        → of_call k (if b then (n, value) ∷ each_from (n + 1) test value os else each_from (n + 1) test value os) ≡ []
    at rest false is q same = rest
    at rest true is false same = rw same rest
    at rest true is true same = absurd (true≢false (sym is ∙ subst (λ j. test j o ≡ false) (sym (eqb-true n k same)) (fails o)))

-- the counts of two lists that agree at each place
pub same_counts : (p : CallState → Bool) (xs ys : List CallState) → length ys ≡ length xs
    → ((k : ℕ) (x y : CallState) → slice_get xs k ≡ Some x → slice_get ys k ≡ Some y → p y ≡ p x) → count_by p ys ≡ count_by p xs
same_counts p [] [] many same = refl
same_counts p [] (y ∷ ys) many same = absurd (omega (arith, many))
same_counts p (x ∷ xs) [] many same = absurd (omega (arith, many))
same_counts p (x ∷ xs) (y ∷ ys) many same =
    let first : one_if (p y) ≡ one_if (p x) = ap one_if (same 0 x y refl refl) in
    omega (arith, count-cons p y ys, count-cons p x xs, first, same_counts p xs ys (omega (arith, many)) (λ k. same (suc k)))

-- the places of a call that was told
pub one_more : (at : ℕ) (notice : Notice) (r x : CallState) → IsTold at notice r x → length x.waiting.items ≤ length r.waiting.items + 1
one_more at notice r x told = by notice (is_told notice r) told.is
  where
    by : (n : Notice) (b : Bool) → IsTouched at (if b then touch_told n else untouched) r x → length x.waiting.items ≤ length r.waiting.items + 1
    by (Time t) true is = omega (arith, ap length is.waiting, length-append r.waiting.items (put_at at (Ticked t ∷ [])))
    by InputEnded true is = omega (arith, ap length is.waiting, length-append r.waiting.items (put_at at (Ended Unavailable ∷ [])))
    by (ChannelClosed channel) true is = omega (arith, ap length is.waiting)
    by n false is = omega (arith, ap length is.waiting, length-append r.waiting.items [])

-- what a notice leaves as it is
pub record IsLeft (r x : CallState) : Type 0 where
  pub cancelled : x.cancelled ≡ r.cancelled
  pub run : x.run ≡ r.run

pub left : (at : ℕ) (notice : Notice) (r x : CallState) → IsTold at notice r x → IsLeft r x
left at notice r x told = by notice (is_told notice r) told.is
  where
    by : (n : Notice) (b : Bool) → IsTouched at (if b then touch_told n else untouched) r x → IsLeft r x
    by (Time t) true is = record { cancelled = is.cancelled; run = is.run }
    by InputEnded true is = record { cancelled = is.cancelled; run = is.run }
    by (ChannelClosed channel) true is = record { cancelled = is.cancelled; run = is.run }
    by n false is = record { cancelled = is.cancelled; run = is.run }

-- the entry that tells of this
abbrev pub notice_kind : Notice → EntryKind
notice_kind (Time now) = Tick now
notice_kind InputEnded = EndIn
notice_kind (ChannelClosed channel) = Close channel

abbrev pub notice_deed : Role → List Deed → ℕ → Notice → Deed
notice_deed role ds seat notice = deed_by seat (notice_kind notice) (notice_effect role ds notice)

none_passes : (b p q : Bool) → (b && not true && p && q) ≡ false
none_passes true p q = refl
none_passes false p q = refl

-- no call that has an end is told
untold : (ds : List Deed) (notice : Notice) (k : ℕ) → has_end ds k ≡ true → (o : Opening) → notice_test ds notice k o ≡ false
untold ds (Time now) k ended o = rw ended (none_passes o.method.ticks _ _)
untold ds InputEnded k ended o = ap not ended
untold ds (ChannelClosed channel) k ended o = rw ended refl

notice_cut : (role : Role) (ds : List Deed) (seat c : ℕ) (notice : Notice) → is_cancelled (notice_deed role ds seat notice ∷ ds) c ≡ is_cancelled ds c
notice_cut role ds seat c (Time now) = refl
notice_cut role ds seat c InputEnded = refl
notice_cut role ds seat c (ChannelClosed channel) = refl

notice_leaves : (role : Role) (ds : List Deed) (seat c : ℕ) (notice : Notice) → LeavesHandler ds (notice_deed role ds seat notice) c
notice_leaves role ds seat c (Time now) = record { start = refl; finish = refl; replace = refl; opens = refl }
notice_leaves role ds seat c InputEnded = record { start = refl; finish = refl; replace = refl; opens = refl }
notice_leaves role ds seat c (ChannelClosed channel) = record { start = refl; finish = refl; replace = refl; opens = refl }

notice_runner : (role : Role) (ds : List Deed) (seat c : ℕ) (notice : Notice) → runner_of (notice_deed role ds seat notice ∷ ds) c ≡ runner_of ds c
notice_runner role ds seat c (Time now) = refl
notice_runner role ds seat c InputEnded = refl
notice_runner role ds seat c (ChannelClosed channel) = refl

notice_count : (role : Role) (ds : List Deed) (seat : ℕ) (notice : Notice) → length (calls (notice_deed role ds seat notice ∷ ds)) ≡ length (calls ds)
notice_count role ds seat (Time now) = ap length (append-nil (calls ds))
notice_count role ds seat InputEnded = ap length (append-nil (calls ds))
notice_count role ds seat (ChannelClosed channel) = ap length (append-nil (calls ds))

-- what waits for a call that has an end
notice_waits : (role : Role) (ds : List Deed) (seat c : ℕ) (notice : Notice) → has_end ds c ≡ true → waiting_of (notice_deed role ds seat notice ∷ ds) c ≡ waiting_of ds c
notice_waits role ds seat c notice ended = at notice (λ value. none_for (notice_test ds notice) value (calls ds) 0 c (untold ds notice c ended)) (λ value. none_for (notice_test ds notice) value (calls ds) 0 c (untold ds notice c ended))
  where
    at : (n : Notice) → ((event : Event) → of_call c (each_from 0 (notice_test ds n) event (calls ds)) ≡ []) → ((s : Status) → of_call c (each_from 0 (notice_test ds n) s (calls ds)) ≡ [])
        → waiting_of (notice_deed role ds seat n ∷ ds) c ≡ waiting_of ds c
    at (Time t) none no_end = rw (none (Ticked t)) (ap (drop (starts_since ds c)) (append-nil (puts_since ds c)))
    at InputEnded none no_end = rw (none (Ended Unavailable)) (ap (drop (starts_since ds c)) (append-nil (puts_since ds c)))
    at (ChannelClosed channel) none no_end =
        let kept : list_any (λ x. x == c) (map (λ x. x.0) (each_from 0 (is_live_on ds channel) Aborted (calls ds))) ≡ false =
        has_number c (each_from 0 (is_live_on ds channel) Aborted (calls ds)) ∙ ap (λ xs. not (is_empty xs)) (no_end Aborted) in
        rw (kept, none (Ended Aborted)) (ap (drop (starts_since ds c)) (append-nil (puts_since ds c)))

-- a call for which no further run can begin stays so
notice_over : (role : Role) (ds : List Deed) (seat c : ℕ) (notice : Notice) → is_over ds c ≡ true → is_over (notice_deed role ds seat notice ∷ ds) c ≡ true
notice_over role ds seat c notice over = at (is_cancelled ds c) refl (has_end ds c) refl
  where
    at : (b : Bool) → is_cancelled ds c ≡ b → (e : Bool) → has_end ds c ≡ e → is_over (notice_deed role ds seat notice ∷ ds) c ≡ true
    at true cut e ended = rw (notice_cut role ds seat c notice, cut) refl
    at false cut true ended =
        let quiet : is_empty (waiting_of ds c) ≡ true = subst (λ x. (x || (has_end ds c && is_empty (waiting_of ds c))) ≡ true → is_empty (waiting_of ds c) ≡ true) (sym cut) (λ h. (and_parts _ _ h).1) over in
        rw (notice_cut role ds seat c notice, cut, has_end-more ds (notice_deed role ds seat notice) c ended, notice_waits role ds seat c notice ended, quiet) refl
    at false cut false ended = absurd (false≢true (sym (rw (cut, ended) refl) ∙ over))

module _ {H : Type 0} (now : H → Memo) (can_act : H → Type 0) (rule : HandlerRule) (set : Setting) where
  pub notice_keeps : (ds : List Deed) (seat : ℕ) (notice : Notice) (handlers : List (Option H)) → KeepsAll now can_act rule set ds handlers
      → KeepsAll now can_act rule set (notice_deed set.role ds seat notice ∷ ds) handlers
  notice_keeps ds seat notice handlers keeps = record {
    many = keeps.many ∙ sym (notice_count set.role ds seat notice);
    each = λ c slot is. subst (λ o. Keeps now can_act rule set (notice_deed set.role ds seat notice ∷ ds) c o slot) (sym (notice_runner set.role ds seat c notice))
        (keeps_left now can_act rule set ds (notice_deed set.role ds seat notice) c (runner_of ds c) slot (notice_leaves set.role ds seat c notice)
        (notice_over set.role ds seat c notice) (keeps.each c slot is));
  }
