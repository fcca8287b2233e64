-- How a plain table follows its history over an entry that tells many calls.
use Rattle.std.proofs.Common.{◌≡◌, ◌≢◌, ◌⊎◌, ℕ, zero, suc, ◌+◌, ◌<◌, ◌≤◌, Bool, true, false, not, ◌&&◌, ◌||◌, ◌==◌, List, [], ◌∷◌, ◌++◌, length, map, set, slice_get, cond, count_by, Option, Some, None, is_some, is_none, if◌then◌else◌, refl, ap, sym, ◌∙◌, subst, inl, inr, arith}
use Rattle.std.specs.List.{list_any}
use Rattle.std.proofs.Math.Arith.{lt_of_le-ne}
use Rattle.std.proofs.lemmas.Option.{slice_get_within}
use Rattle.rpc_ids.specs.declared.method.Role.{Role}
use Rattle.rpc_ids.specs.declared.status.Status.{Status}
use Rattle.rpc_ids.specs.declared.status.Status.TheVariants.{Aborted, Unavailable}
use Rattle.rpc_handlers.specs.declared.event.Event.{Event}
use Rattle.rpc_handlers.specs.declared.event.Event.TheVariants.{Ended, Tick}
use Rattle.rpc_journal.specs.declared.table.call_state.CallState.{CallState}
use Rattle.rpc_journal.specs.declared.entry.EntryKind.{EntryKind}
use Rattle.rpc_journal.specs.declared.table.notice.Notice.{Notice}
use Rattle.rpc_journal.specs.declared.table.notice.Notice.TheVariants.{Time, InputEnded, ChannelClosed}
use Rattle.rpc_journal.specs.Calls.{of_call, calls, call_count, is_start_of, is_finish_of, is_cancel_of}
use Rattle.rpc_journal.specs.Effect.{Effect, Opening, Deed}
use Rattle.rpc_journal.specs.Entries.{close_effect, each_from, error_type, is_live, is_live_on, made_from, wants_tick}
use Rattle.rpc_journal.specs.Kinds.{is_empty}
use Rattle.rpc_journal.specs.Rows.{no_effect, packet_item, status_packet}
use Rattle.rpc_journal.specs.table.Agrees.{AgreesOn, AgreesOnCalls, IsToldAll}
use Rattle.rpc_journal.specs.table.Touch.{IsTouched, Touch, Touches, closing, is_told, putting, telling, touch_told, untouched}
use Rattle.rpc_journal.specs.History.{deed_by}
use Rattle.rpc_journal.proofs.table.DeedLemmas.{never}
use Rattle.rpc_journal.proofs.EachLemmas.{has_number, none_past, one_put}
use Rattle.rpc_journal.proofs.table.FinishLemmas.{completes, error_quiet, none_is}
use Rattle.rpc_journal.proofs.PlaceLemmas.{get_some, some_same}
use Rattle.rpc_journal.proofs.table.StepLemmas.{get_other, get_set, none_opens, same_at, same_or_not}
use Rattle.rpc_journal.proofs.table.TableLemmas.{ended_is, opening_is}
use Rattle.rpc_journal.proofs.table.AgreeLemmas.{agrees_touched}

-- what an entry that tells of this does
abbrev pub notice_test : List Deed → Notice → ℕ → Opening → Bool
notice_test ds (Time now) = wants_tick ds
notice_test ds InputEnded = is_live ds
notice_test ds (ChannelClosed channel) = is_live_on ds channel

abbrev pub notice_effect : Role → List Deed → Notice → Effect
notice_effect role ds (Time now) = record no_effect { puts = each_from 0 (wants_tick ds) (Tick now) (calls ds) }
notice_effect role ds InputEnded = record no_effect { puts = each_from 0 (is_live ds) (Ended Unavailable) (calls ds) }
notice_effect role ds (ChannelClosed channel) = close_effect role ds channel

pub test_is : (ds : List Deed) (notice : Notice) (c : ℕ) (o : Opening) (r : CallState) → AgreesOn ds c r → o.name ≡ r.name → o.method ≡ r.method
    → notice_test ds notice c o ≡ is_told notice r
test_is ds (Time now) c o r agrees name method = rw (method, ended_is ds c r agrees, agrees.waiting, none_is r.status) refl
test_is ds InputEnded c o r agrees name method = rw (ended_is ds c r agrees, none_is r.status) refl
test_is ds (ChannelClosed channel) c o r agrees name method = rw (name, ended_is ds c r agrees, none_is r.status) refl

-- a kind that neither starts, finishes nor cancels a run
pub record IsQuietKind (kind : EntryKind) : Type 0 where
  pub start : (k : ℕ) → is_start_of k kind ≡ false
  pub finish : (k : ℕ) → is_finish_of k kind ≡ false
  pub cancel : (k : ℕ) → is_cancel_of k kind ≡ false

-- the packets of a Close complete no stream
no_completion : (role : Role) (k n : ℕ) (test : ℕ → Opening → Bool) (os : List Opening)
    → list_any (completes k) (made_from n test (λ c o. packet_item c (status_packet (error_type role) o.name Aborted)) os) ≡ false
no_completion role k n test [] = refl
no_completion role k n test (o ∷ os) = at (test n o) (no_completion role k (n + 1) test os)
  where
    none_first : (b rest : Bool) → rest ≡ false → ((b && false) || rest) ≡ false
    none_first true rest is = is
    none_first false rest is = is

    at : (b : Bool) → list_any (completes k) (made_from (n + 1) test (λ c x. packet_item c (status_packet (error_type role) x.name Aborted)) os) ≡ false
        → list_any (completes k) (if b then packet_item n (status_packet (error_type role) o.name Aborted) ∷ made_from (n + 1) test (λ c x. packet_item c (status_packet (error_type role) x.name Aborted)) os
        else made_from (n + 1) test (λ c x. packet_item c (status_packet (error_type role) x.name Aborted)) os) ≡ false
    at true rest = rw (error_quiet role) (none_first (n == k) _ rest)
    at false rest = rest

-- what a Close does to a call by what is given to it
close_so : (role : Role) (ds : List Deed) (seat channel k : ℕ) (kind : EntryKind) (b : Bool) → IsQuietKind kind
    → of_call k (each_from 0 (is_live_on ds channel) Aborted (calls ds)) ≡ (if b then Aborted ∷ [] else [])
    → of_call k (each_from 0 (is_live_on ds channel) (Ended Aborted) (calls ds)) ≡ (if b then Ended Aborted ∷ [] else [])
    → Touches (deed_by seat kind (close_effect role ds channel)) k (if b then closing Aborted else untouched)
close_so role ds seat channel k kind true quiet ends puts = record {
  starts = rw (quiet.start k) refl;
  finishes = quiet.finish k;
  cancels = quiet.cancel k;
  completes = no_completion role k 0 (is_live_on ds channel) (calls ds);
  ends = ends;
  clears = has_number k (each_from 0 (is_live_on ds channel) Aborted (calls ds)) ∙ ap (λ xs. not (is_empty xs)) ends;
  puts = puts;
  alone = never;
}
close_so role ds seat channel k kind false quiet ends puts = record {
  starts = rw (quiet.start k) refl;
  finishes = quiet.finish k;
  cancels = quiet.cancel k;
  completes = no_completion role k 0 (is_live_on ds channel) (calls ds);
  ends = ends;
  clears = has_number k (each_from 0 (is_live_on ds channel) Aborted (calls ds)) ∙ ap (λ xs. not (is_empty xs)) ends;
  puts = puts;
  alone = never;
}

-- what a Tick or an EndIn does to a call by what is put to it
put_so : (ds : List Deed) (seat k : ℕ) (kind : EntryKind) (test : ℕ → Opening → Bool) (event : Event) (b : Bool) → IsQuietKind kind
    → of_call k (each_from 0 test event (calls ds)) ≡ (if b then event ∷ [] else [])
    → Touches (deed_by seat kind (record no_effect { puts = each_from 0 test event (calls ds) })) k (if b then putting event else untouched)
put_so ds seat k kind test event true quiet puts =
    record { starts = rw (quiet.start k) refl; finishes = quiet.finish k; cancels = quiet.cancel k; completes = refl; ends = refl; clears = refl; puts = puts; alone = never }
put_so ds seat k kind test event false quiet puts =
    record { starts = rw (quiet.start k) refl; finishes = quiet.finish k; cancels = quiet.cancel k; completes = refl; ends = refl; clears = refl; puts = puts; alone = never }

notice_so : (role : Role) (ds : List Deed) (seat k : ℕ) (kind : EntryKind) (notice : Notice) (b : Bool) → IsQuietKind kind
    → ((s : Status) → of_call k (each_from 0 (notice_test ds notice) s (calls ds)) ≡ (if b then s ∷ [] else []))
    → ((event : Event) → of_call k (each_from 0 (notice_test ds notice) event (calls ds)) ≡ (if b then event ∷ [] else []))
    → Touches (deed_by seat kind (notice_effect role ds notice)) k (if b then touch_told notice else untouched)
notice_so role ds seat k kind (Time now) b quiet ends puts = put_so ds seat k kind (wants_tick ds) (Tick now) b quiet (puts (Tick now))
notice_so role ds seat k kind InputEnded b quiet ends puts = put_so ds seat k kind (is_live ds) (Ended Unavailable) b quiet (puts (Ended Unavailable))
notice_so role ds seat k kind (ChannelClosed channel) b quiet ends puts = close_so role ds seat channel k kind b quiet (ends Aborted) (puts (Ended Aborted))

notice_touches : (role : Role) (ds : List Deed) (seat : ℕ) (kind : EntryKind) (notice : Notice) (k : ℕ) (r : CallState) → IsQuietKind kind → AgreesOn ds k r
    → Touches (deed_by seat kind (notice_effect role ds notice)) k (telling notice r)
notice_touches role ds seat kind notice k r quiet agrees =
    let opening = opening_is ds k r agrees in
    let same : notice_test ds notice k opening.0 ≡ is_told notice r = test_is ds notice k opening.0 r agrees opening.2 opening.3 in
    notice_so role ds seat k kind notice (is_told notice r) quiet
    (λ s. one_put (notice_test ds notice) s (calls ds) 0 k k opening.0 opening.1 (omega arith) ∙ ap (λ b. if b then s ∷ [] else []) same)
    (λ event. one_put (notice_test ds notice) event (calls ds) 0 k k opening.0 opening.1 (omega arith) ∙ ap (λ b. if b then event ∷ [] else []) same)

notice_silent : (role : Role) (ds : List Deed) (seat : ℕ) (kind : EntryKind) (notice : Notice) (k : ℕ) → IsQuietKind kind → call_count ds ≤ k
    → Touches (deed_by seat kind (notice_effect role ds notice)) k untouched
notice_silent role ds seat kind notice k quiet past =
    notice_so role ds seat k kind notice false quiet
    (λ s. none_past (notice_test ds notice) s (calls ds) 0 k (omega (arith, past)))
    (λ event. none_past (notice_test ds notice) event (calls ds) 0 k (omega (arith, past)))

notice_opens : (role : Role) (ds : List Deed) (notice : Notice) → (notice_effect role ds notice).opens ≡ None
notice_opens role ds (Time now) = refl
notice_opens role ds InputEnded = refl
notice_opens role ds (ChannelClosed channel) = refl

-- all calls are told
pub step_told : (role : Role) (ds : List Deed) (seat : ℕ) (kind : EntryKind) (notice : Notice) (states new : List CallState) → IsQuietKind kind → AgreesOnCalls ds states
    → IsToldAll (length ds) notice states new → AgreesOnCalls (deed_by seat kind (notice_effect role ds notice) ∷ ds) new
step_told role ds seat kind notice states new quiet agrees told =
    let d : Deed = deed_by seat kind (notice_effect role ds notice) in
    none_opens ds d states new agrees
    (record {
      many = told.many ∙ agrees.many;
      each = λ k y there.
          let within : k < length new = slice_get_within _ _ _ there in
          let found = get_some states k (omega (arith, within, told.many)) in
          let its = agrees.each k found.0 found.1 in
          let bound : k < length states = slice_get_within _ _ _ found.1 in
          agrees_touched ds d k (telling notice found.0) found.0 y its (notice_touches role ds seat kind notice k found.0 quiet its)
          (told.each k found.0 y found.1 there) (same_at ds d k (omega (arith, bound, agrees.many)));
    })
    (notice_opens role ds notice) (λ k past. notice_silent role ds seat kind notice k quiet past)

-- one more call is told
pub told_more : (at : ℕ) (notice : Notice) (first states : List CallState) (c : ℕ) (r x : CallState) → slice_get states c ≡ Some r
    → ((k : ℕ) (p q : CallState) → k < c → slice_get first k ≡ Some p → slice_get states k ≡ Some q → IsTouched at (telling notice p) p q)
    → slice_get states c ≡ slice_get first c → IsTouched at (telling notice r) r x
    → (k : ℕ) (p q : CallState) → k < c + 1 → slice_get first k ≡ Some p → slice_get (set states c x) k ≡ Some q → IsTouched at (telling notice p) p q
told_more at notice first states c r x there told rest touched k p q below before after = by (same_or_not k c)
  where
    by : (k ≡ c) ⊎ (k ≢ c) → IsTouched at (telling notice p) p q
    by (inl same) =
        let old : r ≡ p = some_same r p (sym there ∙ (rest ∙ (ap (slice_get first) (sym same) ∙ before))) in
        let new : x ≡ q = some_same x q (sym (get_set states c x (slice_get_within _ _ _ there)) ∙ (ap (slice_get (set states c x)) (sym same) ∙ after)) in
        subst (λ z. IsTouched at (telling notice z) z q) old (subst (λ z. IsTouched at (telling notice r) r z) new touched)
    by (inr apart) = told k p q (lt_of_le-ne (omega (arith, below)) apart) before (sym (get_other states c k x apart) ∙ after)
