-- Cancelled calls, through the lock.
use Rattle.std.proofs.Common.{◌≡◌, ℕ, ◌<◌, ◌||◌, Bool, true, false, not, List, [], ◌∷◌, ◌++◌, reverse, slice_get, unwrap_or, Option, Some, None, if◌then◌else◌, refl, sym, ◌∙◌, ap, subst, eq-eqb, append-nil}
use Rattle.std.proofs.Math.Bool.{or-true}
use Rattle.std.proofs.lemmas.List.{reverse-append}
use mathlib.Core.List.{IsPrefix}
use Rattle.entry_lists.proofs.Makers.{goes_on_prefix}
use Rattle.entry_lists.proofs.Prefixes.{prefix_self, prefix_trans}
use Rattle.turn_cell.specs.Passes.{LockView, PassView}
use Rattle.turn_cell.proofs.Calls.{same_self, same_trans}
use Rattle.rpc_ids.specs.declared.status.Status.{Status}
use Rattle.rpc_ids.specs.declared.status.Status.TheVariants as status
use Rattle.rpc_handlers.specs.HandlerRule.{HandlerRule}
use Rattle.rpc_journal.specs.declared.answers.Cancelled.{Cancelled}
use Rattle.rpc_journal.specs.declared.answers.Cancelled.TheVariants.{Quiet, Running}
use Rattle.rpc_journal.specs.declared.entry.Entry.{Entry}
use Rattle.rpc_journal.specs.declared.entry.EntryKind.TheVariants.{Cancel}
use Rattle.rpc_journal.specs.declared.setting.Setting.{Setting}
use Rattle.rpc_journal.specs.Calls.{call_at, calls, end_of, ends_of, has_end, is_cancel_of, is_cancelled, of_call, runner_of}
use Rattle.rpc_journal.specs.ChangeLaws.{BecomesQuiet}
use Rattle.rpc_journal.specs.Changes.{CancelDid, cancel_answer}
use Rattle.rpc_journal.specs.Conditions.{IsCall}
use Rattle.rpc_journal.specs.Effect.{Deed}
use Rattle.rpc_journal.specs.Entries.{cancel_effect}
use Rattle.rpc_journal.specs.History.{adding, entry_by, history, deeds_with, deeds_of}
use Rattle.rpc_journal.specs.Lawful.{IsLawful, IsLegal}
use Rattle.rpc_journal.specs.Laws.{StaysQuiet, seat_of}
use Rattle.rpc_journal.specs.Kinds.{is_empty}
use Rattle.rpc_journal.specs.Quiet.{is_quiet}
use Rattle.rpc_journal.proofs.ChangeLemmas.{becomes_quiet}
use Rattle.rpc_journal.proofs.EndedLemmas.{cancelled_ends}
use Rattle.rpc_journal.proofs.ItemLemmas.{call_stays}
use Rattle.rpc_journal.proofs.PlaceLemmas.{get_some}
use Rattle.rpc_journal.proofs.Push.{history-push}
use Rattle.rpc_journal.proofs.RunLemmas.{quiet_for_good}
use Rattle.rpc_shared.specs.Steps.{IsOwn, Step, Steps}
use Rattle.rpc_shared.specs.Waits.{CancelsAndWaits, IsQuietWith, SeesMore}

-- a cancelled call stays cancelled
cancelled_from : (set : Setting) (new old : List Entry) (c : ℕ) → is_cancelled (deeds_of set old) c ≡ true → is_cancelled (deeds_of set (new ++ old)) c ≡ true
cancelled_from set [] old c is = is
cancelled_from set (e ∷ new) old c is = rw (cancelled_from set new old c is) (or-true (is_cancel_of c e.kind))

cancelled_stays : (set : Setting) (h whole : List Entry) (c : ℕ) → IsPrefix h whole → is_cancelled (history set h) c ≡ true → is_cancelled (history set whole) c ≡ true
cancelled_stays set h whole c begins is =
    subst (λ w. is_cancelled (history set w) c ≡ true) begins.1
    (subst (λ es. is_cancelled (deeds_of set es) c ≡ true) (sym (reverse-append h begins.0)) (cancelled_from set (reverse begins.0) (reverse h) c is))

pub call_stays_in : (set : Setting) (h whole : List Entry) (c : ℕ) → IsPrefix h whole → IsCall set h c → IsCall set whole c
call_stays_in set h whole c begins is = subst (λ w. IsCall set w c) begins.1 (call_stays set h begins.0 c is)

-- behind a cancel the call is cancelled
cut_is : (set : Setting) (seat c : ℕ) (answer : Cancelled) (before after : List Entry) → CancelDid set seat c answer before after → is_cancelled (history set after) c ≡ true
cut_is set seat c answer before after did = at (is_cancelled (history set before) c) refl did.adds
  where
    at : (b : Bool) → is_cancelled (history set before) c ≡ b → after ≡ (if b then before else adding before seat (Cancel c)) → is_cancelled (history set after) c ≡ true
    at true was is = subst (λ h. is_cancelled (history set h) c ≡ true) (sym is) was
    at false was is =
        subst (λ h. is_cancelled (history set h) c ≡ true) (sym is)
        (subst (λ ds. is_cancelled ds c ≡ true) (sym (history-push set before (entry_by seat (Cancel c)))) (rw (eq-eqb c c refl) refl))

-- a second one adds nothing
cut_again : (set : Setting) (seat c : ℕ) (answer : Cancelled) (before after : List Entry) → is_cancelled (history set before) c ≡ true → CancelDid set seat c answer before after → after ≡ before
cut_again set seat c answer before after was did = did.adds ∙ ap (λ b. if b then before else adding before seat (Cancel c)) was

-- Quiet tells the status that the call then has
first_end : (c : ℕ) (ends : List Status) (s : Status) → s ≡ unwrap_or (slice_get ends 0) status.Cancelled → slice_get (ends ++ of_call c (if not (is_empty ends) then [] else (c, status.Cancelled) ∷ [])) 0 ≡ Some s
first_end c [] s is = rw (eq-eqb c c refl) (ap Some (sym is))
first_end c (e ∷ ends) s is = ap Some (sym is)

kept_end : (ends : List Status) (s : Status) → not (is_empty ends) ≡ true → s ≡ unwrap_or (slice_get ends 0) status.Cancelled → slice_get ends 0 ≡ Some s
kept_end [] s some is = absurd (cc)
kept_end (e ∷ ends) s some is = ap Some (sym is)

quiet_status : (now told_status : Status) (runner : Option ℕ) → Quiet told_status ≡ cancel_answer now runner → told_status ≡ now
quiet_status now told_status None is = cc
quiet_status now told_status (Some seat) is = absurd (cc)

status_told :
    (set : Setting) (seat c : ℕ) (s : Status) (before after : List Entry) → IsCall set before c → IsLawful set before → CancelDid set seat c (Quiet s) before after →
    end_of (history set after) c ≡ Some s
status_told set seat c s before after call lawful did = at (is_cancelled ds c) refl did.adds
  where
    ds : List Deed
    ds = history set before

    now : s ≡ unwrap_or (end_of ds c) status.Cancelled
    now = quiet_status (unwrap_or (end_of ds c) status.Cancelled) s (runner_of ds c) did.answer

    at : (b : Bool) → is_cancelled ds c ≡ b → after ≡ (if b then before else adding before seat (Cancel c)) → end_of (history set after) c ≡ Some s
    at true was is =
        subst (λ h. end_of (history set h) c ≡ Some s) (sym is)
        (kept_end (ends_of ds c) s (cancelled_ends set (reverse before) c lawful.allowed was) now)
    at false was is =
        let row = get_some (calls ds) c call.below in
        subst (λ h. end_of (history set h) c ≡ Some s) (sym is)
        (subst (λ later. end_of later c ≡ Some s) (sym (history-push set before (entry_by seat (Cancel c))))
        (subst (λ o. slice_get (ends_of ds c ++ of_call c (cancel_effect set ds c o).ends) 0 ≡ Some s) (sym row.1) (first_end c (ends_of ds c) s now)))

-- in what a pass sees behind it a quiet call is quiet still
quiet_behind :
    (rule : HandlerRule) (set : Setting) (seen later : List Entry) → IsLegal rule set later → (k : ℕ) (more : List Entry) → later ≡ seen ++ more →
    is_quiet (history set seen) k ≡ true → StaysQuiet set k seen more
quiet_behind rule set seen later legal k more is quiet = quiet_for_good set seen more k (subst (IsLawful set) is legal.lawful) quiet

module _ (rule : HandlerRule) (r : LockView Setting) (c : ℕ) where
  -- Quiet is told of a quiet call
  pub quiet_told : (p q : PassView Entry Setting) (answer : Cancelled) → Steps rule r p q (λ set seat. CancelDid set seat c answer) → (s : Status) → answer ≡ Quiet s → is_quiet (history r.base q.view.known.seen) c ≡ true
  quiet_told p q answer steps s is =
      let laws : BecomesQuiet (Unit {0}) = becomes_quiet in
      laws.cancel r.base p.view.known.number c s steps.before q.view.known.seen (subst (λ a. CancelDid r.base p.view.known.number c a steps.before q.view.known.seen) is steps.did)

  pub ends_quiet : (p q : PassView Entry Setting) (s : Status) → IsCall r.base p.view.known.seen c → Steps rule r p q (λ set seat. CancelDid set seat c (Quiet s)) → IsQuietWith r.base c s q
  ends_quiet p q s call steps = record {
    quiet = quiet_told p q (Quiet s) steps s refl;
    status_is =
        status_told r.base p.view.known.number c s steps.before q.view.known.seen
        (call_stays_in r.base p.view.known.seen steps.before c steps.begins call) steps.legal.lawful steps.did;
  }

  pub call_after : (p q : PassView Entry Setting) (step : Step) → Steps rule r p q step → IsCall r.base p.view.known.seen c → IsCall r.base q.view.known.seen c
  call_after p q step steps call =
      call_stays_in r.base steps.before q.view.known.seen c (goes_on_prefix seat_of p.view.known.number steps.before q.view.known.seen steps.adds)
      (call_stays_in r.base p.view.known.seen steps.before c steps.begins call)

  pub cut_in : (p q : PassView Entry Setting) (answer : Cancelled) → Steps rule r p q (λ set seat. CancelDid set seat c answer) → is_cancelled (history r.base q.view.known.seen) c ≡ true
  cut_in p q answer steps = cut_is r.base p.view.known.number c answer steps.before q.view.known.seen steps.did

  pub sees_itself : (p : PassView Entry Setting) → IsLegal rule r.base p.view.known.seen → IsOwn r p → SeesMore rule r p p
  sees_itself p legal own = record {
    same = same_self p;
    own_still = own;
    begins = prefix_self p.view.known.seen;
    legal = legal;
    mine = refl;
    quiet = quiet_behind rule r.base p.view.known.seen p.view.known.seen legal;
  }

  -- a cancel of a cancelled call is a look
  pub looks_again :
      (first p q : PassView Entry Setting) (answer : Cancelled) → SeesMore rule r first p → is_cancelled (history r.base p.view.known.seen) c ≡ true →
      Steps rule r p q (λ set seat. CancelDid set seat c answer) → SeesMore rule r first q
  looks_again first p q answer more was steps =
      let still = cancelled_stays r.base p.view.known.seen steps.before c steps.begins was in
      let nothing : q.view.known.seen ≡ steps.before = cut_again r.base p.view.known.number c answer steps.before q.view.known.seen still steps.did in
      record {
        same = same_trans first p q more.same steps.same;
        own_still = steps.own_still;
        begins = subst (IsPrefix first.view.known.seen) (sym nothing) (prefix_trans first.view.known.seen p.view.known.seen steps.before more.begins steps.begins);
        legal = steps.legal_after;
        mine = steps.mine [] (nothing ∙ sym (append-nil steps.before)) ∙ append-nil p.view.known.mine ∙ more.mine;
        quiet = quiet_behind rule r.base first.view.known.seen q.view.known.seen steps.legal_after;
      }
