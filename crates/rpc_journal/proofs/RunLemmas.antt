-- Runs of calls: none begins of a call that isn't ready, and none ends by another seat.
use Rattle.std.proofs.Common.{◌≡◌, ◌≢◌, ℕ, true, false, ◌||◌, List, [], ◌∷◌, ◌++◌, reverse, Option, Some, None, is_none, if◌then◌else◌, refl, ap, sym, ◌∙◌, subst}
use Rattle.std.proofs.lemmas.Bool.{true≢false, false≢true, eqb-true, not-true, not-false, and_parts, and_from, false_from_ne_true}
use Rattle.std.proofs.lemmas.List.{reverse-append}
use Rattle.std.proofs.Math.Bool.{or-true}
use Rattle.std.specs.List.{AllByRecursion}
use Rattle.entry_lists.proofs.Prefixes.{prefix_get}
use Rattle.rpc_handlers.specs.HandlerRule.{HandlerRule}
use Rattle.rpc_journal.specs.declared.entry.Entry.{Entry}
use Rattle.rpc_journal.specs.declared.entry.EntryKind.{EntryKind}
use Rattle.rpc_journal.specs.declared.entry.EntryKind.TheVariants.{Start, Finish}
use Rattle.rpc_journal.specs.declared.setting.Setting.{Setting}
use Rattle.rpc_journal.specs.Effect.{Deed}
use Rattle.rpc_journal.specs.Calls.{is_start_of, is_finish_of, is_cancel_of, is_cancelled, runner_of}
use Rattle.rpc_journal.specs.Queues.{taken_event}
use Rattle.rpc_journal.specs.Items.{is_for, is_ready}
use Rattle.rpc_journal.specs.Quiet.{is_quiet}
use Rattle.rpc_journal.specs.States.{state_before_run}
use Rattle.rpc_journal.specs.History.{deeds_of, history}
use Rattle.rpc_journal.specs.Lawful.{AllowedAll, IsLawful, starts_unready, finishes_unrun}
use Rattle.rpc_journal.specs.Laws.{seat_of, HasNoRunOf, StaysQuiet}
use Rattle.rpc_journal.specs.Runs.{Run, IsRunning}
use Rattle.rpc_journal.proofs.Allowed.{Allowed, allowed}
use Rattle.rpc_journal.proofs.Push.{allowed-parts, all-reverse, all-unreverse}

-- a ready call has no run and isn't cancelled
pub ready_idle : (ds : List Deed) (c : ℕ) → is_ready ds c ≡ true → is_none (runner_of ds c) ≡ true
ready_idle ds c ready = (and_parts _ _ (and_parts _ _ (and_parts _ _ (and_parts _ _ ready).0).0).0).1

pub ready_uncancelled : (ds : List Deed) (c : ℕ) → is_ready ds c ≡ true → is_cancelled ds c ≡ false
ready_uncancelled ds c ready = not-true _ (and_parts _ _ (and_parts _ _ (and_parts _ _ ready).0).0).1

pub started_ready : (ds : List Deed) (c : ℕ) (kind : EntryKind) → starts_unready ds kind ≡ false → is_start_of c kind ≡ true → is_ready ds c ≡ true
started_ready ds c (Start x) fits starts = subst (λ k. is_ready ds k ≡ true) (eqb-true x c starts) (not-false _ fits)
started_ready ds c _ fits starts = absurd (false≢true starts)

finished_run : (ds : List Deed) (seat c : ℕ) (kind : EntryKind) → finishes_unrun ds seat kind ≡ false → is_finish_of c kind ≡ true
    → is_for seat (runner_of ds c) ≡ true
finished_run ds seat c (Finish x a) fits finishes = subst (λ k. is_for seat (runner_of ds k) ≡ true) (eqb-true x c finishes) (not-false _ fits)
finished_run ds seat c _ fits finishes = absurd (false≢true finishes)

-- an allowed entry doesn't begin a run of a call that isn't ready
pub no_start : (set : Setting) (ds : List Deed) (e : Entry) (c : ℕ) → Allowed set ds e → (is_ready ds c ≡ true → ⊥) → is_start_of c e.kind ≡ false
no_start set ds e c fits unready = false_from_ne_true _ (λ starts. unready (started_ready ds c e.kind fits.started starts))

-- nor does it end one that its seat doesn't run
pub no_finish : (set : Setting) (ds : List Deed) (e : Entry) (c : ℕ) → Allowed set ds e → (is_for e.seat (runner_of ds c) ≡ true → ⊥)
    → is_finish_of c e.kind ≡ false
no_finish set ds e c fits unrun = false_from_ne_true _ (λ finishes. unrun (finished_run ds e.seat c e.kind fits.finished finishes))

idle_unrun : (seat : ℕ) (o : Option ℕ) → is_none o ≡ true → is_for seat o ≡ true → ⊥
idle_unrun seat None idle runs = false≢true runs
idle_unrun seat (Some s) idle runs = false≢true idle

-- a quiet call stays quiet, and its runs neither begin nor end
pub quiet_from : (set : Setting) (new old : List Entry) (c : ℕ) → AllowedAll set (new ++ old) → is_quiet (deeds_of set old) c ≡ true
    → (is_quiet (deeds_of set (new ++ old)) c ≡ true) × HasNoRunOf c new
quiet_from set [] old c all quiet = (quiet, tt)
quiet_from set (e ∷ new) old c all quiet = at (quiet_from set new old c all.0 quiet)
  where
    at : (is_quiet (deeds_of set (new ++ old)) c ≡ true) × HasNoRunOf c new
        → (is_quiet (deeds_of set (e ∷ (new ++ old))) c ≡ true) × HasNoRunOf c (e ∷ new)
    at before =
        let ds : List Deed = deeds_of set (new ++ old) in
        let parts = and_parts (is_cancelled ds c) (is_none (runner_of ds c)) before.0 in
        let fits = allowed set ds e all.1 in
        let start : is_start_of c e.kind ≡ false =
        no_start set ds e c fits (λ ready. true≢false (sym parts.0 ∙ ready_uncancelled ds c ready)) in
        let finish : is_finish_of c e.kind ≡ false = no_finish set ds e c fits (idle_unrun e.seat (runner_of ds c) parts.1) in
        let cancelled : (is_cancel_of c e.kind || is_cancelled ds c) ≡ true = rw (parts.0) (or-true _) in
        let idle : is_none (if is_start_of c e.kind then Some e.seat else if is_finish_of c e.kind then None else runner_of ds c) ≡ true =
        rw (start, finish) (parts.1) in
        (and_from _ _ cancelled idle, ((start, finish), before.1))

pub quiet_for_good : (set : Setting) (h more : List Entry) (c : ℕ) → IsLawful set (h ++ more) → is_quiet (history set h) c ≡ true → StaysQuiet set c h more
quiet_for_good set h more c lawful quiet =
    let stays = quiet_from set (reverse more) (reverse h) c (allowed-parts set h more lawful) quiet in
    record {
      quiet = subst (λ es. is_quiet (deeds_of set es) c ≡ true) (sym (reverse-append h more)) stays.0;
      no_run = all-unreverse _ more stays.1;
    }

-- the run of c, its event and the state before it are the same
record SameRun (rule : HandlerRule) (set : Setting) (c : ℕ) (ds later : List Deed) : Type 0 where
  runner : runner_of later c ≡ runner_of ds c
  taken : taken_event later c ≡ taken_event ds c
  state : state_before_run rule set later c ≡ state_before_run rule set ds c

pub busy_unready : (ds : List Deed) (c seat : ℕ) → runner_of ds c ≡ Some seat → is_ready ds c ≡ true → ⊥
busy_unready ds c seat runs ready = false≢true (sym (ap is_none runs) ∙ ready_idle ds c ready)

pub other_unrun : (ds : List Deed) (c seat other : ℕ) → runner_of ds c ≡ Some seat → other ≢ seat → is_for other (runner_of ds c) ≡ true → ⊥
other_unrun ds c seat other runs apart run =
    apart (sym (eqb-true seat other (subst (λ o. is_for other o ≡ true) runs run)))

run_from : (rule : HandlerRule) (set : Setting) (new old : List Entry) (c seat : ℕ) → AllowedAll set (new ++ old)
    → AllByRecursion (λ e. seat_of e ≢ seat) new → runner_of (deeds_of set old) c ≡ Some seat
    → SameRun rule set c (deeds_of set old) (deeds_of set (new ++ old))
run_from rule set [] old c seat all others runs = record { runner = refl; taken = refl; state = refl }
run_from rule set (e ∷ new) old c seat all others runs = at (run_from rule set new old c seat all.0 others.1 runs)
  where
    at : SameRun rule set c (deeds_of set old) (deeds_of set (new ++ old)) → SameRun rule set c (deeds_of set old) (deeds_of set (e ∷ (new ++ old)))
    at before =
        let ds : List Deed = deeds_of set (new ++ old) in
        let fits = allowed set ds e all.1 in
        let on : runner_of ds c ≡ Some seat = before.runner ∙ runs in
        let start : is_start_of c e.kind ≡ false = no_start set ds e c fits (busy_unready ds c seat on) in
        let finish : is_finish_of c e.kind ≡ false = no_finish set ds e c fits (other_unrun ds c seat e.seat on others.0) in
        record {
          runner = rw (start, finish) before.runner;
          taken = rw start before.taken;
          state = rw start before.state;
        }

-- a run stands over the entries of other seats
pub run_stands : (rule : HandlerRule) (set : Setting) (h more : List Entry) (run : Run) → IsLawful set (h ++ more)
    → AllByRecursion (λ e. seat_of e ≢ run.seat) more → IsRunning rule set h run → IsRunning rule set (h ++ more) run
run_stands rule set h more run lawful others is =
    let same = run_from rule set (reverse more) (reverse h) run.call run.seat (allowed-parts set h more lawful) (all-reverse _ more others) is.unfinished in
    let later : deeds_of set (reverse more ++ reverse h) ≡ history set (h ++ more) = ap (deeds_of set) (sym (reverse-append h more)) in
    record {
      started = prefix_get h (h ++ more) run.place _ (more, refl) is.started;
      unfinished = subst (λ ds. runner_of ds run.call ≡ Some run.seat) later (same.runner ∙ is.unfinished);
      took = subst (λ ds. taken_event ds run.call ≡ Some run.event) later (same.taken ∙ is.took);
      had = λ ruled. subst (λ ds. state_before_run rule set ds run.call ≡ Some run.state) later (same.state ∙ is.had ruled);
    }
