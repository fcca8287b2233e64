-- A run stands until its own seat finishes it.
use Rattle.std.proofs.Common.{◌≡◌, ◌≢◌, ◌⊎◌, inl, inr, ℕ, true, false, List, [], ◌∷◌, ◌++◌, reverse, Option, Some, is_none, refl, ap, sym, ◌∙◌, subst}
use Rattle.std.proofs.lemmas.Bool.{false≢true, eqb-true}
use Rattle.std.proofs.lemmas.List.{reverse-append}
use Rattle.std.specs.List.{AllByRecursion}
use Rattle.entry_lists.proofs.Prefixes.{prefix_get}
use Rattle.rpc_handlers.specs.HandlerRule.{HandlerRule}
use Rattle.rpc_journal.specs.declared.entry.Entry.{Entry}
use Rattle.rpc_journal.specs.declared.entry.EntryKind.{EntryKind}
use Rattle.rpc_journal.specs.declared.setting.Setting.{Setting}
use Rattle.rpc_journal.specs.Effect.{Deed}
use Rattle.rpc_journal.specs.Calls.{is_start_of, is_finish_of, runner_of}
use Rattle.rpc_journal.specs.Queues.{taken_event}
use Rattle.rpc_journal.specs.Items.{is_for, is_ready}
use Rattle.rpc_journal.specs.States.{state_before_run}
use Rattle.rpc_journal.specs.History.{deeds_of, history}
use Rattle.rpc_journal.specs.Lawful.{AllowedAll, IsLawful}
use Rattle.rpc_journal.specs.Laws.{seat_of}
use Rattle.rpc_journal.specs.Runs.{Run, IsRunning}
use Rattle.rpc_journal.proofs.Allowed.{Allowed, allowed}
use Rattle.rpc_journal.proofs.Push.{allowed-parts, all-reverse}
use Rattle.rpc_journal.proofs.RunLemmas.{no_finish, no_start, ready_idle}
use Rattle.rpc_shared.specs.OwnRuns.{LetsRun}

-- the run of c, its event and the state before it are the same
record SameRun (rule : HandlerRule) (set : Setting) (c : ℕ) (ds later : List Deed) : Type 0 where
  runner : runner_of later c ≡ runner_of ds c
  taken : taken_event later c ≡ taken_event ds c
  state : state_before_run rule set later c ≡ state_before_run rule set ds c

busy_unready : (ds : List Deed) (c seat : ℕ) → runner_of ds c ≡ Some seat → is_ready ds c ≡ true → ⊥
busy_unready ds c seat runs ready = false≢true (sym (ap is_none runs) ∙ ready_idle ds c ready)

other_unrun : (ds : List Deed) (c seat other : ℕ) → runner_of ds c ≡ Some seat → other ≢ seat → is_for other (runner_of ds c) ≡ true → ⊥
other_unrun ds c seat other runs apart run = apart (sym (eqb-true seat other (subst (λ o. is_for other o ≡ true) runs run)))

unfinished : (set : Setting) (ds : List Deed) (e : Entry) (run : Run) → Allowed set ds e → runner_of ds run.call ≡ Some run.seat → LetsRun run e → is_finish_of run.call e.kind ≡ false
unfinished set ds e run fits on (inl apart) = no_finish set ds e run.call fits (other_unrun ds run.call run.seat e.seat on apart)
unfinished set ds e run fits on (inr none) = none

run_from :
    (rule : HandlerRule) (set : Setting) (new old : List Entry) (run : Run) → AllowedAll set (new ++ old) → AllByRecursion (LetsRun run) new →
    runner_of (deeds_of set old) run.call ≡ Some run.seat → SameRun rule set run.call (deeds_of set old) (deeds_of set (new ++ old))
run_from rule set [] old run all lets runs = record { runner = refl; taken = refl; state = refl }
run_from rule set (e ∷ new) old run all lets runs = at (run_from rule set new old run all.0 lets.1 runs)
  where
    at : SameRun rule set run.call (deeds_of set old) (deeds_of set (new ++ old)) → SameRun rule set run.call (deeds_of set old) (deeds_of set (e ∷ (new ++ old)))
    at before =
        let ds : List Deed = deeds_of set (new ++ old) in
        let fits = allowed set ds e all.1 in
        let on : runner_of ds run.call ≡ Some run.seat = before.runner ∙ runs in
        let start : is_start_of run.call e.kind ≡ false = no_start set ds e run.call fits (busy_unready ds run.call run.seat on) in
        let finish : is_finish_of run.call e.kind ≡ false = unfinished set ds e run fits on lets.0 in
        record {
          runner = rw (start, finish) before.runner;
          taken = rw start before.taken;
          state = rw start before.state;
        }

pub run_stands_until_finish :
    (rule : HandlerRule) (set : Setting) (h more : List Entry) (run : Run) → IsLawful set (h ++ more) → AllByRecursion (LetsRun run) more →
    IsRunning rule set h run → IsRunning rule set (h ++ more) run
run_stands_until_finish rule set h more run lawful lets is =
    let same = run_from rule set (reverse more) (reverse h) run (allowed-parts set h more lawful) (all-reverse _ more lets) is.unfinished in
    let later : deeds_of set (reverse more ++ reverse h) ≡ history set (h ++ more) = ap (deeds_of set) (sym (reverse-append h more)) in
    record {
      started = prefix_get h (h ++ more) run.place _ (more, refl) is.started;
      unfinished = subst (λ ds. runner_of ds run.call ≡ Some run.seat) later (same.runner ∙ is.unfinished);
      took = subst (λ ds. taken_event ds run.call ≡ Some run.event) later (same.taken ∙ is.took);
      had = λ ruled. subst (λ ds. state_before_run rule set ds run.call ≡ Some run.state) later (same.state ∙ is.had ruled);
    }
