-- A run that began, and one that stands while another seat adds to the history.
use Rattle.std.proofs.Common.{◌≡◌, ◌≢◌, ℕ, List, [], ◌∷◌, Option, Some, IfSome, sym, ◌∙◌, subst}
use Rattle.std.specs.List.{AllByRecursion}
use Rattle.rpc_handlers.specs.HandlerRule.{HandlerRule}
use Rattle.rpc_journal.specs.declared.entry.Entry.{Entry}
use Rattle.rpc_journal.specs.declared.setting.Setting.{Setting}
use Rattle.rpc_journal.specs.ChangeLaws.{GoesOnBy}
use Rattle.rpc_journal.specs.Lawful.{IsLawful, IsLegal}
use Rattle.rpc_journal.specs.Laws.{seat_of}
use Rattle.rpc_journal.specs.Runs.{Run, Begins, IsRunning}
use Rattle.rpc_journal.proofs.ChangeLemmas.{begun_runs}
use Rattle.rpc_journal.proofs.RunLemmas.{run_stands}

run_begun : (rule : HandlerRule) (set set' : Setting) (seat : ℕ) (run : Run) (before after : List Entry) → set' ≡ set
    → Begins rule set seat run before after → IsRunning rule set' after run
run_begun rule set set' seat run before after same begins =
    subst (λ s. IsRunning rule s after run) (sym same) (begun_runs rule set seat run before after begins)

-- the run that a start gave
pub run_started : {R : Type 0} (run_of : R → Run) (rule : HandlerRule) (set set' : Setting) (seat : ℕ) (given : Option R) (r : R) (before after : List Entry)
    → given ≡ Some r → set' ≡ set → IfSome given (λ x. Begins rule set seat (run_of x) before after) → IsRunning rule set' after (run_of r)
run_started run_of rule set set' seat given r before after is same begins =
    run_begun rule set set' seat (run_of r) before after same (subst (λ o. IfSome o (λ x. Begins rule set seat (run_of x) before after)) is begins)

none_by_runner : (seat runner : ℕ) (entries : List Entry) → seat ≢ runner → AllByRecursion (λ e. seat_of e ≡ seat) entries
    → AllByRecursion (λ e. seat_of e ≢ runner) entries
none_by_runner seat runner [] other all = tt
none_by_runner seat runner (e ∷ entries) other all = ((λ same. other (sym all.0 ∙ same)), none_by_runner seat runner entries other all.1)

pub run_goes_on : (rule : HandlerRule) (set set' : Setting) (seat : ℕ) (run : Run) (before after : List Entry) → set' ≡ set
    → IsLegal rule set' after → GoesOnBy seat before after → seat ≢ run.seat → IsRunning rule set before run → IsRunning rule set' after run
run_goes_on rule set set' seat run before after same legal goes other is =
    subst (λ h. IsRunning rule set' h run) (sym goes.whole_is)
    (run_stands rule set' before goes.added run (subst (IsLawful set') goes.whole_is legal.lawful)
    (none_by_runner seat run.seat goes.added other goes.by_maker)
    (subst (λ s. IsRunning rule s before run) (sym same) is))
