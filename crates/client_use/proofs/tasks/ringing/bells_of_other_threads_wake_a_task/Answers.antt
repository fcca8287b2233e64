use Rattle.std.proofs.Common.{◌≡◌, ℕ, ◌<◌, ◌==◌, ◌||◌, Bool, true, false, [], ◌∷◌, Result, Ok, IfOk, refl, sym, ◌∙◌, subst, arith}
use Rattle.std.proofs.lemmas.Bool.{eqb-true}
use Rattle.task_core.specs.Log.{added}
use Rattle.task_core.specs.Tasks.{Adds, HasKey, Keeps, StandsFor, Tasks, next_key}
use Rattle.client_use.proofs.tasks.ringing.bells_of_other_threads_wake_a_task.Goals as goal

first_of : (b : Bool) → (b || false) ≡ true → b ≡ true
first_of true is = refl
first_of false is = is

-- the key of the only task
only_key : {T : Type 0} (tasks : Tasks T) (task : T) (added_key key : ℕ) → StandsFor tasks (added added_key task ∷ []) → HasKey tasks key → added_key ≡ key
only_key tasks task added_key key stands has = eqb-true added_key key (first_of (added_key == key) (stands.is_added key ∙ has))

kept : {T : Type 0} (old new : Tasks T) (key : ℕ) → Keeps old new → HasKey new key → HasKey old key
kept old new key keeps has = sym (keeps.keys key) ∙ has

keeps_on : {T : Type 0} (old new : Tasks T) (key : ℕ) → Keeps old new → HasKey old key → HasKey new key
keeps_on old new key keeps has = keeps.keys key ∙ has

below_words :
    {T E : Type 0} (old tasks : Tasks T) (task : T) (result : Result ℕ E) (added_key words key : ℕ) → result ≡ Ok added_key → IfOk result (λ k. k ≡ next_key old) → next_key old ≡ 0 →
    IfOk result (λ k. Adds old tasks (added k task)) → StandsFor old [] → words ≡ 1 → HasKey tasks key → key < words
below_words old tasks task result added_key words key is first zero adds stands one has =
    let is_next = subst (λ r. IfOk r (λ k. k ≡ next_key old)) is first in
    let adds_it = subst (λ r. IfOk r (λ k. Adds old tasks (added k task))) is adds in
    let same = only_key tasks task added_key key (adds_it [] stands) has in
    omega (arith, is_next, zero, same, one)

pub run_with-requires-clause-keys : goal.run_with-requires-clause-keys
run_with-requires-clause-keys g c key has =
    below_words c.in_ok-tasks.tasks c.add.new.self c.waits.result c.add.result c.in_ok-key.key c.in_ok-bells.bells.table.words key
    c.in_ok-key.ensures c.add.ensures.key c.in_ok-tasks.ensures.first c.add.ensures.adds c.in_ok-tasks.ensures.stands c.in_ok-bells.ensures.made.0 has

pub run_with-requires-2-clause-keys : goal.run_with-requires-2-clause-keys
run_with-requires-2-clause-keys g c key has =
    below_words c.in_ok-tasks.tasks c.add.new.self c.waits.result c.add.result c.in_ok-key.key c.in_ok-bells.bells.table.words key
    c.in_ok-key.ensures c.add.ensures.key c.in_ok-tasks.ensures.first c.add.ensures.adds c.in_ok-tasks.ensures.stands c.in_ok-bells.ensures.made.0
    (kept c.add.new.self c.run_with.new.self key c.run_with.ensures.keeps (kept c.run_with.new.self c.polls.new.tasks key c.polls.ensures has))

pub due_at-requires-clause-there : goal.due_at-requires-clause-there
due_at-requires-clause-there g c =
    let is : c.add.result ≡ Ok c.in_ok-key.key = c.in_ok-key.ensures in
    let zero : c.in_ok-key.key ≡ 0 = subst (λ r. IfOk r (λ k. k ≡ next_key c.in_ok-tasks.tasks)) is c.add.ensures.key ∙ c.in_ok-tasks.ensures.first in
    let there = subst (HasKey c.add.new.self) zero (subst (λ r. IfOk r (HasKey c.add.new.self)) is c.add.ensures.there) in
    keeps_on c.run_with-2.new.self c.polls-2.new.tasks 0 c.polls-2.ensures
    (keeps_on c.polls.new.tasks c.run_with-2.new.self 0 c.run_with-2.ensures.keeps
    (keeps_on c.run_with.new.self c.polls.new.tasks 0 c.polls.ensures
    (keeps_on c.add.new.self c.run_with.new.self 0 c.run_with.ensures.keeps there)))
