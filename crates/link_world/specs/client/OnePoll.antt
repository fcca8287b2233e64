-- One poll of the one task of a dispatcher: mail is posted to it, it is polled, and what it said is taken out.
use Rattle.std.specs.Prelude.{◌≡◌, ℕ, zero, suc, List, ◌∷◌, ◌++◌, fold, Option, Some, None}
use Rattle.rpc_ids.specs.declared.status.Status.{Status}
use Rattle.task_core.specs.declared.mail.Mail.{Mail}
use Rattle.task_core.specs.Context.{by_task}
use Rattle.task_core.specs.Due.{result_of, status_by}
use Rattle.task_core.specs.Log.{Step, is_added, mail_of, outs_of, posted, task_of, took}
use Rattle.task_core.specs.Tasks.{StandsFor, Tasks}
use Rattle.task_core.specs.Visit.{Visit}

module _ {T : Type 0} where
  -- these were posted to a task, one after another
  abbrev pub with_posts : ℕ → List Mail → List (Step T) → List (Step T)
  with_posts key mails log = fold (λ before mail. posted key mail ∷ before) log mails

  -- so many items that were said were taken out
  abbrev pub with_taken : ℕ → List (Step T) → List (Step T)
  with_taken zero log = log
  with_taken (suc n) log = took ∷ with_taken n log

  -- a task that has ended isn't polled
  pub record StaysOver (key : ℕ) (log new : List (Step T)) : Type 0 where
    pub task : task_of new key ≡ task_of log key
    pub ended : result_of new key ≡ result_of log key
    pub outs : outs_of new ≡ outs_of log

  module _ (polls : T → Visit → T → Type 0) where
    -- a task that lives is polled at a moment
    pub record IsPolledOnce (key now : ℕ) (log new : List (Step T)) : Type 0 where
      pub before : T
      pub was : task_of log key ≡ Some before
      pub visit : Visit
      pub after : T
      pub did : polls before visit after
      pub moment : visit.moment ≡ now
      pub mail : visit.mail ≡ mail_of log key
      pub task : task_of new key ≡ Some after
      pub ended : result_of new key ≡ status_by visit.ending
      pub left : mail_of new key ≡ visit.left
      pub outs : outs_of new ≡ outs_of log ++ by_task key visit.said

    abbrev pub PolledBy : Option Status → ℕ → ℕ → List (Step T) → List (Step T) → Type 0
    PolledBy None key now log new = IsPolledOnce key now log new
    PolledBy (Some status) key now log new = StaysOver key log new

    -- the task was polled at a moment, and nothing else happened
    pub record PollsAlone (key now : ℕ) (log : List (Step T)) (tasks : Tasks T) : Type 0 where
      pub new : List (Step T)
      pub stands : StandsFor tasks new
      pub added : (k : ℕ) → is_added new k ≡ is_added log k
      pub polled : PolledBy (result_of log key) key now log new
