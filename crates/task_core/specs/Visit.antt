-- What one poll of a task was given, and what it gave.
use Rattle.std.specs.Prelude.{◌≡◌, ℕ, Bool, true, false, List, [], ◌++◌, Option, None, IsSome, Result, Ok, Err, ◌⊎◌}
use Rattle.std.specs.declared.alloc.AllocError.{AllocError}
use Rattle.rpc_handlers.specs.declared.answer.Out.{Out}
use Rattle.rpc_ids.specs.declared.status.Status.{Status}
use Rattle.task_core.specs.declared.mail.Mail.{Mail}
use Rattle.task_core.specs.declared.task.Poll.{Poll}
use Rattle.task_core.specs.declared.task.Poll.TheVariants.{Ready, Pending}
use Rattle.task_core.specs.Context.{Context}

-- how a poll came out
pub data Ending : Type 0 where
  ends : Status → Ending
  goes_on : Ending
  is_short_of_memory : Ending

-- the moment of the poll, the mail that it was given and what it left of that; what it said, whether it waits for mail,
-- and until when it sleeps; how it came out
pub record Visit : Type 0 where
  pub moment : ℕ
  pub mail : List Mail
  pub left : List Mail
  pub said : List Out
  pub waits_mail : Bool
  pub alarm : Option ℕ
  pub ending : Ending

abbrev pub ending_of : Result Poll AllocError → Ending
ending_of (Ok (Ready status)) = ends status
ending_of (Ok Pending) = goes_on
ending_of (Err _) = is_short_of_memory

-- the poll that found the first context, left the second and answered this
abbrev pub visit_of : Context → Context → Result Poll AllocError → Visit
visit_of old new answer = record {
  moment = old.moment;
  mail = old.mail;
  left = new.mail;
  said = new.said;
  waits_mail = new.waits_mail;
  alarm = new.alarm;
  ending = ending_of answer;
}

-- a context as a poll finds it: nothing is said, and nothing is waited for
pub record IsFresh (c : Context) : Type 0 where
  pub said : c.said ≡ []
  pub waits : c.waits_mail ≡ false
  pub alarm : c.alarm ≡ None

-- what a poll may do with its context: it takes mail from the front, and says and waits as it likes
pub record Uses (old new : Context) : Type 0 where
  pub key : new.key ≡ old.key
  pub moment : new.moment ≡ old.moment
  pub earlier : new.earlier ≡ old.earlier
  pub mail : (first : List Mail) × (old.mail ≡ first ++ new.mail)

-- the poll has asked to wait for mail or to sleep
abbrev pub AwaitsSomething : Context → Type 0
AwaitsSomething c = (c.waits_mail ≡ true) ⊎ IsSome c.alarm
