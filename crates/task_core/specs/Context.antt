-- What contracts see of a `Cx`.
use Rattle.std.specs.Prelude.{◌≡◌, ℕ, Bool, false, List, [], ◌++◌, Option, Some, None, map, drop, min}
use Rattle.rpc_handlers.specs.declared.answer.Out.{Out}
use Rattle.task_core.specs.declared.mail.Mail.{Mail}

-- the task that is polled, the moment, the mail that is left to it; what the poll has said so far, whether it waits
-- for mail, and until when it sleeps; and what was said before this poll, each item with its task's key
pub record Context : Type 0 where
  pub key : ℕ
  pub moment : ℕ
  pub mail : List Mail
  pub said : List Out
  pub waits_mail : Bool
  pub alarm : Option ℕ
  pub earlier : List (ℕ × Out)

-- the items, each with the key of the task that said it
abbrev pub by_task : ℕ → List Out → List (ℕ × Out)
by_task key outs = map (λ out. (key, out)) outs

-- the items from this place on
abbrev pub said_behind : ℕ → List (ℕ × Out) → List Out
said_behind from outs = map (λ said. said.1) (drop from outs)

-- all items from this place on are of this task
abbrev pub AreOf : ℕ → ℕ → List (ℕ × Out) → Type 0
AreOf key from outs = drop from outs ≡ by_task key (said_behind from outs)

-- all that was said and not taken out
abbrev pub all_outs : Context → List (ℕ × Out)
all_outs c = c.earlier ++ by_task c.key c.said

-- as a poll of this task begins
abbrev pub begun : ℕ → Context → Context
begun key c = record { key = key; moment = c.moment; mail = c.mail; said = []; waits_mail = false; alarm = None; earlier = all_outs c }

-- of several moments to sleep until the earliest counts
abbrev pub earliest : Option ℕ → ℕ → Option ℕ
earliest None at = Some at
earliest (Some before) at = Some (min before at)
