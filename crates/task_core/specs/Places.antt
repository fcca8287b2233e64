-- What a poll leaves in a task's place.
use Rattle.std.specs.Prelude.{◌≡◌, ℕ, Bool, true, false, ◌||◌, ◌&&◌, not, ◌==◌, ◌++◌, Option, Some, None, is_none, if◌then◌else◌}
use Rattle.slab.specs.Slab.{Slab, get, slab_len}
use Rattle.task_core.specs.declared.place.Place.{Place}
use Rattle.task_core.specs.Context.{Context, all_outs, by_task}
use Rattle.task_core.specs.Visit.{is_short_of_memory, Visit}
use Rattle.task_core.specs.Due.{status_by, has_come, has_mail}

module _ {T : Type 0} where
  -- the task in this place hasn't ended
  abbrev pub lives_in : Option (Place T) → Bool
  lives_in None = false
  lives_in (Some p) = is_none p.result

  -- the task in this place is due if its word is this
  abbrev pub due_with : ℕ → Place T → Bool
  due_with word p = is_none p.result && ((p.marked || not (word == p.heard)) || (p.waits_mail && has_mail p.mail.items))

  -- the task in this place is due
  abbrev pub due_in : Option (Place T) → Bool
  due_in None = false
  due_in (Some p) = due_with p.latest p

  -- the place of a task that has slept until now, or until an earlier moment, is marked
  abbrev pub come_at : ℕ → Place T → Place T
  come_at now p = if has_come now p.alarm then record p { marked = true; alarm = None } else p

  abbrev pub come_in : ℕ → Option (Place T) → Option (Place T)
  come_in now None = None
  come_in now (Some p) = Some (come_at now p)

  -- the time has come to this moment, for each task
  pub record HaveCome (now : ℕ) (old new : Slab (Place T)) : Type 0 where
    pub each : (key : ℕ) → get new key ≡ come_in now (get old key)
    pub count : slab_len new ≡ slab_len old

  module _ (polls : T → Visit → T → Type 0) (key : ℕ) (old new : Place T) (before after : Context) where
    -- the task was polled once, with its mail, at the moment that it is; `short` where memory was wanting
    pub record IsPolled (visit : Visit) (short : Bool) : Type 0 where
      pub did : polls old.task visit new.task
      pub moment : visit.moment ≡ before.moment
      pub mail : visit.mail ≡ old.mail.items
      pub left : visit.left ≡ new.mail.items
      pub ending : status_by visit.ending ≡ new.result
      pub waits : visit.waits_mail ≡ new.waits_mail
      pub marked : new.result ≡ None → (short || has_come before.moment visit.alarm) ≡ new.marked
      pub alarm : new.marked ≡ false → visit.alarm ≡ new.alarm
      pub latest : new.latest ≡ old.latest
      pub heard : new.heard ≡ old.latest
      pub owed : visit.ending ≡ is_short_of_memory → short ≡ true
      pub outs : all_outs after ≡ all_outs before ++ by_task key visit.said
      pub clock : after.moment ≡ before.moment
