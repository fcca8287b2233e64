-- That a place tells which tasks live and which are due.
use Rattle.std.proofs.Common.{◌≡◌, ◌==◌, ℕ, ◌<◌, ◌%◌, ◌^◌, Bool, true, false, not, ◌||◌, ◌&&◌, List, Option, Some, None, is_some, is_none, refl, sym, ap, ◌∙◌, inl, inr}
use Rattle.std.proofs.lemmas.Bool.{and_left}
use Rattle.slab.specs.Slab.{get}
use Rattle.rpc_ids.specs.declared.status.Status.{Status}
use Rattle.task_core.specs.declared.mail.Mail.{Mail}
use Rattle.task_core.specs.declared.place.Place.{Place}
use Rattle.task_core.specs.Log.{Step, is_added, last_poll, mail_of, last_heard, poll_heard}
use Rattle.task_core.specs.Due.{awaits_by, has_mail, result_of, lives, is_called, is_time, is_rung, has_awaited, is_due, IsFirstDue}
use Rattle.task_core.specs.Places.{lives_in, due_in}
use Rattle.task_core.specs.Tasks.{Tasks, Living, Tells, StandsFor}
use Rattle.task_core.proofs.PlaceLemmas.{some_or_none, there}

same_test : (m m' : Bool) (a a' b b' : ℕ) (w w' : Bool) (ms ms' : List Mail) → m ≡ m' → a ≡ a' → b ≡ b' → w ≡ w' → ms ≡ ms' → ((m || not (a == b)) || (w && has_mail ms)) ≡ ((m' || not (a' == b')) || (w' && has_mail ms'))
same_test m m' a a' b b' w w' ms ms' em ea eb ew ems = rw (em, ea, eb, ew, ems) refl

module _ {T : Type 0} where
  pub lives_is : (b : Tasks T) (log : List (Step T)) (k : ℕ) → StandsFor b log → lives log k ≡ lives_in (get b.places k)
  lives_is b log k stands =
      elim (some_or_none (get b.places k)) [
        | inl none ↦ and_left (is_added log k) (is_none (result_of log k)) (stands.is_added k ∙ ap is_some none) ∙ sym (ap lives_in none)
        | inr found ↦
            ap (λ there. there && is_none (result_of log k)) (stands.is_added k ∙ there (get b.places k) found.0 found.1)
            ∙ ap is_none (stands.tells k found.0 found.1).result ∙ sym (ap lives_in found.1)
      ]

  -- of a task that lives
  living_due : (log : List (Step T)) (k : ℕ) (p : Place T) → Living p log k → (((is_called log k || is_time log k) || is_rung log k) || has_awaited log k) ≡ ((p.marked || not (p.latest == p.heard)) || (p.waits_mail && has_mail p.mail.items))
  living_due log k p l =
      same_test (is_called log k || is_time log k) p.marked (last_heard log k % 2 ^ 64) p.latest (poll_heard log k % 2 ^ 64) p.heard (awaits_by (last_poll log k)) p.waits_mail (mail_of log k) p.mail.items l.marked l.latest l.heard l.awaits l.mail

  place_due : (log : List (Step T)) (k : ℕ) (p : Place T) (result : Option Status) → p.result ≡ result → Tells p log k → (is_none p.result && (((is_called log k || is_time log k) || is_rung log k) || has_awaited log k)) ≡ due_in (Some p)
  place_due log k p None is tells = ap (λ x. is_none p.result && x) (living_due log k p (tells.living is))
  place_due log k p (Some status) is tells =
      and_left (is_none p.result) _ (ap is_none is) ∙ sym (and_left (is_none p.result) _ (ap is_none is))

  pub due_is : (b : Tasks T) (log : List (Step T)) (k : ℕ) → StandsFor b log → is_due log k ≡ due_in (get b.places k)
  due_is b log k stands =
      let test : Bool = ((is_called log k || is_time log k) || is_rung log k) || has_awaited log k in
      elim (some_or_none (get b.places k)) [
        | inl none ↦ ap (λ x. x && test) (lives_is b log k stands ∙ ap lives_in none) ∙ sym (ap due_in none)
        | inr found ↦ ap (λ x. x && test) (lives_is b log k stands ∙ ap lives_in found.1) ∙ place_due log k found.0 found.0.result refl (stands.tells k found.0 found.1) ∙ sym (ap due_in found.1)
      ]

  -- the first place that is due is that of the first task that is due
  pub first_is : (b : Tasks T) (log : List (Step T)) (key : ℕ) → StandsFor b log → due_in (get b.places key) ≡ true → ((k : ℕ) → k < key → due_in (get b.places k) ≡ false) → IsFirstDue log key
  first_is b log key stands due none = (due_is b log key stands ∙ due, λ k below. due_is b log k stands ∙ none k below)
