-- Places while the time goes on: some are marked already.
use Rattle.std.proofs.Common.{◌≡◌, ◌⊎◌, ℕ, ◌<◌, true, false, Option, Some, None, refl, sym, ap, subst, ◌∙◌, inl, inr}
use Rattle.std.proofs.lemmas.Bool.{cases_eq, cond-true, cond-false, cases_Bool, leb-false, lt-leb}
use Rattle.std.specs.Prelude.{nat_le}
use Rattle.slab.specs.Slab.{Slab, get, ContainsKey, slab_len, with_value}
use Rattle.slab.proofs.SlabLemmas.{Updates-with_value}
use Rattle.task_core.specs.declared.place.Place.{Place}
use Rattle.task_core.specs.declared.timers.Timers.{Timers}
use Rattle.std.specs.BTreeSet.{contains}
use Rattle.task_core.specs.Timers.{by_moment, has_timer, KeepsOthers, KeepsLater, AreLater}
use Rattle.task_core.specs.Due.{has_come}
use Rattle.task_core.specs.Places.{come_at, come_in, HaveCome}
use Rattle.task_core.specs.Tasks.{HasTimers}
use Rattle.task_core.proofs.PlaceLemmas.{some_or_none, there, slab_len-with_value}

early : (now : ℕ) (alarm : Option ℕ) (at : ℕ) → alarm ≡ Some at → now < at → has_come now alarm ≡ false
early now alarm at is later = ap (has_come now) is ∙ lt-leb at now later

later_than : (now at : ℕ) → nat_le at now ≡ false → now < at
later_than now at h = leb-false at now h

same_timer : (before after : Timers) (at key : ℕ) → after.set.keys ≡ before.set.keys → has_timer before at key ≡ true → has_timer after at key ≡ true
same_timer before after at key same had = ap (λ ks. contains by_moment (record { keys = ks }) (at, key)) same ∙ had

module _ {T : Type 0} where
  -- each place is as it was, or marked by the time; and each task that sleeps has its timer
  pub record AreComing (now : ℕ) (old new : Slab (Place T)) (timers : Timers) : Type 0 where
    pub each : (key : ℕ) → (get new key ≡ get old key) ⊎ (get new key ≡ come_in now (get old key))
    pub count : slab_len new ≡ slab_len old
    pub asleep : HasTimers new timers

  -- a marked place sleeps no more, or until a later moment
  come_sleeps : (now : ℕ) (p : Place T) (at : ℕ) → (come_at now p).alarm ≡ Some at → (p.alarm ≡ Some at) × (now < at)
  come_sleeps now p at sleeps =
      elim (cases_Bool (has_come now p.alarm)) [
        | inl come ↦ absurd (cc (sym (ap (λ q. q.alarm) (cond-true (has_come now p.alarm) (record p { marked = true; alarm = None }) p come)) ∙ sleeps))
        | inr not_yet ↦
            let own : p.alarm ≡ Some at = sym (ap (λ q. q.alarm) (cond-false (has_come now p.alarm) (record p { marked = true; alarm = None }) p not_yet)) ∙ sleeps in
            (own, later_than now at (sym (ap (has_come now) own) ∙ not_yet))
      ]

  -- marking twice is marking once
  come_again : (now : ℕ) (p : Place T) → come_at now (come_at now p) ≡ come_at now p
  come_again now p =
      elim (cases_Bool (has_come now p.alarm)) [
        | inl come ↦
            let once = cond-true (has_come now p.alarm) (record p { marked = true; alarm = None }) p come in
            ap (come_at now) once ∙ sym once
        | inr not_yet ↦
            let once = cond-false (has_come now p.alarm) (record p { marked = true; alarm = None }) p not_yet in
            ap (come_at now) once
      ]

  come_in_again : (now : ℕ) (o : Option (Place T)) → come_in now (come_in now o) ≡ come_in now o
  come_in_again now None = refl
  come_in_again now (Some p) = ap Some (come_again now p)

  pub coming_init : (now : ℕ) (places : Slab (Place T)) (timers : Timers) → HasTimers places timers → AreComing now places places timers
  coming_init now places timers has = record { each = λ key. inl refl; count = refl; asleep = has }

  -- the task whose timer was taken out is marked
  pub coming_next : (now : ℕ) (old new : Slab (Place T)) (before after : Timers) (key : ℕ) (p q : Place T) → AreComing now old new before → KeepsOthers key before after → KeepsLater now before after → get new key ≡ Some p → q ≡ come_at now p → AreComing now old (with_value new key q) after
  coming_next now old new before after key p q coming others later found is =
      let present : ContainsKey new key = there (get new key) p found in
      let updates = Updates-with_value new key q present in
      let marked : get (with_value new key q) key ≡ come_in now (get new key) = updates.changed ∙ ap Some is ∙ sym (ap (come_in now) found) in
      record {
        each = λ k. elim (cases_eq k key) [
          | inl same ↦ subst (λ j. (get (with_value new key q) j ≡ get old j) ⊎ (get (with_value new key q) j ≡ come_in now (get old j))) (sym same) (elim (coming.each key) [
            | inl kept ↦ inr (marked ∙ ap (come_in now) kept)
            | inr come ↦ inr (marked ∙ ap (come_in now) come ∙ come_in_again now (get old key))
          ])
          | inr differs ↦ elim (coming.each k) [
            | inl kept ↦ inl (updates.others k differs ∙ kept)
            | inr come ↦ inr (updates.others k differs ∙ come)
          ]
        ];
        count = slab_len-with_value new key q present ∙ coming.count;
        asleep = λ k at r at_k sleeps. elim (cases_eq k key) [
          | inl same ↦
              let r_is : q ≡ r = cc (updates.changed, at_k, ap (get (with_value new key q)) same) in
              let slept = come_sleeps now p at (ap (λ s. s.alarm) (sym is ∙ r_is) ∙ sleeps) in
              later at k slept.1 (coming.asleep k at p (ap (get new) same ∙ found) slept.0)
          | inr differs ↦ others at k differs (coming.asleep k at r (sym (updates.others k differs) ∙ at_k) sleeps)
        ];
      }

  -- a timer of no task
  pub coming_nobody : (now : ℕ) (old new : Slab (Place T)) (before after : Timers) (key : ℕ) → AreComing now old new before → KeepsOthers key before after → get new key ≡ None → AreComing now old new after
  coming_nobody now old new before after key coming others none =
      record {
        each = coming.each;
        count = coming.count;
        asleep = λ k at r at_k sleeps. elim (cases_eq k key) [
          | inl same ↦ absurd (cc (none, at_k, ap (get new) same))
          | inr differs ↦ others at k differs (coming.asleep k at r at_k sleeps)
        ];
      }

  -- a task whose timer is still there isn't to be marked
  not_come_yet : (now : ℕ) (p : Place T) → ((at : ℕ) → p.alarm ≡ Some at → now < at) → come_at now p ≡ p
  not_come_yet now p later = cond-false (has_come now p.alarm) _ p (not_come p.alarm refl)
    where
      not_come : (alarm : Option ℕ) → p.alarm ≡ alarm → has_come now p.alarm ≡ false
      not_come None is = ap (has_come now) is
      not_come (Some at) is = early now p.alarm at is (later at is)

  -- no timer is there any more whose moment has come
  pub coming_done : (now : ℕ) (old new : Slab (Place T)) (before after : Timers) → AreComing now old new before → after.set.keys ≡ before.set.keys → AreLater now after → HaveCome now old new
  coming_done now old new before after coming kept later =
      record {
        each = λ k. elim (coming.each k) [
          | inl same ↦ elim (some_or_none (get new k)) [
            | inl none ↦ none ∙ ap (come_in now) (sym none ∙ same)
            | inr found ↦
                let sleeps_on : (at : ℕ) → found.0.alarm ≡ Some at → now < at = λ at sleeps. later at k (same_timer before after at k kept (coming.asleep k at found.0 found.1 sleeps)) in
                found.1 ∙ sym (ap Some (not_come_yet now found.0 sleeps_on)) ∙ ap (come_in now) (sym found.1 ∙ same)
          ]
          | inr come ↦ come
        ];
        count = coming.count;
      }

  pub coming_timers : (now : ℕ) (old new : Slab (Place T)) (before after : Timers) → AreComing now old new before → after.set.keys ≡ before.set.keys → HasTimers new after
  coming_timers now old new before after coming kept = λ k at p found sleeps. same_timer before after at k kept (coming.asleep k at p found sleeps)
