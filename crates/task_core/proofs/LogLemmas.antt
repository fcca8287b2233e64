-- How a dispatcher goes on standing for its steps.
use Rattle.std.proofs.Common.{◌≡◌, ◌≢◌, ◌==◌, ℕ, ◌+◌, ◌≤◌, ◌%◌, ◌^◌, Bool, true, false, ◌||◌, List, [], ◌∷◌, ◌++◌, drop, option_to_list, Option, Some, None, is_some, is_none, refl, sym, ap, subst, ◌∙◌, inl, inr, arith}
use Rattle.std.proofs.lemmas.Bool.{cases_eq, cond-true, cond-false, cases_Bool, eq-eqb, ne_eqb, or_cases, or_parts, or_from, or_left, or_right}
use Rattle.std.proofs.lemmas.Bool.Decides.{nat_tests}
use Rattle.std.proofs.Math.Bool.{or-false}
use Rattle.std.specs.Prelude.{nat_le}
use Rattle.slab.specs.Slab.{Slab, get, ContainsKey, slab_len, with_value, Updates}
use Rattle.slab.proofs.SlabLemmas.{Updates-with_value}
use Rattle.rpc_handlers.specs.declared.answer.Out.{Out}
use Rattle.task_core.specs.declared.mail.Mail.{Mail}
use Rattle.task_core.specs.declared.place.Place.{Place}
use Rattle.task_core.specs.Context.{Context, all_outs, by_task}
use Rattle.task_core.specs.Visit.{Visit}
use Rattle.task_core.specs.Log.{Step, added, posted, woken, advanced, polled, took, is_added, added_count, task_of, last_poll, is_woken, mail_of, last_heard, poll_heard, moment_of, outs_of}
use Rattle.task_core.specs.Due.{ended_by, is_owed, alarm_by, awaits_by, has_come, is_called, is_time}
use Rattle.task_core.specs.Places.{come_at, come_in, HaveCome, IsPolled}
use Rattle.task_core.specs.Tasks.{Tasks, Tells, StandsFor}
use Rattle.task_core.proofs.PlaceLemmas.{there, slab_len-with_value}

pub here : (key : ℕ) → (key == key) ≡ true
here key = eq-eqb key key refl

pub apart : (key k : ℕ) → k ≢ key → (key == k) ≡ false
apart key k differs = ne_eqb key k (λ same. differs (sym same))

-- a task that was woken is called
woken_called : (o w t self : Bool) → self ≡ true → ((o || (self || w)) || t) ≡ true
woken_called o w t self is = or_left (o || (self || w)) t (or_right o (self || w) (or_left self w is))

new_called : (poll : Option (Visit × Bool)) (w : Bool) (m : ℕ) → poll ≡ None → ((is_owed poll || w) || has_come m (alarm_by poll)) ≡ true
new_called poll w m none = ap (λ r. (is_owed r || w) || has_come m (alarm_by r)) none

nat_le-more : (at now later : ℕ) → now ≤ later → nat_le at now ≡ true → nat_le at later ≡ true
nat_le-more at now later on come = grind (arith, nat_tests)

has_come-more : (now later : ℕ) (alarm : Option ℕ) → now ≤ later → has_come now alarm ≡ true → has_come later alarm ≡ true
has_come-more now later None on come = come
has_come-more now later (Some at) on come = nat_le-more at now later on come

still_called : (called : Bool) (now later : ℕ) (alarm : Option ℕ) → now ≤ later → (called || has_come now alarm) ≡ true → (called || has_come later alarm) ≡ true
still_called called now later alarm on was =
    elim (or_cases called (has_come now alarm) was) [
      | inl is ↦ or_left called (has_come later alarm) is
      | inr come ↦ or_right called (has_come later alarm) (has_come-more now later alarm on come)
    ]

-- the mark of a place behind its time: by what the place has as its alarm
come_called : (called marked : Bool) (now later : ℕ) (alarm own : Option ℕ) → now ≤ later → (called || has_come now alarm) ≡ marked → (marked ≡ false → alarm ≡ own) → has_come later own ≡ true → (called || has_come later alarm) ≡ true
come_called called true now later alarm own on was mine come = still_called called now later alarm on was
come_called called false now later alarm own on was mine come = or_right called (has_come later alarm) (ap (has_come later) (mine refl) ∙ come)

early_called : (called marked : Bool) (now later : ℕ) (alarm own : Option ℕ) → now ≤ later → (called || has_come now alarm) ≡ marked → (marked ≡ false → alarm ≡ own) → has_come later own ≡ false → (called || has_come later alarm) ≡ marked
early_called called true now later alarm own on was mine early = still_called called now later alarm on was
early_called called false now later alarm own on was mine early =
    or_from called (has_come later alarm) (or_parts called (has_come now alarm) was).0 (ap (has_come later) (mine refl) ∙ early)

polled_called : (poll : Option (Visit × Bool)) (w short : Bool) (m : ℕ) (visit : Visit) → poll ≡ Some (visit, short) → w ≡ false → ((is_owed poll || w) || has_come m (alarm_by poll)) ≡ (short || has_come m visit.alarm)
polled_called poll w short m visit is calm =
    ap (λ r. (is_owed r || w) || has_come m (alarm_by r)) is
    ∙ ap (λ v. (short || v) || has_come m visit.alarm) calm
    ∙ ap (λ v. v || has_come m visit.alarm) (or-false short)

module _ {T : Type 0} where
  -- two lists of steps say the same of a task
  pub record Same (new log : List (Step T)) (k : ℕ) : Type 0 where
    pub added : is_added new k ≡ is_added log k
    pub task : task_of new k ≡ task_of log k
    pub poll : last_poll new k ≡ last_poll log k
    pub woken : is_woken new k ≡ is_woken log k
    pub mail : mail_of new k ≡ mail_of log k
    pub latest : last_heard new k ≡ last_heard log k
    pub heard : poll_heard new k ≡ poll_heard log k

  pub tells_same : (new log : List (Step T)) (k : ℕ) (p : Place T) → Same new log k → moment_of new ≡ moment_of log → Tells p log k → Tells p new k
  tells_same new log k p same clock tells =
      record {
        task = same.task ∙ tells.task;
        result = ap ended_by same.poll ∙ tells.result;
        living = λ lives.
            let l = tells.living lives in
            record {
              mail = same.mail ∙ l.mail;
              marked = ap (λ poll. (is_owed poll || is_woken new k) || has_come (moment_of new) (alarm_by poll)) same.poll
                  ∙ ap (λ w. (is_owed (last_poll log k) || w) || has_come (moment_of new) (alarm_by (last_poll log k))) same.woken
                  ∙ ap (λ m. (is_owed (last_poll log k) || is_woken log k) || has_come m (alarm_by (last_poll log k))) clock
                  ∙ l.marked;
              alarm = λ calm. ap alarm_by same.poll ∙ l.alarm calm;
              awaits = ap awaits_by same.poll ∙ l.awaits;
              latest = ap (λ n. n % 2 ^ 64) same.latest ∙ l.latest;
              heard = ap (λ n. n % 2 ^ 64) same.heard ∙ l.heard;
            };
      }

  -- a step that concerns one task alone, whose place changes
  pub stands_changed : (b : Tasks T) (places : Slab (Place T)) (outs : List (ℕ × Out)) (log new : List (Step T)) (key : ℕ) (p : Place T) → StandsFor b log → moment_of new ≡ moment_of log → outs_of new ≡ outs → added_count new ≡ slab_len places → Updates b.places places key (Some p) → is_added new key ≡ true → ((k : ℕ) → k ≢ key → Same new log k) → Tells p new key → StandsFor (record { moment = b.moment; places = places; outs = outs }) new
  stands_changed b places outs log new key p stands clock said count updates known others tells =
      record {
        moment = clock ∙ stands.moment;
        outs = said;
        count = count;
        is_added = λ k. elim (cases_eq k key) [
          | inl same ↦ ap (is_added new) same ∙ known ∙ sym (ap is_some (ap (get places) same ∙ updates.changed))
          | inr differs ↦ (others k differs).added ∙ stands.is_added k ∙ sym (ap is_some (updates.others k differs))
        ];
        tells = λ k q found. elim (cases_eq k key) [
          | inl same ↦
              let q_is : p ≡ q = cc (updates.changed, found, ap (get places) same) in
              subst (λ j. Tells q new j) (sym same) (subst (λ r. Tells r new key) q_is tells)
          | inr differs ↦ tells_same new log k q (others k differs) clock (stands.tells k q (sym (updates.others k differs) ∙ found))
        ];
      }

  -- the same where the place had a task before, and nothing is added
  pub put_stands : (b : Tasks T) (outs : List (ℕ × Out)) (log new : List (Step T)) (key : ℕ) (p q : Place T) → StandsFor b log → get b.places key ≡ Some p → moment_of new ≡ moment_of log → outs_of new ≡ outs → added_count new ≡ added_count log → is_added new key ≡ is_added log key → ((k : ℕ) → k ≢ key → Same new log k) → Tells q new key → StandsFor (record { moment = b.moment; places = with_value b.places key q; outs = outs }) new
  put_stands b outs log new key p q stands found clock said count known others tells =
      let present : ContainsKey b.places key = there (get b.places key) p found in
      stands_changed b (with_value b.places key q) outs log new key q stands clock said
      (count ∙ stands.count ∙ sym (slab_len-with_value b.places key q present))
      (Updates-with_value b.places key q present)
      (known ∙ stands.is_added key ∙ present) others tells

  -- ---- wakes
  other_woken : (log : List (Step T)) (key k : ℕ) → k ≢ key → Same (woken key ∷ log) log k
  other_woken log key k differs =
      record { added = refl; task = refl; poll = refl; woken = ap (λ b. b || is_woken log k) (apart key k differs); mail = refl; latest = refl; heard = refl }

  pub woken_stands : (b : Tasks T) (log : List (Step T)) (key : ℕ) (p q : Place T) → StandsFor b log → get b.places key ≡ Some p → q ≡ record p { marked = is_none p.result || p.marked } → StandsFor (record b { places = with_value b.places key q }) (woken key ∷ log)
  woken_stands b log key p q stands found is =
      let before = stands.tells key p found in
      let after : Tells (record p { marked = is_none p.result || p.marked }) (woken key ∷ log) key = record {
        task = before.task;
        result = before.result;
        living = λ lives.
            let l = before.living lives in
            record {
              mail = l.mail;
              marked = woken_called (is_owed (last_poll log key)) (is_woken log key) (is_time log key) (key == key) (here key) ∙ sym (ap (λ r. is_none r || p.marked) lives);
              alarm = λ calm. absurd (cc (calm, ap (λ r. is_none r || p.marked) lives));
              awaits = l.awaits;
              latest = l.latest;
              heard = l.heard;
            };
      } in
      put_stands b b.outs log (woken key ∷ log) key p q stands found refl stands.outs refl refl (other_woken log key)
      (subst (λ r. Tells r (woken key ∷ log) key) (sym is) after)

  -- ---- mail
  other_posted : (log : List (Step T)) (key k : ℕ) (mail : Mail) → k ≢ key → Same (posted key mail ∷ log) log k
  other_posted log key k mail differs =
      record { added = refl; task = refl; poll = refl; woken = refl; mail = cond-false (key == k) _ _ (apart key k differs); latest = refl; heard = refl }

  -- the place of a task whose mail changes
  mail_tells : (log new : List (Step T)) (key : ℕ) (p q : Place T) → Tells p log key → q ≡ record p { mail = q.mail } → task_of new key ≡ task_of log key → last_poll new key ≡ last_poll log key → is_woken new key ≡ is_woken log key → last_heard new key ≡ last_heard log key → poll_heard new key ≡ poll_heard log key → moment_of new ≡ moment_of log → (p.result ≡ None → mail_of new key ≡ q.mail.items) → Tells q new key
  mail_tells log new key p q before is task poll wakes latest loads clock mail =
      let after : Tells (record p { mail = q.mail }) new key = record {
        task = task ∙ before.task;
        result = ap ended_by poll ∙ before.result;
        living = λ lives.
            let l = before.living lives in
            record {
              mail = mail lives;
              marked = ap (λ r. (is_owed r || is_woken new key) || has_come (moment_of new) (alarm_by r)) poll
                  ∙ ap (λ w. (is_owed (last_poll log key) || w) || has_come (moment_of new) (alarm_by (last_poll log key))) wakes
                  ∙ ap (λ m. (is_owed (last_poll log key) || is_woken log key) || has_come m (alarm_by (last_poll log key))) clock
                  ∙ l.marked;
              alarm = λ calm. ap alarm_by poll ∙ l.alarm calm;
              awaits = ap awaits_by poll ∙ l.awaits;
              latest = ap (λ n. n % 2 ^ 64) latest ∙ l.latest;
              heard = ap (λ n. n % 2 ^ 64) loads ∙ l.heard;
            };
      } in
      subst (λ r. Tells r new key) (sym is) after

  pub posted_stands : (b : Tasks T) (log : List (Step T)) (key : ℕ) (mail : Mail) (p q : Place T) → StandsFor b log → get b.places key ≡ Some p → q ≡ record p { mail = q.mail } → (p.result ≡ None → q.mail.items ≡ p.mail.items ++ mail ∷ []) → StandsFor (record b { places = with_value b.places key q }) (posted key mail ∷ log)
  posted_stands b log key mail p q stands found is got =
      let before = stands.tells key p found in
      put_stands b b.outs log (posted key mail ∷ log) key p q stands found refl stands.outs refl refl (λ k. other_posted log key k mail)
      (mail_tells log (posted key mail ∷ log) key p q before is refl refl refl refl refl refl
      (λ lives. cond-true (key == key) _ _ (here key) ∙ ap (λ ms. ms ++ mail ∷ []) (before.living lives).mail ∙ sym (got lives)))

  pub unposted_stands : (b : Tasks T) (log : List (Step T)) (key : ℕ) (p q : Place T) → StandsFor b log → get b.places key ≡ Some p → q ≡ record p { mail = q.mail } → (p.result ≡ None → q.mail.items ≡ p.mail.items) → StandsFor (record b { places = with_value b.places key q }) log
  unposted_stands b log key p q stands found is kept =
      let before = stands.tells key p found in
      put_stands b b.outs log log key p q stands found refl stands.outs refl refl
      (λ k differs. record { added = refl; task = refl; poll = refl; woken = refl; mail = refl; latest = refl; heard = refl })
      (mail_tells log log key p q before is refl refl refl refl refl refl (λ lives. (before.living lives).mail ∙ sym (kept lives)))

  -- ---- a new task
  pub record IsNew (p : Place T) (task : T) : Type 0 where
    pub is : p.task ≡ task
    pub lives : p.result ≡ None
    pub mail : p.mail.items ≡ []
    pub marked : p.marked ≡ true
    pub waits : p.waits_mail ≡ false
    pub latest : p.latest ≡ 0
    pub heard : p.heard ≡ 0

  other_added : (log : List (Step T)) (key k : ℕ) (task : T) → k ≢ key → Same (added key task ∷ log) log k
  other_added log key k task differs =
      let e = apart key k differs in
      record {
        added = ap (λ b. b || is_added log k) e;
        task = cond-false (key == k) _ _ e;
        poll = cond-false (key == k) _ _ e;
        woken = cond-false (key == k) _ _ e;
        mail = cond-false (key == k) _ _ e;
        latest = cond-false (key == k) _ _ e;
        heard = cond-false (key == k) _ _ e;
      }

  pub added_stands : (b : Tasks T) (places : Slab (Place T)) (log : List (Step T)) (key : ℕ) (task : T) (p : Place T) → StandsFor b log → Updates b.places places key (Some p) → slab_len places ≡ slab_len b.places + 1 → IsNew p task → StandsFor (record b { places = places }) (added key task ∷ log)
  added_stands b places log key task p stands updates count new =
      let own = here key in
      let poll : last_poll (added key task ∷ log) key ≡ None = cond-true (key == key) _ _ own in
      stands_changed b places b.outs log (added key task ∷ log) key p stands refl stands.outs
      (omega (arith, stands.count, count)) updates (or_left (key == key) (is_added log key) own) (λ k. other_added log key k task)
      (record {
        task = cond-true (key == key) _ _ own ∙ ap Some (sym new.is);
        result = ap ended_by poll ∙ sym new.lives;
        living = λ lives. record {
          mail = cond-true (key == key) _ _ own ∙ sym new.mail;
          marked = new_called (last_poll (added key task ∷ log) key) (is_woken (added key task ∷ log) key) (moment_of log) poll ∙ sym new.marked;
          alarm = λ calm. absurd (cc (calm, new.marked));
          awaits = ap awaits_by poll ∙ sym new.waits;
          latest = ap (λ n. n % 2 ^ 64) (cond-true (key == key) _ _ own) ∙ sym new.latest;
          heard = ap (λ n. n % 2 ^ 64) (cond-true (key == key) _ _ own) ∙ sym new.heard;
        };
      })

  -- places with the same slots
  pub slots_stand : (b : Tasks T) (places : Slab (Place T)) (log : List (Step T)) → StandsFor b log → places ≡ record b.places { capacity = places.capacity } → StandsFor (record b { places = places }) log
  slots_stand b places log stands is =
      let same : StandsFor (record b { places = record b.places { capacity = places.capacity } }) log = record {
        moment = stands.moment;
        outs = stands.outs;
        count = stands.count;
        is_added = stands.is_added;
        tells = stands.tells;
      } in
      subst (λ s. StandsFor (record b { places = s }) log) (sym is) same

  -- ---- the time goes on
  come_tells : (log : List (Step T)) (now key : ℕ) (p : Place T) → moment_of log ≤ now → Tells p log key → has_come now p.alarm ≡ true → Tells (record p { marked = true; alarm = None }) (advanced now ∷ log) key
  come_tells log now key p on before come =
      record {
        task = before.task;
        result = before.result;
        living = λ lives.
            let l = before.living lives in
            record {
              mail = l.mail;
              marked = come_called (is_called log key) p.marked (moment_of log) now (alarm_by (last_poll log key)) p.alarm on l.marked l.alarm come;
              alarm = λ calm. absurd (cc calm);
              awaits = l.awaits;
              latest = l.latest;
              heard = l.heard;
            };
      }

  early_tells : (log : List (Step T)) (now key : ℕ) (p : Place T) → moment_of log ≤ now → Tells p log key → has_come now p.alarm ≡ false → Tells p (advanced now ∷ log) key
  early_tells log now key p on before early =
      record {
        task = before.task;
        result = before.result;
        living = λ lives.
            let l = before.living lives in
            record {
              mail = l.mail;
              marked = early_called (is_called log key) p.marked (moment_of log) now (alarm_by (last_poll log key)) p.alarm on l.marked l.alarm early;
              alarm = l.alarm;
              awaits = l.awaits;
              latest = l.latest;
              heard = l.heard;
            };
      }

  timed_tells : (log : List (Step T)) (now key : ℕ) (p : Place T) → moment_of log ≤ now → Tells p log key → Tells (come_at now p) (advanced now ∷ log) key
  timed_tells log now key p on before =
      elim (cases_Bool (has_come now p.alarm)) [
        | inl come ↦ subst (λ q. Tells q (advanced now ∷ log) key) (sym (cond-true (has_come now p.alarm) _ _ come)) (come_tells log now key p on before come)
        | inr early ↦ subst (λ q. Tells q (advanced now ∷ log) key) (sym (cond-false (has_come now p.alarm) _ _ early)) (early_tells log now key p on before early)
      ]

  come_there : (now : ℕ) (o : Option (Place T)) → is_some (come_in now o) ≡ is_some o
  come_there now None = refl
  come_there now (Some p) = refl

  come_from : (now : ℕ) (o : Option (Place T)) (q : Place T) → come_in now o ≡ Some q → (p : Place T) × (o ≡ Some p) × (come_at now p ≡ q)
  come_from now None q found = absurd (cc found)
  come_from now (Some p) q found = (p, refl, cc found)

  pub advanced_stands : (b : Tasks T) (places : Slab (Place T)) (log : List (Step T)) (now : ℕ) → StandsFor b log → b.moment ≤ now → HaveCome now b.places places → StandsFor (record { moment = now; places = places; outs = b.outs }) (advanced now ∷ log)
  advanced_stands b places log now stands later timed =
      let on : moment_of log ≤ now = omega (arith, stands.moment, later) in
      record {
        moment = refl;
        outs = stands.outs;
        count = stands.count ∙ sym timed.count;
        is_added = λ k. stands.is_added k ∙ sym (ap is_some (timed.each k) ∙ come_there now (get b.places k));
        tells = λ k q found.
            let from = come_from now (get b.places k) q (sym (timed.each k) ∙ found) in
            subst (λ r. Tells r (advanced now ∷ log) k) from.2 (timed_tells log now k from.0 on (stands.tells k from.0 from.1));
      }

  -- ---- what is taken out
  pub took_stands : (b : Tasks T) (outs : List (ℕ × Out)) (log : List (Step T)) → StandsFor b log → drop 1 b.outs ≡ outs → StandsFor (record b { outs = outs }) (took ∷ log)
  took_stands b outs log stands rest =
      record {
        moment = stands.moment;
        outs = ap (drop 1) stands.outs ∙ rest;
        count = stands.count;
        is_added = stands.is_added;
        tells = λ k p found. tells_same (took ∷ log) log k p (record { added = refl; task = refl; poll = refl; woken = refl; mail = refl; latest = refl; heard = refl }) refl (stands.tells k p found);
      }

  -- ---- polls
  other_polled : (log : List (Step T)) (key k : ℕ) (visit : Visit) (short : Bool) (task : T) → k ≢ key → Same (polled key visit short task ∷ log) log k
  other_polled log key k visit short task differs =
      let e = apart key k differs in
      record {
        added = refl;
        task = cond-false (key == k) _ _ e;
        poll = cond-false (key == k) _ _ e;
        woken = cond-false (key == k) _ _ e;
        mail = cond-false (key == k) _ _ e;
        latest = refl;
        heard = cond-false (key == k) _ _ e;
      }

  pub polled_stands : (polls : T → Visit → T → Type 0) (b : Tasks T) (log : List (Step T)) (key : ℕ) (p q : Place T) (before after : Context) (visit : Visit) (short : Bool) → StandsFor b log → get b.places key ≡ Some p → p.result ≡ None → b.moment ≡ before.moment → b.outs ≡ all_outs before → IsPolled polls key p q before after visit short → StandsFor (record { moment = after.moment; places = with_value b.places key q; outs = all_outs after }) (polled key visit short q.task ∷ log)
  polled_stands polls b log key p q before after visit short stands found lives now said is =
      let new : List (Step T) = polled key visit short q.task ∷ log in
      let l = (stands.tells key p found).living lives in
      let own = here key in
      let poll : last_poll new key ≡ Some (visit, short) = cond-true (key == key) _ _ own in
      let calm : is_woken new key ≡ false = cond-true (key == key) _ _ own in
      let clock : moment_of log ≡ before.moment = stands.moment ∙ now in
      let tells : Tells q new key = record {
        task = cond-true (key == key) _ _ own;
        result = ap ended_by poll ∙ is.ending;
        living = λ goes_on. record {
          mail = cond-true (key == key) _ _ own ∙ is.left;
          marked = polled_called (last_poll new key) (is_woken new key) short (moment_of log) visit poll calm ∙ ap (λ m. short || has_come m visit.alarm) clock ∙ is.marked goes_on;
          alarm = λ unmarked. ap alarm_by poll ∙ is.alarm unmarked;
          awaits = ap awaits_by poll ∙ is.waits;
          latest = l.latest ∙ sym is.latest;
          heard = ap (λ n. n % 2 ^ 64) (cond-true (key == key) _ _ own) ∙ l.latest ∙ sym is.heard;
        };
      } in
      let outs : outs_of new ≡ all_outs after = ap (λ os. os ++ by_task key visit.said) (stands.outs ∙ said) ∙ sym is.outs in
      let same = put_stands b (all_outs after) log new key p q stands found refl outs refl refl (λ k. other_polled log key k visit short q.task) tells in
      subst (λ m. StandsFor (record { moment = m; places = with_value b.places key q; outs = all_outs after }) new) (now ∙ sym is.clock) same

-- behind what was taken out
pub taken_rest : {A : Type 0} → (all : List A) (first : Option A) (rest : List A) → all ≡ option_to_list first ++ rest → (first ≡ None → rest ≡ []) → drop 1 all ≡ rest
taken_rest all None rest is none = ap (drop 1) (is ∙ none refl) ∙ sym (none refl)
taken_rest all (Some x) rest is none = ap (drop 1) is
