-- One poll of the one task of a dispatcher.
use Rattle.std.proofs.Common.{◌≡◌, ℕ, zero, suc, ◌≤◌, ◌==◌, Bool, true, false, ◌&&◌, ◌||◌, List, [], ◌∷◌, ◌++◌, drop, length, Option, Some, None, is_some, is_none, if◌then◌else◌, Ok, refl, ap, sym, ◌∙◌, subst, arith, append_assoc, append-nil}
use Rattle.std.proofs.lemmas.Bool.{and_parts, and_right, eq-eqb, false≢true, or_left, or_right, true≢false}
use Rattle.rpc_ids.specs.declared.status.Status.{Status}
use Rattle.task_core.specs.declared.mail.Mail.{Mail}
use Rattle.task_core.specs.declared.stop.Stop.{Stop}
use Rattle.task_core.specs.declared.stop.Stop.TheVariants.{AllDone, Stalled, Budget}
use Rattle.task_core.specs.Due.{has_awaited, ended_by, is_due, is_owed, is_rung, is_time, lives, result_of}
use Rattle.task_core.specs.Log.{Step, advanced, is_added, last_poll, is_woken, mail_of, outs_of, polled, posted, task_of, took, woken}
use Rattle.task_core.specs.Runs.{Ran, StopsBy, Turn, Turns}
use Rattle.task_core.specs.Tasks.{StandsFor, Tasks}
use Rattle.task_core.specs.Visit.{Visit}
use Rattle.link_world.specs.client.OnePoll.{PolledBy, PollsAlone, with_posts, with_taken}

called_lives : (live owed self stirred time rung awaited : Bool) → self ≡ true → (live && ((((owed || (self || stirred)) || time) || rung) || awaited)) ≡ false → live ≡ false
called_lives false owed self stirred time rung awaited is idle = refl
called_lives true owed self stirred time rung awaited is idle =
    absurd (true≢false (sym (or_left (((owed || (self || stirred)) || time) || rung) awaited
    (or_left ((owed || (self || stirred)) || time) rung (or_left (owed || (self || stirred)) time (or_right owed (self || stirred) (or_left self stirred is))))) ∙ idle))

over_by : (result : Option Status) (added : Bool) → added ≡ true → (added && is_none result) ≡ false → is_some result ≡ true
over_by None added is over = absurd (true≢false (sym (ap (λ b. b && true) is) ∙ over))
over_by (Some status) added is over = refl

module _ {T : Type 0} where
  pub posts_append : (key : ℕ) (first more : List Mail) (log : List (Step T)) → with_posts key (first ++ more) log ≡ with_posts key more (with_posts key first log)
  posts_append key [] more log = refl
  posts_append key (m ∷ first) more log = posts_append key first more (posted key m ∷ log)

  -- what posting mail leaves as it is
  pub record SameButMail (log new : List (Step T)) : Type 0 where
    pub added : (k : ℕ) → is_added new k ≡ is_added log k
    pub task : (k : ℕ) → task_of new k ≡ task_of log k
    pub poll : (k : ℕ) → last_poll new k ≡ last_poll log k
    pub outs : outs_of new ≡ outs_of log

  pub posts_same : (key : ℕ) (mails : List Mail) (log : List (Step T)) → SameButMail log (with_posts key mails log)
  posts_same key [] log = record { added = λ k. refl; task = λ k. refl; poll = λ k. refl; outs = refl }
  posts_same key (m ∷ mails) log =
      let rest = posts_same key mails (posted key m ∷ log) in
      record { added = rest.added; task = rest.task; poll = rest.poll; outs = rest.outs }

  pub posts_mail : (key : ℕ) (mails : List Mail) (log : List (Step T)) → mail_of (with_posts key mails log) key ≡ mail_of log key ++ mails
  posts_mail key [] log = sym (append-nil (mail_of log key))
  posts_mail key (m ∷ mails) log =
      posts_mail key mails (posted key m ∷ log)
      ∙ (ap (λ b. (if b then mail_of log key ++ m ∷ [] else mail_of log key) ++ mails) (eq-eqb key key refl)
      ∙ append_assoc (mail_of log key) (m ∷ []) mails)

  -- what taking items out leaves as it is
  pub record SameButOuts (log new : List (Step T)) : Type 0 where
    pub added : (k : ℕ) → is_added new k ≡ is_added log k
    pub task : (k : ℕ) → task_of new k ≡ task_of log k
    pub poll : (k : ℕ) → last_poll new k ≡ last_poll log k
    pub mail : (k : ℕ) → mail_of new k ≡ mail_of log k

  pub taken_same : (n : ℕ) (log : List (Step T)) → SameButOuts log (with_taken n log)
  taken_same zero log = record { added = λ k. refl; task = λ k. refl; poll = λ k. refl; mail = λ k. refl }
  taken_same (suc n) log =
      let rest = taken_same n log in
      record { added = rest.added; task = rest.task; poll = rest.poll; mail = rest.mail }

  -- a task that was woken is due if it lives
  woken_due : (key now : ℕ) (log : List (Step T)) → is_due (woken key ∷ advanced now ∷ log) key ≡ false → lives log key ≡ false
  woken_due key now log idle =
      called_lives (lives log key) (is_owed (last_poll log key)) (key == key) (is_woken log key) (is_time (woken key ∷ advanced now ∷ log) key)
      (is_rung log key) (has_awaited log key) (eq-eqb key key refl) idle

  module _ (polls : T → Visit → T → Type 0) (key now : ℕ) (log : List (Step T)) (tasks : Tasks T) where
    stays_over : (result : Option Status) → is_some result ≡ true → (new : List (Step T)) → new ≡ woken key ∷ advanced now ∷ log
        → PolledBy polls result key now log new
    stays_over None over new same = absurd (false≢true over)
    stays_over (Some status) over new same =
        subst (λ l. PolledBy polls (Some status) key now log l) (sym same) (record { task = refl; ended = refl; outs = refl })

    -- no poll was made
    none_made : is_added log key ≡ true → lives log key ≡ false → (new : List (Step T)) → new ≡ woken key ∷ advanced now ∷ log → StandsFor tasks new
        → PollsAlone polls key now log tasks
    none_made known over new same stands = record {
      new = new;
      stands = stands;
      added = λ k. ap (λ l. is_added l k) same;
      polled = stays_over (result_of log key) (over_by (result_of log key) (is_added log key) known over) new same;
    }

    lives_none : (result : Option Status) (added : Bool) → (added && is_none result) ≡ true → result ≡ None
    lives_none None added is = refl
    lives_none (Some status) added is = absurd (false≢true (sym (and_right added false refl) ∙ is))

    -- one was made
    one_made : ((k : ℕ) → is_added log k ≡ true → k ≡ key) → (mid new : List (Step T)) → mid ≡ woken key ∷ advanced now ∷ log → Turn polls mid new false
        → StandsFor tasks new → PollsAlone polls key now log tasks
    one_made alone mid new same turn stands = at (subst (λ l. Turn polls l new false) same turn)
      where
        at : Turn polls (woken key ∷ advanced now ∷ log) new false → PollsAlone polls key now log tasks
        at t =
            let due = and_parts (lives log t.key) _ t.first.0 in
            let mine : t.key ≡ key = alone t.key (and_parts (is_added log t.key) _ due.0).0 in
            let goes : result_of log key ≡ None = subst (λ k. result_of log k ≡ None) mine (lives_none (result_of log t.key) (is_added log t.key) due.0) in
            let adds : new ≡ polled key t.visit false t.after ∷ woken key ∷ advanced now ∷ log = t.adds ∙ ap (λ k. polled k t.visit false t.after ∷ woken key ∷ advanced now ∷ log) mine in
            record {
              new = new;
              stands = stands;
              added = λ k. ap (λ l. is_added l k) adds;
              polled = subst (λ r. PolledBy polls r key now log new) (sym goes) (record {
                before = t.before;
                was = subst (λ k. task_of log k ≡ Some t.before) mine t.was;
                visit = t.visit;
                after = t.after;
                did = t.did;
                moment = t.moment;
                mail = subst (λ k. t.visit.mail ≡ mail_of log k) mine t.mail;
                task = ap (λ l. task_of l key) adds ∙ ap (λ b. if b then Some t.after else task_of log key) (eq-eqb key key refl);
                ended = ap (λ l. result_of l key) adds ∙ ap (λ b. ended_by (if b then Some (t.visit, false) else last_poll log key)) (eq-eqb key key refl);
                left = ap (λ l. mail_of l key) adds ∙ ap (λ b. if b then t.visit.left else mail_of log key) (eq-eqb key key refl);
                outs = ap outs_of adds;
              });
            }

    by_count : ((k : ℕ) → is_added log k ≡ true → k ≡ key) → is_added log key ≡ true → (stop : Stop) (n : ℕ) → n ≤ 1 → (new : List (Step T))
        → Turns polls n (woken key ∷ advanced now ∷ log) new → StandsFor tasks new → StopsBy stop n 1 new → PollsAlone polls key now log tasks
    by_count alone known AllDone zero few new turns stands stops =
        none_made known (subst (λ l. lives l key ≡ false) turns (stops key)) new turns stands
    by_count alone known Stalled zero few new turns stands stops =
        none_made known (woken_due key now log (subst (λ l. is_due l key ≡ false) turns (stops.1 key))) new turns stands
    by_count alone known Budget zero few new turns stands stops = absurd (omega (arith, stops.0))
    by_count alone known stop (suc zero) few new turns stands stops = one_made alone turns.0 new turns.1 turns.2 stands
    by_count alone known stop (suc (suc n)) few new turns stands stops = absurd (omega (arith, few))

    -- a run of one turn polls the task
    pub polls_alone : ((k : ℕ) → is_added log k ≡ true → k ≡ key) → is_added log key ≡ true → (stop : Stop)
        → Ran polls (woken key ∷ advanced now ∷ log) tasks 1 (Ok stop) → PollsAlone polls key now log tasks
    polls_alone alone known stop ran = by_count alone known stop ran.0 ran.1 ran.2 ran.3 ran.4 ran.5

-- what is the same without its first is nothing
without_first : {A : Type 0} (xs ys : List A) → drop 1 xs ≡ ys → xs ≡ ys → xs ≡ []
without_first [] ys shorter same = refl
without_first (x ∷ xs) ys shorter same = absurd (omega (arith, ap length shorter, ap length same))

module _ {T : Type 0} where
  -- taking out has left all that was said where nothing was
  pub none_left : (log : List (Step T)) (before after : Tasks T) → StandsFor before log → StandsFor after (took ∷ log) → before.outs ≡ after.outs → after.outs ≡ []
  none_left log before after was is same =
      sym same ∙ without_first before.outs after.outs (ap (drop 1) (sym was.outs) ∙ is.outs) same
