-- A poll as a whole: the session begins, mail is taken, the time is looked at, and all that this says is said.
use Rattle.std.proofs.Common.{◌≡◌, ℕ, ◌++◌, refl, ap, sym, ◌∙◌, List, [], Option, Some, None, Ok, append_assoc, inl}
use Rattle.rpc_handlers.specs.declared.answer.Out.{Out}
use Rattle.rpc_ids.specs.declared.Status.{Status}
use Rattle.task_core.specs.declared.task.Poll.{Poll}
use Rattle.task_core.specs.declared.task.Poll.TheVariants.{Ready, Pending}
use Rattle.task_core.specs.Context.{Context}
use Rattle.task_core.specs.Visit.{AwaitsSomething, IsFresh, Uses, visit_of}
use Rattle.transfer_words.specs.Saying.{Saying, outs_of}
use Rattle.transfer_client.specs.Machine.{Rules}
use Rattle.transfer_client.specs.Polling.{IsPolled, WaitsFor, alarm_with, ending_by, polled, takes_all}
use Rattle.transfer_client.proofs.TakeLemmas.{said_both}

-- what is said in three steps, one behind the other
said_in_three : (session : ℕ) (first more last : List Saying) →
    (([] ++ outs_of session first) ++ outs_of session more) ++ outs_of session last ≡ outs_of session (first ++ (more ++ last))
said_in_three session first more last =
    ap (λ xs. xs ++ outs_of session last) (said_both session [] first more)
    ∙ (said_both session [] (first ++ more) last
    ∙ ap (λ xs. outs_of session xs) (append_assoc first more last))

-- a context in which more is said
pub uses_said : (first before after : Context) → Uses first before → after ≡ record before { said = after.said } → Uses first after
uses_said first before after uses is = record {
  key = ap {A = Context} (λ c. c.key) is ∙ uses.key;
  moment = ap {A = Context} (λ c. c.moment) is ∙ uses.moment;
  earlier = ap {A = Context} (λ c. c.earlier) is ∙ uses.earlier;
  mail = (uses.mail.0, uses.mail.1 ∙ ap (λ xs. uses.mail.0 ++ xs) (sym (ap {A = Context} (λ c. c.mail) is)));
}

pub waits_uses : (end : Option Status) (deadline : Option ℕ) (first before after : Context) (poll : Poll) → Uses first before →
    WaitsFor end deadline before poll after → Uses first after
waits_uses (Some status) deadline first before after poll uses waits = rw (waits.1) uses
waits_uses None deadline first before after poll uses waits =
    rw (waits.1) (record { key = uses.key; moment = uses.moment; earlier = uses.earlier; mail = uses.mail })

pub waits_awaits : (end : Option Status) (deadline : Option ℕ) (before after : Context) (poll : Poll) →
    WaitsFor end deadline before poll after → poll ≡ Pending → AwaitsSomething after
waits_awaits (Some status) deadline before after poll waits pending = let e : ◌≡◌ {A = Poll} (Ready status) Pending = sym waits.0 ∙ pending in absurd (cc e)
waits_awaits None deadline before after poll waits pending = rw (waits.1) (inl refl)

-- mail was taken, and then more was said
pub context_is : (before mid last : Context) (outs : List Out) → mid ≡ record before { mail = mid.mail } →
    last ≡ record mid { said = mid.said ++ outs } → last ≡ record before { mail = last.mail; said = before.said ++ outs }
context_is before mid last outs mid_is last_is =
    last_is
    ∙ (ap {A = Context} (λ m. record m { said = m.said ++ outs }) mid_is
    ∙ ap (λ mail. record before { mail = mail; said = before.said ++ outs }) (sym (ap {A = Context} (λ c. c.mail) last_is)))

alarm_alone : (deadline : Option ℕ) → alarm_with None deadline ≡ deadline
alarm_alone None = refl
alarm_alone (Some at) = refl

module _ {A : Type 0} (k : Rules A) (session : ℕ) where
  -- what the steps of a poll have left: the task, what is said, and the mail
  pub record AreSteps (old new : A) (before mid : Context) (outs : List Out) : Type 0 where
    pub fresh : IsFresh before
    pub task : new ≡ (polled k session old before.mail before.moment).after
    pub outs_are : outs ≡ outs_of session (polled k session old before.mail before.moment).sayings
    pub left : mid.mail ≡ (polled k session old before.mail before.moment).left
    pub context : mid ≡ record before { mail = mid.mail; said = before.said ++ outs }

  pub are_steps : (old new : A) (before mid : Context) (outs : List Out) → IsFresh before →
      let taken = takes_all k session (k.opens old before.moment).after before.mail before.moment in
      new ≡ (k.ticks taken.after before.moment).after →
      outs ≡ (([] ++ outs_of session (k.opens old before.moment).sayings) ++ outs_of session taken.sayings) ++ outs_of session (k.ticks taken.after before.moment).sayings →
      mid.mail ≡ taken.left → mid ≡ record before { mail = mid.mail; said = before.said ++ outs } → AreSteps old new before mid outs
  are_steps old new before mid outs fresh new_is outs_is left context =
      let taken = takes_all k session (k.opens old before.moment).after before.mail before.moment in
      record {
        fresh = fresh;
        task = new_is;
        outs_are = outs_is ∙ said_in_three session (k.opens old before.moment).sayings taken.sayings (k.ticks taken.after before.moment).sayings;
        left = left;
        context = context;
      }

  said_is : (old new : A) (before mid : Context) (outs : List Out) → AreSteps old new before mid outs →
      mid.said ≡ outs_of session (polled k session old before.mail before.moment).sayings
  said_is old new before mid outs s =
      ap {A = Context} (λ c. c.said) s.context ∙ (ap (λ xs. xs ++ outs) s.fresh.said ∙ s.outs_are)

  alarm_is : (old new : A) (before mid : Context) (outs : List Out) (deadline : Option ℕ) → AreSteps old new before mid outs →
      alarm_with mid.alarm deadline ≡ deadline
  alarm_is old new before mid outs deadline s =
      ap (λ x. alarm_with x deadline) (ap {A = Context} (λ c. c.alarm) s.context ∙ s.fresh.alarm) ∙ alarm_alone deadline

  whole_by : (old new : A) (before mid after : Context) (outs : List Out) (poll : Poll) (end : Option Status) → AreSteps old new before mid outs →
      k.end_of new ≡ end → WaitsFor end (k.deadline_of new) mid poll after → IsPolled k session old (visit_of before after (Ok poll)) new
  whole_by old new before mid after outs poll (Some status) s e waits =
      rw (waits.0, waits.1)
      (record {
        after = s.task;
        said = said_is old new before mid outs s;
        left = s.left;
        ending = sym (ap ending_by e);
        waits = λ none. let no : ◌≡◌ {A = Option Status} (Some status) None = sym e ∙ none in absurd (cc no);
        alarm = λ none. let no : ◌≡◌ {A = Option Status} (Some status) None = sym e ∙ none in absurd (cc no);
      })
  whole_by old new before mid after outs poll None s e waits =
      rw (waits.0, waits.1)
      (record {
        after = s.task;
        said = said_is old new before mid outs s;
        left = s.left;
        ending = sym (ap ending_by e);
        waits = λ none. refl;
        alarm = λ none. alarm_is old new before mid outs (k.deadline_of new) s;
      })

  -- the poll is whole
  pub poll_whole : (old new : A) (before mid after : Context) (outs : List Out) (poll : Poll) → AreSteps old new before mid outs →
      WaitsFor (k.end_of new) (k.deadline_of new) mid poll after → IsPolled k session old (visit_of before after (Ok poll)) new
  poll_whole old new before mid after outs poll s waits = whole_by old new before mid after outs poll (k.end_of new) s refl waits
