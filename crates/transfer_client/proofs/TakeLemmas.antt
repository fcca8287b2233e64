-- How the mail of a poll is taken, one piece after the other.
use Rattle.std.proofs.Common.{◌≡◌, ℕ, ◌++◌, refl, ap, sym, ◌∙◌, true, false, List, [], ◌∷◌, Option, Some, None, is_none, append_assoc, append-nil}
use Rattle.std.proofs.lemmas.List.{map-append}
use Rattle.rpc_handlers.specs.declared.answer.Out.{Out}
use Rattle.rpc_ids.specs.declared.Status.{Status}
use Rattle.task_core.specs.declared.mail.Mail.{Mail}
use Rattle.task_core.specs.Context.{Context}
use Rattle.task_core.specs.Visit.{Uses}
use Rattle.transfer_words.specs.Saying.{Saying, Stepped, out_of, outs_of}
use Rattle.transfer_client.specs.Machine.{Rules}
use Rattle.transfer_client.specs.Polling.{Taken, behind, takes, takes_all}

-- what is said by two lists of sayings, behind what was said before
pub said_both : (session : ℕ) (outs : List Out) (first more : List Saying) →
    (outs ++ outs_of session first) ++ outs_of session more ≡ outs ++ outs_of session (first ++ more)
said_both session outs first more =
    append_assoc outs (outs_of session first) (outs_of session more)
    ∙ ap (λ xs. outs ++ xs) (sym (map-append (out_of session) first more))

pub none_of : (x : Option Status) → is_none x ≡ true → x ≡ None
none_of None is = refl
none_of (Some status) is = absurd (cc is)

-- the context with one piece of mail less
pub uses_more : (first before after : Context) (m : Mail) → Uses first before → before.mail ≡ m ∷ after.mail →
    after ≡ record before { mail = after.mail } → Uses first after
uses_more first before after m uses mails is = record {
  key = ap {A = Context} (λ c. c.key) is ∙ uses.key;
  moment = ap {A = Context} (λ c. c.moment) is ∙ uses.moment;
  earlier = ap {A = Context} (λ c. c.earlier) is ∙ uses.earlier;
  mail = (
    uses.mail.0 ++ m ∷ [],
    uses.mail.1 ∙ (ap (λ xs. uses.mail.0 ++ xs) mails ∙ sym (append_assoc uses.mail.0 (m ∷ []) after.mail)),
  );
}

module _ {A : Type 0} (k : Rules A) (session now : ℕ) where
  -- one that goes on takes its first mail
  takes_first : (t : A) (m : Mail) (mail : List Mail) → k.end_of t ≡ None →
      takes_all k session t (m ∷ mail) now ≡ behind (takes k session t m now).sayings (takes_all k session (takes k session t m now).after mail now)
  takes_first t m mail goes = rw (goes) refl

  -- one that has ended takes none
  pub takes_none : (t : A) (mail : List Mail) → is_none (k.end_of t) ≡ false → takes_all k session t mail now ≡ record { after = t; sayings = []; left = mail }
  takes_none t mail is = none_by t mail (k.end_of t) refl is
    where
      none_by : (t : A) (mail : List Mail) (end : Option Status) → k.end_of t ≡ end → is_none end ≡ false →
          takes_all k session t mail now ≡ record { after = t; sayings = []; left = mail }
      none_by t mail None e is = absurd (cc is)
      none_by t [] (Some status) e is = refl
      none_by t (m ∷ mail) (Some status) e is = rw (e) refl

  -- The whole is what was done so far, with what the mail to come does.
  pub record TakesOn (whole : Taken A) (said : List Out) (t : A) (mail : List Mail) (outs : List Out) : Type 0 where
    pub after : (takes_all k session t mail now).after ≡ whole.after
    pub left : (takes_all k session t mail now).left ≡ whole.left
    pub outs_are : outs ++ outs_of session (takes_all k session t mail now).sayings ≡ said ++ outs_of session whole.sayings

  pub takes_begins : (said : List Out) (t : A) (mail : List Mail) → TakesOn (takes_all k session t mail now) said t mail said
  takes_begins said t mail = record { after = refl; left = refl; outs_are = refl }

  pub takes_more : (whole : Taken A) (said : List Out) (t next : A) (m : Mail) (mail more : List Mail) (outs then_outs : List Out) →
      TakesOn whole said t mail outs → mail ≡ m ∷ more → k.end_of t ≡ None → next ≡ (takes k session t m now).after →
      then_outs ≡ outs ++ outs_of session (takes k session t m now).sayings → TakesOn whole said next more then_outs
  takes_more whole said t next m mail more outs then_outs on mails goes next_is outs_is =
      let step : Stepped A = takes k session t m now in
      let rest : Taken A = takes_all k session step.after more now in
      let split : takes_all k session t mail now ≡ behind step.sayings rest =
      ap (λ xs. takes_all k session t xs now) mails ∙ takes_first t m more goes in
      record {
        after = ap (λ x. (takes_all k session x more now).after) next_is ∙ (sym (ap {A = Taken A} (λ y. y.after) split) ∙ on.after);
        left = ap (λ x. (takes_all k session x more now).left) next_is ∙ (sym (ap {A = Taken A} (λ y. y.left) split) ∙ on.left);
        outs_are = ap (λ xs. xs ++ outs_of session (takes_all k session next more now).sayings) outs_is
            ∙ (ap (λ x. (outs ++ outs_of session step.sayings) ++ outs_of session (takes_all k session x more now).sayings) next_is
            ∙ (said_both session outs step.sayings rest.sayings
            ∙ (sym (ap {A = Taken A} (λ y. outs ++ outs_of session y.sayings) split) ∙ on.outs_are)));
      }

  -- nothing more is taken
  pub record IsAll (whole : Taken A) (said : List Out) (t : A) (mail : List Mail) (outs : List Out) : Type 0 where
    pub after : t ≡ whole.after
    pub left : mail ≡ whole.left
    pub outs_are : outs ≡ said ++ outs_of session whole.sayings

  takes_ends : (whole : Taken A) (said : List Out) (t : A) (mail : List Mail) (outs : List Out) → TakesOn whole said t mail outs →
      takes_all k session t mail now ≡ record { after = t; sayings = []; left = mail } → IsAll whole said t mail outs
  takes_ends whole said t mail outs on is = record {
    after = sym (ap {A = Taken A} (λ y. y.after) is) ∙ on.after;
    left = sym (ap {A = Taken A} (λ y. y.left) is) ∙ on.left;
    outs_are = sym (append-nil outs) ∙ (sym (ap {A = Taken A} (λ y. outs ++ outs_of session y.sayings) is) ∙ on.outs_are);
  }

  pub ended_is_all : (whole : Taken A) (said : List Out) (t : A) (mail : List Mail) (outs : List Out) → TakesOn whole said t mail outs →
      is_none (k.end_of t) ≡ false → IsAll whole said t mail outs
  ended_is_all whole said t mail outs on ended = takes_ends whole said t mail outs on (takes_none t mail ended)

  pub empty_is_all : (whole : Taken A) (said : List Out) (t : A) (mail : List Mail) (outs : List Out) → TakesOn whole said t mail outs →
      mail ≡ [] → IsAll whole said t mail outs
  empty_is_all whole said t mail outs on none = takes_ends whole said t mail outs on (rw (none) refl)
