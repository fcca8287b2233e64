-- What each step of a task keeps, its polls keep.
use Rattle.std.proofs.Common.{◌≡◌, ℕ, Bool, true, false, if◌then◌else◌, List, [], ◌∷◌, ◌++◌, Option, Some, None, is_some, refl, sym, ◌∙◌, subst, append_assoc}
use Rattle.std.proofs.lemmas.List.{append-nil}
use Rattle.rpc_ids.specs.declared.Status.{Status}
use Rattle.task_core.specs.declared.mail.Mail.{Mail}
use Rattle.task_core.specs.declared.mail.Mail.TheVariants.{Text, Closed}
use Rattle.transfer_words.specs.Word.{Word}
use Rattle.transfer_words.specs.Saying.{Saying}
use Rattle.transfer_client.specs.Machine.{Rules}
use Rattle.transfer_client.specs.Polling.{behind, heard_word, hears_any, polled, takes, takes_all}
use Rattle.transfer_laws.specs.words.Tasks.{WordsIn}

module _ {A : Type 0} (k : Rules A) (session : ℕ) (J : A → List Saying → Type 0) (H : Word → Type 0) where
  -- J: where the task stands so, having said this; H: the words that it hears
  pub record KeepsSteps : Type 0 where
    pub opens : (t : A) (said : List Saying) (now : ℕ) → J t said → J (k.opens t now).after (said ++ (k.opens t now).sayings)
    pub hears : (t : A) (said : List Saying) (w : Word) (now : ℕ) → J t said → H w → J (k.hears t w now).after (said ++ (k.hears t w now).sayings)
    pub closes : (t : A) (said : List Saying) (status : Status) → J t said → J (k.closes t status).after (said ++ (k.closes t status).sayings)
    pub ticks : (t : A) (said : List Saying) (now : ℕ) → J t said → J (k.ticks t now).after (said ++ (k.ticks t now).sayings)

  module _ (keeps : KeepsSteps) where
    unsaid : (t : A) (said : List Saying) → J t said → J t (said ++ [])
    unsaid t said is = subst (J t) (sym (append-nil said)) is

    hears_one : (t : A) (said : List Saying) (text : List ℕ) (now : ℕ) → J t said → (o : Option Word) → heard_word session text ≡ o
        → ((w : Word) → heard_word session text ≡ Some w → H w) → J (hears_any k session t o now).after (said ++ (hears_any k session t o now).sayings)
    hears_one t said text now is None e word = unsaid t said is
    hears_one t said text now is (Some w) e word = keeps.hears t said w now is (word w e)

    takes_all_keep : (mail : List Mail) (t : A) (said : List Saying) (now : ℕ) → WordsIn session H mail → J t said
        → J (takes_all k session t mail now).after (said ++ (takes_all k session t mail now).sayings)
    takes_all_keep [] t said now words is = unsaid t said is
    takes_all_keep (Text text ∷ mail) t said now words is =
        by_end (is_some (k.end_of t))
        (takes_all_keep mail (takes k session t (Text text) now).after (said ++ (takes k session t (Text text) now).sayings) now words.1
        (hears_one t said text now is (heard_word session text) refl words.0))
      where
        by_end : (b : Bool)
            → J (takes_all k session (takes k session t (Text text) now).after mail now).after ((said ++ (takes k session t (Text text) now).sayings) ++ (takes_all k session (takes k session t (Text text) now).after mail now).sayings)
            → let taken = if b then record { after = t; sayings = []; left = Text text ∷ mail } else behind (takes k session t (Text text) now).sayings (takes_all k session (takes k session t (Text text) now).after mail now) in
            J taken.after (said ++ taken.sayings)
        by_end true more = unsaid t said is
        by_end false more = subst (J _) (append_assoc said (takes k session t (Text text) now).sayings _) more
    takes_all_keep (Closed status ∷ mail) t said now words is =
        by_end (is_some (k.end_of t)) (takes_all_keep mail (k.closes t status).after (said ++ (k.closes t status).sayings) now words (keeps.closes t said status is))
      where
        by_end : (b : Bool)
            → J (takes_all k session (k.closes t status).after mail now).after ((said ++ (k.closes t status).sayings) ++ (takes_all k session (k.closes t status).after mail now).sayings)
            → let taken = if b then record { after = t; sayings = []; left = Closed status ∷ mail } else behind (k.closes t status).sayings (takes_all k session (k.closes t status).after mail now) in
            J taken.after (said ++ taken.sayings)
        by_end true more = unsaid t said is
        by_end false more = subst (J _) (append_assoc said (k.closes t status).sayings _) more

    pub poll_keeps : (t : A) (said : List Saying) (mail : List Mail) (now : ℕ) → WordsIn session H mail → J t said
        → J (polled k session t mail now).after (said ++ (polled k session t mail now).sayings)
    poll_keeps t said mail now words is =
        let first : List Saying = (k.opens t now).sayings in
        let opened : A = (k.opens t now).after in
        let taken = takes_all k session opened mail now in
        let last : List Saying = (k.ticks taken.after now).sayings in
        subst (J (k.ticks taken.after now).after)
        (append_assoc (said ++ first) taken.sayings last ∙ append_assoc said first (taken.sayings ++ last))
        (keeps.ticks taken.after ((said ++ first) ++ taken.sayings) now
        (takes_all_keep mail opened (said ++ first) now words (keeps.opens t said now is)))

-- what is so of all words is so of those in each mail
pub words_weaken : (session : ℕ) (P Q : Word → Type 0) → ((w : Word) → P w → Q w) → (mail : List Mail) → WordsIn session P mail → WordsIn session Q mail
words_weaken session P Q f [] all = tt
words_weaken session P Q f (Text text ∷ mail) all = (λ w e. f w (all.0 w e), words_weaken session P Q f mail all.1)
words_weaken session P Q f (Closed status ∷ mail) all = words_weaken session P Q f mail all
