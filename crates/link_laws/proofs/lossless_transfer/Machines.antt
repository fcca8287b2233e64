-- A client's machine that is polled with one word at a time does just what the word does.
use Rattle.std.proofs.Common.{◌≡◌, ℕ, ◌<◌, Bool, true, false, if◌then◌else◌, List, [], ◌++◌, None, IfSome, ap, ◌∙◌}
use Rattle.std.proofs.lemmas.List.{append-nil}
use Rattle.task_core.specs.declared.mail.Mail.{Mail}
use Rattle.transfer_words.specs.Word.{Word}
use Rattle.transfer_words.specs.Saying.{Saying, outs_of}
use Rattle.transfer_client.specs.Machine.{Rules}
use Rattle.transfer_client.specs.Polling.{polled}
use Rattle.transfer_client.specs.Hearing.{GoesOn, PollsHearWords, WaitsInPeace, all_of}
use Rattle.transfer_laws.proofs.words.Receivers.{AllFit}
use Rattle.link_laws.specs.world.Client.{transfer_polled, transfer_says}
use Rattle.link_laws.specs.world.Lines.{transfer_end}
use Rattle.link_laws.specs.world.World.{Transfer}

-- a transfer of this kind moves by these rules
pub record IsWrapped {A : Type 0} (rules : Rules A) (wrap : A → Transfer) : Type 0 where
  pub ends : (t : A) → transfer_end (wrap t) ≡ rules.end_of t
  pub polls : (session : ℕ) (t : A) (mail : List Mail) (now : ℕ) → transfer_polled session (wrap t) mail now ≡ wrap (polled rules session t mail now).after
  pub says : (session : ℕ) (t : A) (mail : List Mail) (now : ℕ) → transfer_says session (wrap t) mail now ≡ outs_of session (polled rules session t mail now).sayings
  pub waits : WaitsInPeace rules
  pub hears : PollsHearWords rules

-- Where a task of this session stands so at this moment: it has begun, nothing times out, and what it says fits.
pub record KeepsOn {A : Type 0} (rules : Rules A) (now : ℕ) (P : A → Type 0) : Type 0 where
  pub awake : (t : A) → P t → IfSome (rules.deadline_of t) (λ at. now < at)
  pub goes_on : (t : A) → P t → rules.end_of t ≡ None → GoesOn rules t
  pub hears : (t : A) (w : Word) → P t → P (rules.hears t w now).after × AllFit (rules.hears t w now).sayings

-- the first poll does just what the beginning does
pub begun : {A : Type 0} (rules : Rules A) (session now : ℕ) (t : A) → WaitsInPeace rules → IfSome (rules.deadline_of (rules.opens t now).after) (λ at. now < at)
    → polled rules session t [] now ≡ all_of (rules.opens t now)
begun rules session now t waits early =
    ap (λ s. record { after = s.after; sayings = (rules.opens t now).sayings ++ s.sayings; left = [] }) (waits (rules.opens t now).after now early)
    ∙ ap (λ (ss : List Saying). record { after = (rules.opens t now).after; sayings = ss; left = [] }) (append-nil (rules.opens t now).sayings)

-- what holds of both sides of a choice holds of it
pub if_both : {A : Type 0} (P : A → Type 0) (b : Bool) (x y : A) → P x → P y → P (if b then x else y)
if_both P true x y first second = first
if_both P false x y first second = second
