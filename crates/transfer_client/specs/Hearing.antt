-- A poll with one word does just what the word does, where nothing times out at its moment.
use Rattle.std.specs.Prelude.{◌≡◌, ℕ, ◌<◌, ◌^◌, [], ◌∷◌, Some, None, IfSome}
use Rattle.task_core.specs.declared.mail.Mail.TheVariants.{Text}
use Rattle.transfer_words.specs.Word.{Word, start}
use Rattle.transfer_words.specs.Spoken.{FitsChunk, text_in}
use Rattle.transfer_words.specs.Saying.{Stepped}
use Rattle.transfer_client.specs.Machine.{Rules, staying}
use Rattle.transfer_client.specs.Polling.{Taken, heard_word, polled}

-- a START names the session that is to be, and none that is
abbrev pub IsOfSession : Word → Type 0
IsOfSession (start resource offset) = ⊥
IsOfSession _ = Unit {0}

-- the step is all that was done, and no mail is left
abbrev pub all_of : {A : Type 0} → Stepped A → Taken A
all_of s = record { after = s.after; sayings = s.sayings; left = [] }

module _ {A : Type 0} (k : Rules A) where
  -- before its deadline the time changes nothing, and it says nothing
  abbrev pub WaitsInPeace : Type 0
  WaitsInPeace = (t : A) (now : ℕ) → IfSome (k.deadline_of t) (λ at. now < at) → k.ticks t now ≡ staying t

  -- the session has begun, and goes on
  abbrev pub GoesOn : A → Type 0
  GoesOn t = (now : ℕ) → (k.opens t now ≡ staying t) × (k.end_of t ≡ None)

  -- what is said in the session is heard in it
  abbrev pub PollsHearWords : Type 0
  PollsHearWords =
      (session : ℕ) (t : A) (w : Word) (now : ℕ) → session < 2 ^ 32 → FitsChunk w → IsOfSession w → GoesOn t →
      IfSome (k.deadline_of (k.hears t w now).after) (λ at. now < at) →
      polled k session t (Text (text_in session w) ∷ []) now ≡ all_of (k.hears t w now)

abbrev pub WordsAreHeardBack : Type 0
WordsAreHeardBack = (session : ℕ) (w : Word) → session < 2 ^ 32 → FitsChunk w → IsOfSession w → heard_word session (text_in session w) ≡ Some w
