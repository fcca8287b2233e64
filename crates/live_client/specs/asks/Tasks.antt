-- A task that speaks through a call: what it was told, what it said, and how it ended.
use Rattle.std.specs.Prelude.{◌≡◌, ◌⊎◌, ℕ, ◌≤◌, Bool, true, false, List, [], ◌∷◌, ◌++◌, length, map, flat_map, Option, Some}
use Rattle.rpc_ids.specs.declared.status.Status.{Status}
use Rattle.rpc_handlers.specs.declared.answer.Out.{Out}
use Rattle.rpc_handlers.specs.declared.event.Event.{Event}
use Rattle.rpc_handlers.specs.declared.event.Event.TheVariants.{Message, Ended}
use Rattle.task_core.specs.declared.mail.Mail.{Mail}
use Rattle.task_core.specs.declared.mail.Mail.TheVariants.{Text, Closed}
use Rattle.task_core.specs.Visit.{Visit}
use Rattle.task_core.specs.Log.{Step, added, posted, woken, advanced, heard, polled, took, moment_of, task_of}
use Rattle.task_core.specs.Due.{is_due, result_of}
use Rattle.task_core.specs.Runs.{Turn}
use Rattle.live_client.specs.declared.asks.utterance.Utterance.{Utterance}
use Rattle.live_client.specs.declared.asks.utterance.Utterance.TheVariants.{Says}

-- the mail that an event of the call is to the task
abbrev pub mail_of : Event → List Mail
mail_of (Message payload) = Text payload ∷ []
mail_of (Ended status) = Closed status ∷ []
mail_of _ = []

-- how much mail these events are
abbrev pub mails : List Event → ℕ
mails events = length (flat_map mail_of events)

-- what was given to be said, and how much mail had come then
pub record Given : Type 0 where
  pub mail : ℕ
  pub out : Utterance

abbrev pub given_at : ℕ → Utterance → Given
given_at mail out = record { mail = mail; out = out }

abbrev pub says_at : ℕ → Out → Given
says_at mail out = given_at mail (Says out)

module _ {T : Type 0} where
  -- all mail that was posted, in order
  abbrev pub mail_in : List (Step T) → List Mail
  mail_in [] = []
  mail_in (added key task ∷ log) = mail_in log
  mail_in (posted key mail ∷ log) = mail_in log ++ mail ∷ []
  mail_in (woken key ∷ log) = mail_in log
  mail_in (advanced moment ∷ log) = mail_in log
  mail_in (heard key total ∷ log) = mail_in log
  mail_in (polled key visit short task ∷ log) = mail_in log
  mail_in (took ∷ log) = mail_in log

  -- all that the polls said, in order, with the mail that had been posted by then
  abbrev pub given_in : List (Step T) → List Given
  given_in [] = []
  given_in (added key task ∷ log) = given_in log
  given_in (posted key mail ∷ log) = given_in log
  given_in (woken key ∷ log) = given_in log
  given_in (advanced moment ∷ log) = given_in log
  given_in (heard key total ∷ log) = given_in log
  given_in (polled key visit short task ∷ log) = given_in log ++ map (says_at (length (mail_in log))) visit.said
  given_in (took ∷ log) = given_in log

  -- the polls lie between these moments
  abbrev pub AreBetween : ℕ → ℕ → List (Step T) → Type 0
  AreBetween from upto [] = Unit {0}
  AreBetween from upto (added key task ∷ log) = AreBetween from upto log
  AreBetween from upto (posted key mail ∷ log) = AreBetween from upto log
  AreBetween from upto (woken key ∷ log) = AreBetween from upto log
  AreBetween from upto (advanced moment ∷ log) = AreBetween from upto log
  AreBetween from upto (heard key total ∷ log) = AreBetween from upto log
  AreBetween from upto (polled key visit short task ∷ log) = (from ≤ visit.moment) × (visit.moment ≤ upto) × AreBetween from upto log
  AreBetween from upto (took ∷ log) = AreBetween from upto log

  -- each poll is a turn of the dispatcher: the task was due, and was given the mail that it had
  abbrev pub AreTurns : (T → Visit → T → Type 0) → List (Step T) → Type 0
  AreTurns polls [] = Unit {0}
  AreTurns polls (added key task ∷ log) = AreTurns polls log
  AreTurns polls (posted key mail ∷ log) = AreTurns polls log
  AreTurns polls (woken key ∷ log) = AreTurns polls log
  AreTurns polls (advanced moment ∷ log) = AreTurns polls log
  AreTurns polls (heard key total ∷ log) = AreTurns polls log
  AreTurns polls (polled key visit short task ∷ log) = Turn polls log (polled key visit short task ∷ log) short × AreTurns polls log
  AreTurns polls (took ∷ log) = AreTurns polls log

  -- THE ONE TASK is the first that was added, and no other was; mail was posted to it alone, and the time only went on
  abbrev pub IsAloneIn : T → List (Step T) → Type 0
  IsAloneIn task [] = ⊥
  IsAloneIn task (added key first ∷ log) = (key ≡ 0) × (first ≡ task) × (log ≡ [])
  IsAloneIn task (posted key mail ∷ log) = (key ≡ 0) × IsAloneIn task log
  IsAloneIn task (woken key ∷ log) = IsAloneIn task log
  IsAloneIn task (advanced moment ∷ log) = (moment_of log ≤ moment) × IsAloneIn task log
  IsAloneIn task (heard key total ∷ log) = IsAloneIn task log
  IsAloneIn task (polled key visit short now ∷ log) = IsAloneIn task log
  IsAloneIn task (took ∷ log) = IsAloneIn task log

  -- a poll stands behind the last mail
  abbrev pub is_polled_since : List (Step T) → Bool
  is_polled_since [] = false
  is_polled_since (added key task ∷ log) = false
  is_polled_since (posted key mail ∷ log) = false
  is_polled_since (woken key ∷ log) = is_polled_since log
  is_polled_since (advanced moment ∷ log) = is_polled_since log
  is_polled_since (heard key total ∷ log) = is_polled_since log
  is_polled_since (polled key visit short task ∷ log) = true
  is_polled_since (took ∷ log) = is_polled_since log

  -- the one task was polled behind its last mail, or isn't due
  abbrev pub HasGoneOn : List (Step T) → Type 0
  HasGoneOn log = (is_polled_since log ≡ true) ⊎ (is_due log 0 ≡ false)

  -- it had gone on behind its mail whenever more came
  abbrev pub IsPrompt : List (Step T) → Type 0
  IsPrompt [] = Unit {0}
  IsPrompt (added key task ∷ log) = IsPrompt log
  IsPrompt (posted key mail ∷ log) = HasGoneOn log × IsPrompt log
  IsPrompt (woken key ∷ log) = IsPrompt log
  IsPrompt (advanced moment ∷ log) = IsPrompt log
  IsPrompt (heard key total ∷ log) = IsPrompt log
  IsPrompt (polled key visit short task ∷ log) = IsPrompt log
  IsPrompt (took ∷ log) = IsPrompt log

  -- no poll found too little memory
  abbrev pub AreWhole : List (Step T) → Type 0
  AreWhole [] = Unit {0}
  AreWhole (added key task ∷ log) = AreWhole log
  AreWhole (posted key mail ∷ log) = AreWhole log
  AreWhole (woken key ∷ log) = AreWhole log
  AreWhole (advanced moment ∷ log) = AreWhole log
  AreWhole (heard key total ∷ log) = AreWhole log
  AreWhole (polled key visit short task ∷ log) = (short ≡ false) × AreWhole log
  AreWhole (took ∷ log) = AreWhole log

  -- the same of all polls but the last
  abbrev pub AreWholeBefore : List (Step T) → Type 0
  AreWholeBefore [] = Unit {0}
  AreWholeBefore (added key task ∷ log) = AreWholeBefore log
  AreWholeBefore (posted key mail ∷ log) = AreWholeBefore log
  AreWholeBefore (woken key ∷ log) = AreWholeBefore log
  AreWholeBefore (advanced moment ∷ log) = AreWholeBefore log
  AreWholeBefore (heard key total ∷ log) = AreWholeBefore log
  AreWholeBefore (polled key visit short task ∷ log) = AreWhole log
  AreWholeBefore (took ∷ log) = AreWholeBefore log

  -- a poll that found too little memory is the last, and is there only where memory was wanting
  abbrev pub WantedIf : Bool → List (Step T) → Type 0
  WantedIf false log = AreWhole log
  WantedIf true log = AreWholeBefore log

  -- THE TASK'S ANSWER: polled between two moments, and given these events as its mail, each once it had gone on behind the one before,
  -- it said these outs in order; `now` is the task as its last poll left it, and `ended` how that ended it, if it did. No poll found
  -- too little memory, but for the last where memory was wanting.
  pub record TaskRan (polls : T → Visit → T → Type 0) (task : T) (from upto : ℕ) (wanted : Bool) (events : List Event) (outs : List Given) (now : T) (ended : Option Status) : Type 0 where
    pub log : List (Step T)
    pub alone : IsAloneIn task log
    pub turns : AreTurns polls log
    pub between : AreBetween from upto log
    pub prompt : IsPrompt log
    pub whole : WantedIf wanted log
    pub mail : mail_in log ≡ flat_map mail_of events
    pub said : given_in log ≡ outs
    pub last : task_of log 0 ≡ Some now
    pub result : result_of log 0 ≡ ended
