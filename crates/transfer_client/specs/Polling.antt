-- What one poll of a client's task does: it begins where it hasn't, takes its mail, and looks at the time.
use Rattle.std.specs.Prelude.{◌≡◌, ℕ, ◌==◌, Bool, true, false, if◌then◌else◌, List, [], ◌∷◌, ◌++◌, Option, Some, None, is_some, Result, Ok, Err}
use Rattle.rpc_ids.specs.declared.Status.{Status}
use Rattle.transfer_chunk.specs.Chunk.{Chunk}
use Rattle.transfer_chunk.specs.Reading.{chunk_of}
use Rattle.transfer_words.specs.Word.{Word}
use Rattle.transfer_words.specs.Spoken.{word_of}
use Rattle.transfer_words.specs.Saying.{Saying, Stepped, outs_of}
use Rattle.task_core.specs.declared.mail.Mail.{Mail}
use Rattle.task_core.specs.declared.mail.Mail.TheVariants.{Text, Closed}
use Rattle.task_core.specs.declared.task.Poll.{Poll}
use Rattle.task_core.specs.declared.task.Poll.TheVariants.{Ready, Pending}
use Rattle.task_core.specs.Context.{Context, earliest}
use Rattle.task_core.specs.Visit.{Visit, Ending, ends, goes_on, is_short_of_memory}
use Rattle.transfer_client.specs.Machine.{Rules, staying}

-- the chunk is of this session
abbrev pub is_of : ℕ → Option ℕ → Bool
is_of session None = false
is_of session (Some s) = s == session

abbrev pub word_in : ℕ → Chunk → Option Word
word_in session c = if is_of session c.session then word_of c else None

-- what a message says in a session: nothing where it is malformed, is of another session or of none, or has a type that no
-- chunk has
abbrev pub heard_in : {E : Type 0} → ℕ → Result Chunk E → Option Word
heard_in session (Ok c) = word_in session c
heard_in session (Err _) = None

abbrev pub heard_word : ℕ → List ℕ → Option Word
heard_word session text = heard_in session (chunk_of text)

-- where a transfer stands then, what it says and does, in order, and the mail that it leaves
pub record Taken (A : Type 0) : Type 0 where
  pub after : A
  pub sayings : List Saying
  pub left : List Mail

module _ {A : Type 0} where
  -- a step, and then all of this
  abbrev pub behind : List Saying → Taken A → Taken A
  behind sayings t = record t { sayings = sayings ++ t.sayings }

module _ {A : Type 0} (k : Rules A) (session : ℕ) where
  abbrev pub hears_any : A → Option Word → ℕ → Stepped A
  hears_any t None now = staying t
  hears_any t (Some w) now = k.hears t w now

  abbrev pub takes : A → Mail → ℕ → Stepped A
  takes t (Text text) now = hears_any t (heard_word session text) now
  takes t (Closed status) now = k.closes t status

  -- mail is taken until none is left, or the transfer has ended
  abbrev pub takes_all : A → List Mail → ℕ → Taken A
  takes_all t [] now = record { after = t; sayings = []; left = [] }
  takes_all t (m ∷ mail) now =
      if is_some (k.end_of t) then record { after = t; sayings = []; left = m ∷ mail }
      else behind (takes t m now).sayings (takes_all (takes t m now).after mail now)

  -- the time, behind the mail
  abbrev pub ticked : Taken A → ℕ → Taken A
  ticked t now = record { after = (k.ticks t.after now).after; sayings = t.sayings ++ (k.ticks t.after now).sayings; left = t.left }

  -- THE DEFINITION OF A POLL
  abbrev pub polled : A → List Mail → ℕ → Taken A
  polled t mail now = behind (k.opens t now).sayings (ticked (takes_all (k.opens t now).after mail now) now)

-- how the poll of a transfer comes out that has ended so, or hasn't
abbrev pub ending_by : Option Status → Ending
ending_by None = goes_on
ending_by (Some status) = ends status

module _ {A : Type 0} (k : Rules A) (session : ℕ) (old : A) (visit : Visit) (new : A) where
  -- It is what the poll of this mail at this moment gives. It ends where the transfer ends; else it waits for mail and for
  -- the transfer's deadline.
  pub record IsWhole : Type 0 where
    pub after : new ≡ (polled k session old visit.mail visit.moment).after
    pub said : visit.said ≡ outs_of session (polled k session old visit.mail visit.moment).sayings
    pub left : visit.left ≡ (polled k session old visit.mail visit.moment).left
    pub ending : visit.ending ≡ ending_by (k.end_of new)
    pub waits : k.end_of new ≡ None → visit.waits_mail ≡ true
    pub alarm : k.end_of new ≡ None → visit.alarm ≡ k.deadline_of new

  -- where memory was wanting the transfer is as it was
  abbrev pub IsPolledBy : Ending → Type 0
  IsPolledBy is_short_of_memory = new ≡ old
  IsPolledBy goes_on = IsWhole
  IsPolledBy (ends status) = IsWhole

  abbrev pub IsPolled : Type 0
  IsPolled = IsPolledBy visit.ending

-- until when a poll sleeps that has asked for nothing before
abbrev pub alarm_with : Option ℕ → Option ℕ → Option ℕ
alarm_with before None = before
alarm_with before (Some at) = earliest before at

-- a transfer that has ended so is ready; one that hasn't waits for mail, and for its deadline, if it has one
abbrev pub WaitsFor : Option Status → Option ℕ → Context → Poll → Context → Type 0
WaitsFor (Some status) deadline before poll after = (poll ≡ Ready status) × (after ≡ before)
WaitsFor None deadline before poll after =
    (poll ≡ Pending) × (after ≡ record before { waits_mail = true; alarm = alarm_with before.alarm deadline })
