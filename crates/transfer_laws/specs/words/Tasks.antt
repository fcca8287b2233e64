-- What the tasks of a client say over all their polls.
use Rattle.std.specs.Prelude.{◌≡◌, ◌⊎◌, ℕ, ◌<◌, ◌≤◌, ◌^◌, false, List, [], ◌∷◌, ◌++◌, drop, length, map, Option, Some, None}
use Rattle.std.specs.List.{AllByRecursion}
use Rattle.rpc_ids.specs.declared.Status.TheVariants.{Okay}
use Rattle.task_core.specs.declared.mail.Mail.{Mail}
use Rattle.task_core.specs.declared.mail.Mail.TheVariants.{Text, Closed}
use Rattle.transfer_base.specs.declared.limits.TheConstants.{MAX_CHUNK, MAX_RESOURCE, MAX_WINDOW}
use Rattle.transfer_words.specs.Word.{Word, start, start_ack, data_comes, completion}
use Rattle.transfer_words.specs.Saying.{Saying, says, begins, appends, commits}
use Rattle.transfer_resume.specs.Uploads.{joined_bytes, with_deed}
use Rattle.transfer_client.specs.Machine.{Rules}
use Rattle.transfer_client.specs.Polling.{heard_word, polled}
use Rattle.transfer_client.specs.Read.{Download, new_download, read_rules}
use Rattle.transfer_client.specs.Write.{Upload, new_upload, write_rules}
use Rattle.transfer_laws.specs.words.Said.{FitsSaying, IsPieceOf, SaysOkayWhere, SaysPiecesOf}

-- a poll: what came since the one before, and its moment
pub record Poll : Type 0 where
  pub mail : List Mail
  pub moment : ℕ

module _ {A : Type 0} (k : Rules A) (session : ℕ) where
  -- where a task stands behind its polls, of which the newest stands first
  abbrev pub stood : A → List Poll → A
  stood t [] = t
  stood t (p ∷ ps) = (polled k session (stood t ps) p.mail p.moment).after

  -- all that it has said and done in them, in order
  abbrev pub said_over : A → List Poll → List Saying
  said_over t [] = []
  said_over t (p ∷ ps) = said_over t ps ++ (polled k session (stood t ps) p.mail p.moment).sayings

-- the words heard in this mail
abbrev pub WordsIn : ℕ → (Word → Type 0) → List Mail → Type 0
WordsIn session P [] = Unit {0}
WordsIn session P (Text text ∷ mail) = ((w : Word) → heard_word session text ≡ Some w → P w) × WordsIn session P mail
WordsIn session P (Closed status ∷ mail) = WordsIn session P mail

-- the word was heard in this mail, or in one of these polls
abbrev pub HeardBy : ℕ → Word → List Mail → Type 0
HeardBy session w [] = ⊥
HeardBy session w (Text text ∷ mail) = (heard_word session text ≡ Some w) ⊎ HeardBy session w mail
HeardBy session w (Closed status ∷ mail) = HeardBy session w mail

abbrev pub HeardIn : ℕ → Word → List Poll → Type 0
HeardIn session w [] = ⊥
HeardIn session w (p ∷ ps) = HeardBy session w p.mail ⊎ HeardIn session w ps

-- a START that is said is for this resource, from this offset
abbrev pub AsksFor : ℕ → ℕ → Saying → Type 0
AsksFor resource offset (says (start r o)) = (r ≡ resource) × (o ≡ offset)
AsksFor resource offset _ = Unit {0}

abbrev pub SaysNoData : Saying → Type 0
SaysNoData (says (data_comes p)) = ⊥
SaysNoData _ = Unit {0}

-- What a write of a resource from an offset has said in its polls, and where it stands.
pub record Writes (session resource : ℕ) (bytes : List ℕ) (asked : ℕ) (ps : List Poll) (u : Upload) (said : List Saying) : Type 0 where
  pub resource_is : u.resource ≡ resource
  pub bytes_are : u.bytes ≡ bytes
  pub asked_is : u.asked ≡ asked
  -- all that it has said fits chunks,
  pub fits : AllByRecursion FitsSaying said
  -- asks for that,
  pub asks : AllByRecursion (AsksFor resource asked) said
  -- is data of the resource,
  pub honest : AllByRecursion (SaysPiecesOf (Some bytes)) said
  -- and never the end OK
  pub no_end : AllByRecursion (SaysOkayWhere false) said
  -- it has said no data before an offset was agreed, and that is one that it heard
  pub before : u.agreed ≡ None → AllByRecursion SaysNoData said
  pub agreed : (offset : ℕ) → u.agreed ≡ Some offset → (offset ≤ asked) × HeardIn session (start_ack offset) ps
  -- it has ended OK only where it heard that
  pub ended : write_rules.end_of u ≡ Some Okay → HeardIn session (completion Okay) ps

abbrev pub WritesAreHonest : Type 0
WritesAreHonest =
    (session resource : ℕ) (bytes : List ℕ) (asked : ℕ) (ps : List Poll) → resource < 2 ^ 32 → length bytes ≤ MAX_RESOURCE → asked ≤ length bytes
    → Writes session resource bytes asked ps (stood write_rules session (new_upload resource bytes asked) ps) (said_over write_rules session (new_upload resource bytes asked) ps)

-- the store actions among these
abbrev pub deeds_said : List Saying → List Saying
deeds_said [] = []
deeds_said (s ∷ ss) = with_deed s (deeds_said ss)

-- The resource was made whole, from this offset on: the work begins there, bytes are added, and all of it is committed.
pub record MakesWhole (resource offset : ℕ) (bytes : List ℕ) (deeds : List Saying) : Type 0 where
  pub added : List (List ℕ)
  pub deeds_are : deeds ≡ begins resource offset ∷ (map appends added ++ commits ∷ [])
  pub bytes_are : joined_bytes added ≡ bytes

-- The whole content was read from the offset that was agreed.
pub record HasRead (resource : ℕ) (content : Option (List ℕ)) (agreed : Option ℕ) (said : List Saying) : Type 0 where
  pub offset : ℕ
  pub bytes : List ℕ
  pub agreed_is : agreed ≡ Some offset
  pub content_is : content ≡ Some bytes
  pub within : offset ≤ length bytes
  pub size : length bytes ≤ MAX_RESOURCE
  pub whole : MakesWhole resource offset (drop offset bytes) (deeds_said said)

-- it has told the end OK
abbrev pub HasToldOkay : List Saying → Type 0
HasToldOkay [] = ⊥
HasToldOkay (s ∷ ss) = (s ≡ says (completion Okay)) ⊎ HasToldOkay ss

-- a word that a read hears: data is of the content, and the end OK is told only where this is so
abbrev pub HearsOf : Option (List ℕ) → Type 0 → Word → Type 0
HearsOf content told (data_comes p) = IsPieceOf content p
HearsOf content told (completion status) = status ≡ Okay → told
HearsOf content told _ = Unit {0}

-- What a read of a resource has said, and where it stands.
pub record Reads (resource asked : ℕ) (content : Option (List ℕ)) (d : Download) (said : List Saying) : Type 0 where
  pub resource_is : d.resource ≡ resource
  pub fits : AllByRecursion FitsSaying said
  pub asks : AllByRecursion (AsksFor resource asked) said
  -- it has ended OK only where it has made the content whole in its store
  pub ended : read_rules.end_of d ≡ Some Okay → HasRead resource content d.agreed said

module _ (session : ℕ) (content : Option (List ℕ)) (t : Download) where
  -- In each poll data that is heard is of the content, and the end OK is told only where the read has told it in a poll
  -- before.
  abbrev pub HearsContent : List Poll → Type 0
  HearsContent [] = Unit {0}
  HearsContent (p ∷ ps) = WordsIn session (HearsOf content (HasToldOkay (said_over read_rules session t ps))) p.mail × HearsContent ps

abbrev pub ReadsMakeWhole : Type 0
ReadsMakeWhole =
    (session resource asked window chunk : ℕ) (content : Option (List ℕ)) (ps : List Poll) → resource < 2 ^ 32 → asked ≤ MAX_RESOURCE → window ≤ MAX_WINDOW → chunk ≤ MAX_CHUNK
    → HearsContent session content (new_download resource asked window chunk) ps
    → Reads resource asked content (stood read_rules session (new_download resource asked window chunk) ps) (said_over read_rules session (new_download resource asked window chunk) ps)
