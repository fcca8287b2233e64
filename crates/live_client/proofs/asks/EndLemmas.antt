-- What the log of a task that transfers tells of its end.
use Rattle.std.proofs.Common.{◌≡◌, ◌≢◌, ◌⊎◌, ℕ, ◌+◌, ◌≤◌, Bool, true, false, List, [], ◌∷◌, ◌++◌, flat_map, Option, Some, unwrap_or, inl, inr, refl, ap, sym, ◌∙◌, subst}
use Rattle.std.proofs.lemmas.List.Concat.{flat_map-append}
use Rattle.rpc_ids.specs.declared.status.Status.{Status}
use Rattle.rpc_ids.specs.declared.status.Status.TheVariants.{Okay, DeadlineExceeded}
use Rattle.rpc_handlers.specs.declared.event.Event.{Event}
use Rattle.rpc_handlers.specs.declared.event.Event.TheVariants.{Message, Ended}
use Rattle.task_core.specs.declared.mail.Mail.{Mail}
use Rattle.task_core.specs.Visit.{Ending, Visit, ends, goes_on, is_short_of_memory}
use Rattle.task_core.specs.Log.{Step, mail_of as mail_left}
use Rattle.transfer_words.specs.Saying.{Saying, outs_of}
use Rattle.transfer_client.specs.declared.stages.Reading.{Reading}
use Rattle.transfer_client.specs.declared.stages.Reading.TheVariants as reading
use Rattle.transfer_client.specs.declared.stages.Writing.{Writing}
use Rattle.transfer_client.specs.declared.stages.Writing.TheVariants as writing
use Rattle.transfer_client.specs.Machine.{Rules}
use Rattle.transfer_client.specs.Polling as polling
use Rattle.transfer_client.specs.Read.{end_at, new_download, read_offset, read_rules}
use Rattle.transfer_client.specs.Write.{end_at as write_end, new_upload, write_rules}
use Rattle.transfer_client.specs.Tasks.{PollsRead, PollsWrite, Reads, Writes}
use Rattle.live_client.specs.asks.Ends.{EndsCall, IsTold, TellsEnd, piece_in, pieces_in}
use Rattle.live_client.specs.asks.Tasks.{AreWholeBefore, Given, TaskRan, WantedIf, mail_in, mail_of}
use Rattle.live_client.proofs.asks.TellLemmas.{whole_before}
use Rattle.live_client.proofs.asks.WalkLemmas.{HadMemory, bare, had_ended, had_whole, stood}
use Rattle.live_client.proofs.asks.DeadlineLemmas.{AnyMail, IsDue, ReadsSo, ReadsAt, TellsDeadline, Within, WritesAt, WritesSo, any_front, reads_keep, writes_keep}
use Rattle.live_client.proofs.asks.FetchLemmas.{At, FetchesSo, IsMade, TellsOkay, Whole, came, fetches_keep, piece_of, whole_later}

-- a poll that had memory is a whole one
whole_by : {A : Type 0} (k : Rules A) (session : ℕ) (old : A) (visit : Visit) (new : A) (e : Ending) → e ≢ is_short_of_memory → polling.IsPolledBy k session old visit new e → polling.IsWhole k session old visit new
whole_by k session old visit new (ends status) other is = is
whole_by k session old visit new goes_on other is = is
whole_by k session old visit new is_short_of_memory other is = absurd (other refl)

pub reads_whole : (before : Reads) (visit : Visit) (after : Reads) → PollsRead before visit after → visit.ending ≢ is_short_of_memory
    → (after.session ≡ before.session) × polling.IsWhole read_rules before.session before.download visit after.download
reads_whole before visit after polls other = (polls.session, whole_by read_rules before.session before.download visit after.download visit.ending other polls.polled)

pub writes_whole : (before : Writes) (visit : Visit) (after : Writes) → PollsWrite before visit after → visit.ending ≢ is_short_of_memory
    → (after.session ≡ before.session) × polling.IsWhole write_rules before.session before.upload visit after.upload
writes_whole before visit after polls other = (polls.session, whole_by write_rules before.session before.upload visit after.upload visit.ending other polls.polled)

before_of : {T : Type 0} (wanted : Bool) (log : List (Step T)) → WantedIf wanted log → AreWholeBefore log
before_of false log so = whole_before log so
before_of true log so = so

-- ---- what mail tells, the events told

mail_told : (events : List Event) → AnyMail (TellsDeadline 1) (flat_map mail_of events) → IsTold (TellsEnd 1 DeadlineExceeded) events ⊎ IsTold (EndsCall DeadlineExceeded) events
mail_told [] told = absurd told
mail_told (Message text ∷ events) (inl is) = inl (inl is)
mail_told (Message text ∷ events) (inr later) = further (mail_told events later)
  where
    further : IsTold (TellsEnd 1 DeadlineExceeded) events ⊎ IsTold (EndsCall DeadlineExceeded) events → IsTold (TellsEnd 1 DeadlineExceeded) (Message text ∷ events) ⊎ IsTold (EndsCall DeadlineExceeded) (Message text ∷ events)
    further (inl is) = inl (inr is)
    further (inr is) = inr (inr is)
mail_told (Ended end ∷ events) (inl is) = inr (inl is)
mail_told (Ended end ∷ events) (inr later) = further (mail_told events later)
  where
    further : IsTold (TellsEnd 1 DeadlineExceeded) events ⊎ IsTold (EndsCall DeadlineExceeded) events → IsTold (TellsEnd 1 DeadlineExceeded) (Ended end ∷ events) ⊎ IsTold (EndsCall DeadlineExceeded) (Ended end ∷ events)
    further (inl is) = inl (inr is)
    further (inr is) = inr (inr is)
mail_told (event ∷ events) told = further (mail_told events told)
  where
    further : IsTold (TellsEnd 1 DeadlineExceeded) events ⊎ IsTold (EndsCall DeadlineExceeded) events → IsTold (TellsEnd 1 DeadlineExceeded) (event ∷ events) ⊎ IsTold (EndsCall DeadlineExceeded) (event ∷ events)
    further (inl is) = inl (inr is)
    further (inr is) = inr (inr is)

okay_told : (events : List Event) → AnyMail (TellsOkay 1) (flat_map mail_of events) → IsTold (TellsEnd 1 Okay) events
okay_told [] told = absurd told
okay_told (Message text ∷ events) (inl is) = inl is
okay_told (Message text ∷ events) (inr later) = inr (okay_told events later)
okay_told (Ended end ∷ events) (inl is) = absurd is
okay_told (Ended end ∷ events) (inr later) = inr (okay_told events later)
okay_told (event ∷ events) told = inr (okay_told events told)

came-events : (events : List Event) → came 1 (flat_map mail_of events) ≡ pieces_in 1 events
came-events [] = refl
came-events (Message text ∷ events) = ap (λ ps. piece_in 1 (Message text) ++ ps) (came-events events)
came-events (Ended end ∷ events) = came-events events
came-events (event ∷ events) = came-events events

module _ (start end : ℕ) (events : List Event) (outs : List Given) (wanted : Bool) where
  -- a deadline that is due was told in the events, or its time has passed
  due_told : (taken left mails : List Mail) → taken ++ left ≡ mails → mails ≡ flat_map mail_of events → IsDue 1 start end taken
      → (start + 8000 ≤ end) ⊎ (IsTold (TellsEnd 1 DeadlineExceeded) events ⊎ IsTold (EndsCall DeadlineExceeded) events)
  due_told taken left mails split is (inl long) = inl long
  due_told taken left mails split is (inr told) = inr (mail_told events (subst (AnyMail (TellsDeadline 1)) (split ∙ is) (any_front (TellsDeadline 1) taken left told)))

  read_over : (now : ℕ) (taken : List Mail) (stage : Reading) → end_at stage ≡ Some DeadlineExceeded → ReadsAt 1 start end now taken stage → IsDue 1 start end taken
  read_over now taken reading.Unasked over is = absurd (cc over)
  read_over now taken (reading.Asking w) over is = absurd (cc over)
  read_over now taken (reading.Receiving r) over is = absurd (cc over)
  read_over now taken (reading.Over status) over is = is (cc over)

  write_over : (now : ℕ) (taken : List Mail) (stage : Writing) → write_end stage ≡ Some DeadlineExceeded → WritesAt 1 start end now taken stage → IsDue 1 start end taken
  write_over now taken writing.Unasked over is = absurd (cc over)
  write_over now taken (writing.Asking w) over is = absurd (cc over)
  write_over now taken (writing.Confirming w) over is = absurd (cc over)
  write_over now taken (writing.Sending s) over is = absurd (cc over)
  write_over now taken (writing.Over status) over is = is (cc over)

  -- a read that ended for its deadline
  pub read_deadline : (resource offset window chunk : ℕ) (now : Reads) (ended : Option Status)
      → TaskRan PollsRead (record { session = 1; download = new_download resource offset window chunk }) start end wanted events outs now ended → ended ≡ Some DeadlineExceeded
      → (start + 8000 ≤ end) ⊎ (IsTold (TellsEnd 1 DeadlineExceeded) events ⊎ IsTold (EndsCall DeadlineExceeded) events)
  read_deadline resource offset window chunk now ended ran is =
      let task : Reads = record { session = 1; download = new_download resource offset window chunk } in
      let had : HadMemory ran.log = had_ended task PollsRead ran.log DeadlineExceeded ran.alone ran.turns (before_of wanted ran.log ran.whole) (ran.result ∙ is) in
      let s = stood read_rules 1 (ReadsSo 1 start end) (Within 1 start end) PollsRead (λ t. t.session) (λ t. t.download) reads_whole (reads_keep 1 start end) start end (λ m low high. (low, high))
      task refl refl (record { stands = tt }) ran.log ran.alone ran.turns ran.between had in
      due_told s.taken (mail_left ran.log 0) (mail_in ran.log) s.mail ran.mail
      (read_over _ s.taken s.now.download.stage (sym s.result ∙ (ran.result ∙ is)) s.holds.stands)

  pub write_deadline : (resource : ℕ) (bytes : List ℕ) (offset : ℕ) (now : Writes) (ended : Option Status)
      → TaskRan PollsWrite (record { session = 1; upload = new_upload resource bytes offset }) start end wanted events outs now ended → ended ≡ Some DeadlineExceeded
      → (start + 8000 ≤ end) ⊎ (IsTold (TellsEnd 1 DeadlineExceeded) events ⊎ IsTold (EndsCall DeadlineExceeded) events)
  write_deadline resource bytes offset now ended ran is =
      let task : Writes = record { session = 1; upload = new_upload resource bytes offset } in
      let had : HadMemory ran.log = had_ended task PollsWrite ran.log DeadlineExceeded ran.alone ran.turns (before_of wanted ran.log ran.whole) (ran.result ∙ is) in
      let s = stood write_rules 1 (WritesSo 1 start end) (Within 1 start end) PollsWrite (λ t. t.session) (λ t. t.upload) writes_whole (writes_keep 1 start end) start end (λ m low high. (low, high))
      task refl refl (record { stands = tt }) ran.log ran.alone ran.turns ran.between had in
      due_told s.taken (mail_left ran.log 0) (mail_in ran.log) s.mail ran.mail
      (write_over _ s.taken s.now.upload.stage (sym s.result ∙ (ran.result ∙ is)) s.holds.stands)

  -- ---- a read that ended with OK

  -- it has made the resource whole
  pub record HasMade (resource from : ℕ) : Type 0 where
    pub said : List Saying
    pub outs_are : bare outs ≡ outs_of 1 said
    pub whole : Whole 1 resource (pieces_in 1 events) from said

  made_at : (resource : ℕ) (taken : List Mail) (agreed : Option ℕ) (stage : Reading) (said : List Saying) → end_at stage ≡ Some Okay → At 1 resource taken agreed stage said → IsMade 1 resource taken agreed said
  made_at resource taken agreed reading.Unasked said over is = absurd (cc over)
  made_at resource taken agreed (reading.Asking w) said over is = absurd (cc over)
  made_at resource taken agreed (reading.Receiving r) said over is = absurd (cc over)
  made_at resource taken agreed (reading.Over status) said over is = is (cc over)

  -- the pieces that came with the mail that was taken are among those of the events
  made_of : (resource : ℕ) (taken left mails : List Mail) (agreed : Option ℕ) (asked from : ℕ) (said : List Saying) → taken ++ left ≡ mails → mails ≡ flat_map mail_of events → bare outs ≡ outs_of 1 said
      → from ≡ unwrap_or agreed asked → IsMade 1 resource taken agreed said → HasMade resource from ⊎ IsTold (TellsEnd 1 Okay) events
  made_of resource taken left mails agreed asked from said split is says from_is (inl m) =
      let pieces : came 1 taken ++ came 1 left ≡ pieces_in 1 events = sym (flat_map-append (piece_of 1) taken left) ∙ (ap (came 1) (split ∙ is) ∙ came-events events) in
      inl (subst (HasMade resource) (sym (from_is ∙ ap (λ o. unwrap_or o asked) m.agreed_is)) (record {
        said = said;
        outs_are = says;
        whole = subst (λ ps. Whole 1 resource ps m.offset said) pieces (whole_later 1 resource (came 1 taken) m.offset said (came 1 left) m.whole);
      }))
  made_of resource taken left mails agreed asked from said split is says from_is (inr told) =
      inr (okay_told events (subst (AnyMail (TellsOkay 1)) (split ∙ is) (any_front (TellsOkay 1) taken left told)))

  pub read_okay : (resource offset window chunk : ℕ) (now : Reads) (ended : Option Status)
      → TaskRan PollsRead (record { session = 1; download = new_download resource offset window chunk }) start end false events outs now ended → ended ≡ Some Okay
      → HasMade resource (read_offset now.download) ⊎ IsTold (TellsEnd 1 Okay) events
  read_okay resource offset window chunk now ended ran is =
      let task : Reads = record { session = 1; download = new_download resource offset window chunk } in
      let s = stood read_rules 1 (FetchesSo 1 resource) (λ _. Unit {0}) PollsRead (λ t. t.session) (λ t. t.download) reads_whole (fetches_keep 1 resource (λ _. Unit {0})) start end (λ m low high. tt)
      task refl refl (record { resource_is = refl; stands = refl }) ran.log ran.alone ran.turns ran.between (had_whole task PollsRead ran.log ran.turns ran.whole) in
      let now_is : s.now ≡ now = cc (s.is, ran.last) in
      made_of resource s.taken (mail_left ran.log 0) (mail_in ran.log) s.now.download.agreed s.now.download.asked (read_offset now.download) s.said s.mail ran.mail (sym (ap bare ran.said) ∙ s.says)
      (ap (λ (t : Reads). read_offset t.download) (sym now_is)) (made_at resource s.taken s.now.download.agreed s.now.download.stage s.said (sym s.result ∙ (ran.result ∙ is)) s.holds.stands)
