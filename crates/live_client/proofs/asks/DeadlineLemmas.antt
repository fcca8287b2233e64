-- A task ends for its deadline only once four timeouts have passed, or where it was told so.
use Rattle.std.proofs.Common.{◌≡◌, ◌≢◌, ◌⊎◌, ℕ, ◌+◌, ◌*◌, ◌==◌, ◌≤◌, ◌&&◌, not, nat_lt, nat_le, if◌then◌else◌, Bool, true, false, List, [], ◌∷◌, ◌++◌, length, Option, Some, None, inl, inr, refl, ap, sym, ◌∙◌, subst, arith}
use Rattle.std.proofs.lemmas.Bool.{eqb-true}
use Rattle.std.proofs.lemmas.Bool.Decides.{nat_tests}
use Rattle.rpc_ids.specs.declared.status.Status.{Status}
use Rattle.rpc_ids.specs.declared.status.Status.TheVariants.{Okay, Internal, OutOfRange, DeadlineExceeded, Aborted}
use Rattle.task_core.specs.declared.mail.Mail.{Mail}
use Rattle.task_core.specs.declared.mail.Mail.TheVariants.{Text, Closed}
use Rattle.transfer_base.specs.declared.Ask.{Ask}
use Rattle.transfer_base.specs.declared.Piece.{Piece}
use Rattle.transfer_base.specs.declared.limits.TheConstants.{MAX_RESOURCE, TIMEOUT}
use Rattle.transfer_receiver.specs.declared.receiver.TheConstants.{MAX_RESENDS}
use Rattle.transfer_receiver.specs.declared.phase.Phase.{Phase}
use Rattle.transfer_receiver.specs.declared.phase.Phase.TheVariants as phase
use Rattle.transfer_receiver.specs.Phase.{is_open, is_recovering}
use Rattle.transfer_receiver.specs.Receiver.{Receiver}
use Rattle.transfer_receiver.specs.PieceRules.{PieceOutcome, active_at, asking_again, going_on, is_half_used, keeping, open_outcome, taking}
use Rattle.transfer_receiver.specs.Answers.{is_okay}
use Rattle.transfer_receiver.specs.Run.{outcome_of}
use Rattle.transfer_receiver.specs.TickRules.{resending_ask, resending_end, tick_outcome, timeout_outcome}
use Rattle.transfer_words.specs.Word.{Word, start, start_ack, confirmation, parameters, data_comes, completion, completion_ack}
use Rattle.transfer_words.specs.Saying.{Saying}
use Rattle.transfer_client.specs.declared.stages.Wait.{Wait}
use Rattle.transfer_client.specs.declared.stages.Reading.{Reading}
use Rattle.transfer_client.specs.declared.stages.Reading.TheVariants as reading
use Rattle.transfer_client.specs.Wait as waiting
use Rattle.transfer_client.specs.Polling as polling
use Rattle.transfer_client.specs.Read as read
use Rattle.transfer_client.specs.Write as write
use Rattle.transfer_client.specs.declared.stages.Writing.{Writing}
use Rattle.transfer_client.specs.declared.stages.Writing.TheVariants as writing
use Rattle.transfer_sender.specs.declared.sender.TheConstants.{MAX_TIMEOUTS}
use Rattle.transfer_sender.specs.Sender.{Sender, end_by_timeouts, new_sender, touched as sent_touched}
use Rattle.transfer_sender.specs.Answer.{is_past_end}
use Rattle.live_client.proofs.asks.WalkLemmas.{Keeps}

-- this mail tells a task of the session that the deadline is exceeded
abbrev pub TellsDeadline : ℕ → Mail → Type 0
TellsDeadline session (Text text) = polling.heard_word session text ≡ Some (completion DeadlineExceeded)
TellsDeadline session (Closed status) = status ≡ DeadlineExceeded

abbrev pub AnyMail : (Mail → Type 0) → List Mail → Type 0
AnyMail P [] = ⊥
AnyMail P (m ∷ ms) = P m ⊎ AnyMail P ms

pub any_front : (P : Mail → Type 0) (xs ys : List Mail) → AnyMail P xs → AnyMail P (xs ++ ys)
any_front P [] ys is = absurd is
any_front P (x ∷ xs) ys (inl is) = inl is
any_front P (x ∷ xs) ys (inr is) = inr (any_front P xs ys is)

pub any_back : (P : Mail → Type 0) (xs ys : List Mail) → AnyMail P ys → AnyMail P (xs ++ ys)
any_back P [] ys is = is
any_back P (x ∷ xs) ys is = inr (any_back P xs ys is)

late_is : (n m : ℕ) → nat_le n m ≡ true → n ≤ m
late_is n m is = grind (arith, nat_tests)

no_resends : (n : ℕ) → nat_lt n MAX_RESENDS ≡ false → 3 ≤ n
no_resends n is = grind (arith, nat_tests)

by_call_is : (status : Status) (b : Bool) → (if b then Aborted else status) ≡ DeadlineExceeded → status ≡ DeadlineExceeded
by_call_is status true is = absurd cc
by_call_is status false is = is

module _ (session from upto : ℕ) where
  abbrev pub Within : ℕ → Type 0
  Within now = (from ≤ now) × (now ≤ upto)

  -- the end is told, or the time for it has passed
  abbrev pub IsDue : List Mail → Type 0
  IsDue taken = (from + 8000 ≤ upto) ⊎ AnyMail (TellsDeadline session) taken

  abbrev pub IsOver : List Mail → Status → Type 0
  IsOver taken status = status ≡ DeadlineExceeded → IsDue taken

  due_more : (taken : List Mail) (mail : Mail) → IsDue taken → IsDue (taken ++ mail ∷ [])
  due_more taken mail (inl long) = inl long
  due_more taken mail (inr told) = inr (any_front (TellsDeadline session) taken (mail ∷ []) told)

  due_told : (taken : List Mail) (mail : Mail) → TellsDeadline session mail → IsDue (taken ++ mail ∷ [])
  due_told taken mail told = inr (any_back (TellsDeadline session) taken (mail ∷ []) (inl told))

  -- so many timeouts in a row have passed by a moment
  pub record Since (active timeouts now : ℕ) : Type 0 where
    pub early : from + 2000 * timeouts ≤ active
    pub late : active ≤ now

  pub since_now : (now : ℕ) → Within now → Since now 0 now
  since_now now within = record { early = omega (arith, within.0); late = omega arith }

  -- something came
  pub since_touched : (active timeouts now : ℕ) → Since active timeouts now → Since now timeouts now
  since_touched active timeouts now s = record { early = omega (arith, s.early, s.late); late = omega arith }

  pub since_none : (active timeouts now : ℕ) → Since active timeouts now → Since now 0 now
  since_none active timeouts now s = record { early = omega (arith, s.early, s.late); late = omega arith }

  pub since_again : (active timeouts now : ℕ) → active + TIMEOUT ≤ now → Since active timeouts now → Since now (timeouts + 1) now
  since_again active timeouts now long s = let t : TIMEOUT ≡ 2000 = refl in record { early = omega (arith, s.early, long, t); late = omega arith }

  pub since_over : (active timeouts now : ℕ) (taken : List Mail) → Within now → active + TIMEOUT ≤ now → 3 ≤ timeouts → Since active timeouts now → IsDue taken
  since_over active timeouts now taken within long many s = let t : TIMEOUT ≡ 2000 = refl in inl (omega (arith, s.early, long, t, within.1, many))

  pub since_later : (active timeouts now later : ℕ) → now ≤ later → Since active timeouts now → Since active timeouts later
  since_later active timeouts now later on s = record { early = s.early; late = omega (arith, s.late, on) }

  -- ---- a read

  -- its own end isn't that of the deadline
  abbrev pub OwnEnd : Phase → Type 0
  OwnEnd phase.Receiving = Unit {0}
  OwnEnd phase.Recovering = Unit {0}
  OwnEnd (phase.Completing status) = status ≢ DeadlineExceeded
  OwnEnd phase.Ended = Unit {0}

  pub record Receives (now : ℕ) (r : Receiver) : Type 0 where
    pub since : Since r.active r.resends now
    pub own : OwnEnd r.phase

  abbrev pub ReadsAt : ℕ → List Mail → Reading → Type 0
  ReadsAt now taken reading.Unasked = Unit {0}
  ReadsAt now taken (reading.Asking w) = Since w.active w.resends now
  ReadsAt now taken (reading.Receiving r) = Receives now r
  ReadsAt now taken (reading.Over status) = IsOver taken status

  pub record ReadsSo (now : ℕ) (d : read.Download) (taken : List Mail) (said : List Saying) : Type 0 where
    pub stands : ReadsAt now taken d.stage

  read_later : (now later : ℕ) (taken : List Mail) (stage : Reading) → now ≤ later → ReadsAt now taken stage → ReadsAt later taken stage
  read_later now later taken reading.Unasked on is = tt
  read_later now later taken (reading.Asking w) on is = since_later w.active w.resends now later on is
  read_later now later taken (reading.Receiving r) on is = record { since = since_later r.active r.resends now later on is.since; own = is.own }
  read_later now later taken (reading.Over status) on is = is

  read_more : (now : ℕ) (taken : List Mail) (mail : Mail) (stage : Reading) → ReadsAt now taken stage → ReadsAt now (taken ++ mail ∷ []) stage
  read_more now taken mail reading.Unasked is = tt
  read_more now taken mail (reading.Asking w) is = is
  read_more now taken mail (reading.Receiving r) is = is
  read_more now taken mail (reading.Over status) is = λ same. due_more taken mail (is same)

  read_opens : (now : ℕ) (taken : List Mail) (d : read.Download) (stage : Reading) → Within now → d.stage ≡ stage → ReadsAt now taken stage → ReadsAt now taken (read.opens_at d stage now).after.stage
  read_opens now taken d reading.Unasked within e is = since_now now within
  read_opens now taken d (reading.Asking w) within e is = subst (ReadsAt now taken) (sym e) is
  read_opens now taken d (reading.Receiving r) within e is = subst (ReadsAt now taken) (sym e) is
  read_opens now taken d (reading.Over status) within e is = subst (ReadsAt now taken) (sym e) is

  -- a piece that comes
  module _ (now : ℕ) where
    abbrev Goes : PieceOutcome → Type 0
    Goes o = Receives now o.after

    ended : (r : Receiver) (status : Status) → status ≢ DeadlineExceeded → Receives now r → Receives now (record r { phase = phase.Completing status; resends = 0 })
    ended r status other is = record { since = record { early = omega (arith, is.since.early); late = is.since.late }; own = other }

    kept : (r : Receiver) (end : ℕ) → Receives now r → Receives now (keeping r end)
    kept r end is = record { since = record { early = omega (arith, is.since.early); late = is.since.late }; own = tt }

    again : (r : Receiver) (b : Bool) → is_recovering r.phase ≡ b → Receives now r → Goes (asking_again r)
    again r true e is = rw e is
    again r false e is = rw e (record { since = is.since; own = tt })

    half : (r : Receiver) (b : Bool) → is_half_used r ≡ b → Receives now r → Goes (going_on r)
    half r true e is = rw e (record { since = is.since; own = is.own })
    half r false e is = rw e is

    takes : (r : Receiver) (end : ℕ) (last b d : Bool) → nat_lt r.window_end end ≡ b → nat_lt MAX_RESOURCE end ≡ d → Receives now r → Goes (taking r end last)
    takes r end last true d past high is = rw past (ended r Internal (λ same. absurd cc) is)
    takes r end last false true past high is = rw (past, high) (ended r OutOfRange (λ same. absurd cc) is)
    takes r end true false false past high is = rw (past, high) (ended (keeping r end) Okay (λ same. absurd cc) (kept r end is))
    takes r end false false false past high is = rw (past, high) (half (keeping r end) (is_half_used (keeping r end)) refl (kept r end is))

    opened : (r : Receiver) (offset size : ℕ) (last a b c : Bool) → nat_lt offset r.next ≡ a → ((size == 0) && not last) ≡ b → nat_lt r.next offset ≡ c → Receives now r → Goes (open_outcome r offset size last)
    opened r offset size last true b c e f g is = rw e is
    opened r offset size last false true c e f g is = rw (e, f) is
    opened r offset size last false false true e f g is = rw (e, f, g) (again r (is_recovering r.phase) refl is)
    opened r offset size last false false false e f g is =
        rw (e, f, g) (takes r (offset + size) last (nat_lt r.window_end (offset + size)) (nat_lt MAX_RESOURCE (offset + size)) refl refl is)

    piece : (r : Receiver) (p : Piece) (b : Bool) → is_open r.phase ≡ b → Receives now r → Goes (outcome_of r p now)
    piece r p b e is = at b e
      where
        here : Receives now (active_at now r)
        here = record { since = since_touched r.active r.resends now is.since; own = is.own }

        at : (b : Bool) → is_open r.phase ≡ b → Goes (outcome_of r p now)
        at false e = rw e here
        at true e =
            rw e
            (opened (active_at now r) p.offset (length p.bytes) p.last (nat_lt p.offset r.next) ((length p.bytes == 0) && not p.last) (nat_lt r.next p.offset) refl refl refl here)

  agrees_by : (now : ℕ) (taken : List Mail) (d : read.Download) (agreed : ℕ) (b : Bool) → nat_lt d.asked agreed ≡ b → Within now → ReadsAt now taken (read.agrees d agreed now).after.stage
  agrees_by now taken d agreed true e within = rw e (λ same. absurd cc)
  agrees_by now taken d agreed false e within = rw e (record { since = since_now now within; own = tt })

  -- a word that is heard
  module _ (now : ℕ) (taken : List Mail) (text : List ℕ) (within : Within now) where
    abbrev Then : List Mail
    Then = taken ++ Text text ∷ []

    asking_hears : (d : read.Download) (w : Wait) (x : Word) → polling.heard_word session text ≡ Some x → Since w.active w.resends now → ReadsAt now Then (read.asking_hears d w x now).after.stage
    asking_hears d w (start_ack agreed) heard is = agrees_by now Then d agreed (nat_lt d.asked agreed) refl within
    asking_hears d w (completion status) heard is = λ same. due_told taken (Text text) (heard ∙ ap (λ s. Some (completion s)) same)
    asking_hears d w (start x y) heard is = since_touched w.active w.resends now is
    asking_hears d w (confirmation ask) heard is = since_touched w.active w.resends now is
    asking_hears d w (parameters ask) heard is = since_touched w.active w.resends now is
    asking_hears d w (data_comes p) heard is = since_touched w.active w.resends now is
    asking_hears d w completion_ack heard is = since_touched w.active w.resends now is

    completed_by : (d : read.Download) (r : Receiver) (p : Phase) (status : Status) → d.stage ≡ reading.Receiving r → polling.heard_word session text ≡ Some (completion status) → Receives now r
        → ReadsAt now Then (read.completed d p status).after.stage
    completed_by d r (phase.Completing own) status e heard is = subst (ReadsAt now Then) (sym e) is
    completed_by d r phase.Receiving status e heard is = λ same. due_told taken (Text text) (heard ∙ ap (λ s. Some (completion s)) same)
    completed_by d r phase.Recovering status e heard is = λ same. due_told taken (Text text) (heard ∙ ap (λ s. Some (completion s)) same)
    completed_by d r phase.Ended status e heard is = λ same. due_told taken (Text text) (heard ∙ ap (λ s. Some (completion s)) same)

    acknowledged_by : (d : read.Download) (r : Receiver) (p : Phase) → d.stage ≡ reading.Receiving r → OwnEnd p → Receives now r → ReadsAt now Then (read.acknowledged d p).after.stage
    acknowledged_by d r (phase.Completing own) e other is = λ same. absurd (other same)
    acknowledged_by d r phase.Receiving e other is = subst (ReadsAt now Then) (sym e) is
    acknowledged_by d r phase.Recovering e other is = subst (ReadsAt now Then) (sym e) is
    acknowledged_by d r phase.Ended e other is = subst (ReadsAt now Then) (sym e) is

    receiving_hears : (d : read.Download) (r : Receiver) (x : Word) → d.stage ≡ reading.Receiving r → polling.heard_word session text ≡ Some x → Receives now r → ReadsAt now Then (read.receiving_hears d r x now).after.stage
    receiving_hears d r (data_comes p) e heard is = piece now r p (is_open r.phase) refl is
    receiving_hears d r (completion status) e heard is = completed_by d r r.phase status e heard is
    receiving_hears d r completion_ack e heard is = acknowledged_by d r r.phase e is.own is
    receiving_hears d r (start x y) e heard is = subst (ReadsAt now Then) (sym e) is
    receiving_hears d r (start_ack agreed) e heard is = subst (ReadsAt now Then) (sym e) is
    receiving_hears d r (confirmation ask) e heard is = subst (ReadsAt now Then) (sym e) is
    receiving_hears d r (parameters ask) e heard is = subst (ReadsAt now Then) (sym e) is

    read_hears : (d : read.Download) (stage : Reading) (x : Word) → d.stage ≡ stage → polling.heard_word session text ≡ Some x → ReadsAt now taken stage → ReadsAt now Then (read.hears_at d stage x now).after.stage
    read_hears d reading.Unasked x e heard is = subst (ReadsAt now Then) (sym e) tt
    read_hears d (reading.Asking w) x e heard is = asking_hears d w x heard is
    read_hears d (reading.Receiving r) x e heard is = receiving_hears d r x e heard is
    read_hears d (reading.Over status) x e heard is = subst (ReadsAt now Then) (sym e) (λ same. due_more taken (Text text) (is same))

    read_text : (d : read.Download) (o : Option Word) → polling.heard_word session text ≡ o → ReadsAt now taken d.stage → ReadsAt now Then (polling.hears_any read.read_rules session d o now).after.stage
    read_text d None heard is = read_more now taken (Text text) d.stage is
    read_text d (Some x) heard is = read_hears d d.stage x refl heard is

  read_closes : (now : ℕ) (taken : List Mail) (d : read.Download) (stage : Reading) (status : Status) → d.stage ≡ stage → ReadsAt now taken stage
      → ReadsAt now (taken ++ Closed status ∷ []) (read.closes_at d stage status).after.stage
  read_closes now taken d reading.Unasked status e is = λ same. due_told taken (Closed status) (by_call_is status (is_okay status) same)
  read_closes now taken d (reading.Asking w) status e is = λ same. due_told taken (Closed status) (by_call_is status (is_okay status) same)
  read_closes now taken d (reading.Receiving r) status e is = λ same. due_told taken (Closed status) (by_call_is status (is_okay status) same)
  read_closes now taken d (reading.Over own) status e is = subst (ReadsAt now (taken ++ Closed status ∷ [])) (sym e) (λ same. due_more taken (Closed status) (is same))

  read_takes : (now : ℕ) (d : read.Download) (taken : List Mail) (mail : Mail) → Within now → ReadsAt now taken d.stage
      → ReadsAt now (taken ++ mail ∷ []) (polling.takes read.read_rules session d mail now).after.stage
  read_takes now d taken (Text text) within is = read_text now taken text within d (polling.heard_word session text) refl is
  read_takes now d taken (Closed status) within is = read_closes now taken d d.stage status refl is

  -- the time
  asks_again : (now : ℕ) (taken : List Mail) (d : read.Download) (w : Wait) (b : Bool) → waiting.has_resends w ≡ b → Within now → w.active + TIMEOUT ≤ now → Since w.active w.resends now
      → ReadsAt now taken (read.asking_timeout d w now).after.stage
  asks_again now taken d w true e within long is = rw e (since_again w.active w.resends now long is)
  asks_again now taken d w false e within long is = rw e (λ _. since_over w.active w.resends now taken within long (no_resends w.resends e) is)

  asking_ticks : (now : ℕ) (taken : List Mail) (d : read.Download) (w : Wait) (b : Bool) → d.stage ≡ reading.Asking w → waiting.is_late w now ≡ b → Within now → Since w.active w.resends now
      → ReadsAt now taken (read.ticks_at d (reading.Asking w) now).after.stage
  asking_ticks now taken d w true e late within is = rw late (asks_again now taken d w (waiting.has_resends w) refl within (late_is (w.active + TIMEOUT) now late) is)
  asking_ticks now taken d w false e late within is = rw late (subst (ReadsAt now taken) (sym e) is)

  module _ (now : ℕ) (taken : List Mail) (within : Within now) where
    abbrev TicksTo : Receiver → Phase → Type 0
    TicksTo r p = ReadsAt now taken (read.receiving_or_over (timeout_outcome (active_at now r) p).after (timeout_outcome (active_at now r) p).answer)

    asks_on : (r : Receiver) (b : Bool) → nat_lt r.resends MAX_RESENDS ≡ b → r.active + TIMEOUT ≤ now → Receives now r
        → (OwnEnd r.phase) → ReadsAt now taken (read.receiving_or_over (resending_ask (active_at now r)).after (resending_ask (active_at now r)).answer)
    asks_on r true e long is own = rw e (record { since = since_again r.active r.resends now long is.since; own = own })
    asks_on r false e long is own = rw e (λ _. since_over r.active r.resends now taken within long (no_resends r.resends e) is.since)

    ends_on : (r : Receiver) (status : Status) (b : Bool) → nat_lt r.resends MAX_RESENDS ≡ b → r.active + TIMEOUT ≤ now → status ≢ DeadlineExceeded → Receives now r
        → ReadsAt now taken (read.receiving_or_over (resending_end (active_at now r) status).after (resending_end (active_at now r) status).answer)
    ends_on r status true e long other is = rw e (record { since = since_again r.active r.resends now long is.since; own = is.own })
    ends_on r status false e long other is = rw e (λ same. absurd (other same))

    times_out : (r : Receiver) (p : Phase) → r.phase ≡ p → r.active + TIMEOUT ≤ now → Receives now r → TicksTo r p
    times_out r phase.Receiving e long is = asks_on r (nat_lt r.resends MAX_RESENDS) refl long is is.own
    times_out r phase.Recovering e long is = asks_on r (nat_lt r.resends MAX_RESENDS) refl long is is.own
    times_out r (phase.Completing status) e long is = ends_on r status (nat_lt r.resends MAX_RESENDS) refl long (subst OwnEnd e is.own) is
    times_out r phase.Ended e long is = record { since = since_touched r.active r.resends now is.since; own = is.own }

    receiver_ticks : (r : Receiver) (b : Bool) → nat_le (r.active + TIMEOUT) now ≡ b → Receives now r
        → ReadsAt now taken (read.receiving_or_over (tick_outcome r now).after (tick_outcome r now).answer)
    receiver_ticks r true late is = rw late (times_out r r.phase refl (late_is (r.active + TIMEOUT) now late) is)
    receiver_ticks r false late is = rw late is

  read_ticks : (now : ℕ) (d : read.Download) (taken : List Mail) (stage : Reading) → d.stage ≡ stage → Within now → ReadsAt now taken stage → ReadsAt now taken (read.ticks_at d stage now).after.stage
  read_ticks now d taken reading.Unasked e within is = subst (ReadsAt now taken) (sym e) tt
  read_ticks now d taken (reading.Asking w) e within is = asking_ticks now taken d w (waiting.is_late w now) e refl within is
  read_ticks now d taken (reading.Receiving r) e within is = receiver_ticks now taken within r (nat_le (r.active + TIMEOUT) now) refl is
  read_ticks now d taken (reading.Over status) e within is = subst (ReadsAt now taken) (sym e) is

  pub reads_keep : Keeps read.read_rules session ReadsSo Within
  reads_keep = record {
    later = λ now later d taken said on j. record { stands = read_later now later taken d.stage on j.stands };
    opens = λ now d taken said within j. record { stands = read_opens now taken d d.stage within refl j.stands };
    takes = λ now d taken said mail within goes j. record { stands = read_takes now d taken mail within j.stands };
    ticks = λ now d taken said within j. record { stands = read_ticks now d taken d.stage refl within j.stands };
  }

  -- ---- a write

  pub record Sends (now : ℕ) (s : Sender) : Type 0 where
    pub since : Since s.active s.timeouts now
    pub goes : s.ended ≡ None

  abbrev pub WritesAt : ℕ → List Mail → Writing → Type 0
  WritesAt now taken writing.Unasked = Unit {0}
  WritesAt now taken (writing.Asking w) = Since w.active w.resends now
  WritesAt now taken (writing.Confirming w) = Since w.active w.resends now
  WritesAt now taken (writing.Sending s) = Sends now s
  WritesAt now taken (writing.Over status) = IsOver taken status

  pub record WritesSo (now : ℕ) (u : write.Upload) (taken : List Mail) (said : List Saying) : Type 0 where
    pub stands : WritesAt now taken u.stage

  write_later : (now later : ℕ) (taken : List Mail) (stage : Writing) → now ≤ later → WritesAt now taken stage → WritesAt later taken stage
  write_later now later taken writing.Unasked on is = tt
  write_later now later taken (writing.Asking w) on is = since_later w.active w.resends now later on is
  write_later now later taken (writing.Confirming w) on is = since_later w.active w.resends now later on is
  write_later now later taken (writing.Sending s) on is = record { since = since_later s.active s.timeouts now later on is.since; goes = is.goes }
  write_later now later taken (writing.Over status) on is = is

  write_more : (now : ℕ) (taken : List Mail) (mail : Mail) (stage : Writing) → WritesAt now taken stage → WritesAt now (taken ++ mail ∷ []) stage
  write_more now taken mail writing.Unasked is = tt
  write_more now taken mail (writing.Asking w) is = is
  write_more now taken mail (writing.Confirming w) is = is
  write_more now taken mail (writing.Sending s) is = is
  write_more now taken mail (writing.Over status) is = λ same. due_more taken mail (is same)

  write_opens : (now : ℕ) (taken : List Mail) (u : write.Upload) (stage : Writing) → Within now → u.stage ≡ stage → WritesAt now taken stage → WritesAt now taken (write.opens_at u stage now).after.stage
  write_opens now taken u writing.Unasked within e is = since_now now within
  write_opens now taken u (writing.Asking w) within e is = subst (WritesAt now taken) (sym e) is
  write_opens now taken u (writing.Confirming w) within e is = subst (WritesAt now taken) (sym e) is
  write_opens now taken u (writing.Sending s) within e is = subst (WritesAt now taken) (sym e) is
  write_opens now taken u (writing.Over status) within e is = subst (WritesAt now taken) (sym e) is

  accepts_by : (now : ℕ) (taken : List Mail) (u : write.Upload) (agreed : ℕ) (b : Bool) → nat_lt u.asked agreed ≡ b → Within now → WritesAt now taken (write.agrees u agreed now).after.stage
  accepts_by now taken u agreed true e within = rw e (λ same. absurd cc)
  accepts_by now taken u agreed false e within = rw e (since_now now within)

  -- parameters are answered
  sends_by : (now : ℕ) (taken : List Mail) (u : write.Upload) (s : Sender) (ask : Ask) (b : Bool) → is_past_end (sent_touched s now) ask ≡ b → Within now → s.ended ≡ None → WritesAt now taken (write.sends u s ask now).after.stage
  sends_by now taken u s ask true e within goes = rw e (λ same. absurd cc)
  sends_by now taken u s ask false e within goes = rw (e, goes) (record { since = since_now now within; goes = refl })

  module _ (now : ℕ) (taken : List Mail) (text : List ℕ) (within : Within now) where
    abbrev After : List Mail
    After = taken ++ Text text ∷ []

    told_by : (status : Status) → polling.heard_word session text ≡ Some (completion status) → IsOver After status
    told_by status heard = λ same. due_told taken (Text text) (heard ∙ ap (λ s. Some (completion s)) same)

    write_asking : (u : write.Upload) (w : Wait) (x : Word) → polling.heard_word session text ≡ Some x → Since w.active w.resends now → WritesAt now After (write.asking_hears u w x now).after.stage
    write_asking u w (start_ack agreed) heard is = accepts_by now After u agreed (nat_lt u.asked agreed) refl within
    write_asking u w (completion status) heard is = told_by status heard
    write_asking u w (start x y) heard is = since_touched w.active w.resends now is
    write_asking u w (confirmation ask) heard is = since_touched w.active w.resends now is
    write_asking u w (parameters ask) heard is = since_touched w.active w.resends now is
    write_asking u w (data_comes p) heard is = since_touched w.active w.resends now is
    write_asking u w completion_ack heard is = since_touched w.active w.resends now is

    write_confirming : (u : write.Upload) (w : Wait) (x : Word) → polling.heard_word session text ≡ Some x → Since w.active w.resends now → WritesAt now After (write.confirming_hears u w x now).after.stage
    write_confirming u w (parameters ask) heard is =
        sends_by now After u (new_sender u.bytes (write.write_offset u) now) ask (is_past_end (sent_touched (new_sender u.bytes (write.write_offset u) now) now) ask) refl within refl
    write_confirming u w (completion status) heard is = told_by status heard
    write_confirming u w (start x y) heard is = since_touched w.active w.resends now is
    write_confirming u w (start_ack agreed) heard is = since_touched w.active w.resends now is
    write_confirming u w (confirmation ask) heard is = since_touched w.active w.resends now is
    write_confirming u w (data_comes p) heard is = since_touched w.active w.resends now is
    write_confirming u w completion_ack heard is = since_touched w.active w.resends now is

    still : (s : Sender) → Sends now s → Sends now (sent_touched s now)
    still s is = record { since = since_now now within; goes = is.goes }

    write_sending : (u : write.Upload) (s : Sender) (x : Word) → polling.heard_word session text ≡ Some x → Sends now s → WritesAt now After (write.sending_hears u s x now).after.stage
    write_sending u s (parameters ask) heard is = sends_by now After u s ask (is_past_end (sent_touched s now) ask) refl within is.goes
    write_sending u s (completion status) heard is = told_by status heard
    write_sending u s (start x y) heard is = still s is
    write_sending u s (start_ack agreed) heard is = still s is
    write_sending u s (confirmation ask) heard is = still s is
    write_sending u s (data_comes p) heard is = still s is
    write_sending u s completion_ack heard is = still s is

    write_hears : (u : write.Upload) (stage : Writing) (x : Word) → u.stage ≡ stage → polling.heard_word session text ≡ Some x → WritesAt now taken stage → WritesAt now After (write.hears_at u stage x now).after.stage
    write_hears u writing.Unasked x e heard is = subst (WritesAt now After) (sym e) tt
    write_hears u (writing.Asking w) x e heard is = write_asking u w x heard is
    write_hears u (writing.Confirming w) x e heard is = write_confirming u w x heard is
    write_hears u (writing.Sending s) x e heard is = write_sending u s x heard is
    write_hears u (writing.Over status) x e heard is = subst (WritesAt now After) (sym e) (λ same. due_more taken (Text text) (is same))

    write_text : (u : write.Upload) (o : Option Word) → polling.heard_word session text ≡ o → WritesAt now taken u.stage → WritesAt now After (polling.hears_any write.write_rules session u o now).after.stage
    write_text u None heard is = write_more now taken (Text text) u.stage is
    write_text u (Some x) heard is = write_hears u u.stage x refl heard is

  write_closes : (now : ℕ) (taken : List Mail) (u : write.Upload) (stage : Writing) (status : Status) → u.stage ≡ stage → WritesAt now taken stage
      → WritesAt now (taken ++ Closed status ∷ []) (write.closes_at u stage status).after.stage
  write_closes now taken u writing.Unasked status e is = λ same. due_told taken (Closed status) (by_call_is status (is_okay status) same)
  write_closes now taken u (writing.Asking w) status e is = λ same. due_told taken (Closed status) (by_call_is status (is_okay status) same)
  write_closes now taken u (writing.Confirming w) status e is = λ same. due_told taken (Closed status) (by_call_is status (is_okay status) same)
  write_closes now taken u (writing.Sending s) status e is = λ same. due_told taken (Closed status) (by_call_is status (is_okay status) same)
  write_closes now taken u (writing.Over own) status e is = subst (WritesAt now (taken ++ Closed status ∷ [])) (sym e) (λ same. due_more taken (Closed status) (is same))

  write_takes : (now : ℕ) (u : write.Upload) (taken : List Mail) (mail : Mail) → Within now → WritesAt now taken u.stage
      → WritesAt now (taken ++ mail ∷ []) (polling.takes write.write_rules session u mail now).after.stage
  write_takes now u taken (Text text) within is = write_text now taken text within u (polling.heard_word session text) refl is
  write_takes now u taken (Closed status) within is = write_closes now taken u u.stage status refl is

  -- the time
  module _ (now : ℕ) (taken : List Mail) (u : write.Upload) (within : Within now) where
    write_asks : (w : Wait) (b : Bool) → waiting.has_resends w ≡ b → w.active + TIMEOUT ≤ now → Since w.active w.resends now → WritesAt now taken (write.asking_timeout u w now).after.stage
    write_asks w true e long is = rw e (since_again w.active w.resends now long is)
    write_asks w false e long is = rw e (λ _. since_over w.active w.resends now taken within long (no_resends w.resends e) is)

    write_confirms : (w : Wait) (b : Bool) → waiting.has_resends w ≡ b → w.active + TIMEOUT ≤ now → Since w.active w.resends now → WritesAt now taken (write.confirming_timeout u w now).after.stage
    write_confirms w true e long is = rw e (since_again w.active w.resends now long is)
    write_confirms w false e long is = rw e (λ _. since_over w.active w.resends now taken within long (no_resends w.resends e) is)

    asking_by : (w : Wait) (b : Bool) → u.stage ≡ writing.Asking w → waiting.is_late w now ≡ b → Since w.active w.resends now → WritesAt now taken (write.ticks_at u (writing.Asking w) now).after.stage
    asking_by w true e late is = rw late (write_asks w (waiting.has_resends w) refl (late_is (w.active + TIMEOUT) now late) is)
    asking_by w false e late is = rw late (subst (WritesAt now taken) (sym e) is)

    confirming_by : (w : Wait) (b : Bool) → u.stage ≡ writing.Confirming w → waiting.is_late w now ≡ b → Since w.active w.resends now → WritesAt now taken (write.ticks_at u (writing.Confirming w) now).after.stage
    confirming_by w true e late is = rw late (write_confirms w (waiting.has_resends w) refl (late_is (w.active + TIMEOUT) now late) is)
    confirming_by w false e late is = rw late (subst (WritesAt now taken) (sym e) is)

    five : (n : ℕ) → ((n + 1) == MAX_TIMEOUTS) ≡ true → 3 ≤ n
    five n is = let t : n + 1 ≡ 5 = eqb-true (n + 1) 5 is in omega (arith, t)

    sender_by : (s : Sender) (b : Bool) → ((s.timeouts + 1) == MAX_TIMEOUTS) ≡ b → s.active + TIMEOUT ≤ now → Sends now s
        → WritesAt now taken (write.sending_or_over (record s { active = now; timeouts = s.timeouts + 1; ended = end_by_timeouts (s.timeouts + 1) }) (end_by_timeouts (s.timeouts + 1)))
    sender_by s true e long is = rw e (λ _. since_over s.active s.timeouts now taken within long (five s.timeouts e) is.since)
    sender_by s false e long is = rw e (record { since = since_again s.active s.timeouts now long is.since; goes = refl })

    sending_by : (s : Sender) (b : Bool) → u.stage ≡ writing.Sending s → waiting.is_late_since s.active now ≡ b → Sends now s → WritesAt now taken (write.ticks_at u (writing.Sending s) now).after.stage
    sending_by s true e late is = rw late (sender_by s ((s.timeouts + 1) == MAX_TIMEOUTS) refl (late_is (s.active + TIMEOUT) now late) is)
    sending_by s false e late is = rw late (subst (WritesAt now taken) (sym e) is)

    write_ticks : (stage : Writing) → u.stage ≡ stage → WritesAt now taken stage → WritesAt now taken (write.ticks_at u stage now).after.stage
    write_ticks writing.Unasked e is = subst (WritesAt now taken) (sym e) tt
    write_ticks (writing.Asking w) e is = asking_by w (waiting.is_late w now) e refl is
    write_ticks (writing.Confirming w) e is = confirming_by w (waiting.is_late w now) e refl is
    write_ticks (writing.Sending s) e is = sending_by s (waiting.is_late_since s.active now) e refl is
    write_ticks (writing.Over status) e is = subst (WritesAt now taken) (sym e) is

  pub writes_keep : Keeps write.write_rules session WritesSo Within
  writes_keep = record {
    later = λ now later u taken said on j. record { stands = write_later now later taken u.stage on j.stands };
    opens = λ now u taken said within j. record { stands = write_opens now taken u u.stage within refl j.stands };
    takes = λ now u taken said mail within goes j. record { stands = write_takes now u taken mail within j.stands };
    ticks = λ now u taken said within j. record { stands = write_ticks now taken u within u.stage refl j.stands };
  }
