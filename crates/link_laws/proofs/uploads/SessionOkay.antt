-- One session of Write, step by step: it tells the end OK only behind its Commit, or where the client has told it.
use Rattle.std.proofs.Common.{◌≡◌, ◌⊎◌, ℕ, ◌+◌, ◌==◌, ◌&&◌, not, nat_lt, nat_le, inl, inr, Bool, true, false, if◌then◌else◌, List, [], ◌∷◌, ◌++◌, length, Option, Some, None, refl, sym, ap, subst}
use Rattle.rpc_ids.specs.declared.Status.{Status}
use Rattle.rpc_ids.specs.declared.Status.TheVariants.{Okay, Internal, OutOfRange, DeadlineExceeded}
use Rattle.transfer_base.specs.declared.limits.TheConstants.{MAX_RESOURCE, TIMEOUT}
use Rattle.transfer_sender.specs.declared.sender.TheConstants.{MAX_TIMEOUTS}
use Rattle.transfer_receiver.specs.declared.receiver.TheConstants.{MAX_RESENDS}
use Rattle.transfer_receiver.specs.declared.phase.Phase.{Phase}
use Rattle.transfer_receiver.specs.declared.phase.Phase.TheVariants as phase
use Rattle.transfer_receiver.specs.Phase.{is_open, is_recovering}
use Rattle.transfer_receiver.specs.declared.answers.Received.TheVariants.{Kept, Again}
use Rattle.transfer_receiver.specs.declared.answers.Ticked.TheVariants.{Resend, ResendEnd, Over}
use Rattle.transfer_receiver.specs.Receiver.{Receiver, asking, ask_of}
use Rattle.transfer_receiver.specs.PieceRules.{PieceOutcome, ignoring, ending, asking_again, keeping, is_half_used, going_on, taking, open_outcome, active_at}
use Rattle.transfer_receiver.specs.TickRules.{TickOutcome, timeout_outcome, tick_outcome}
use Rattle.transfer_words.specs.Word.{Word, start, start_ack, confirmation, parameters, data_comes, completion, completion_ack}
use Rattle.transfer_words.specs.Saying.{Saying, Stepped, says, appends, commits}
use Rattle.transfer_words.specs.CoreAnswers.{of_piece, of_tick}
use Rattle.transfer_resume.specs.declared.side.Side.{Side}
use Rattle.transfer_resume.specs.declared.side.Side.TheVariants.{Read, Write}
use Rattle.transfer_resume.specs.declared.stage.Opening.{Opening}
use Rattle.transfer_resume.specs.declared.stage.Stage.{Stage}
use Rattle.transfer_resume.specs.declared.stage.Stage.TheVariants as stage
use Rattle.transfer_resume.specs.Session.{Service}
use Rattle.transfer_resume.specs.Receiver.{completed, acknowledged, receiving_or_over, receiver_stops}
use Rattle.transfer_resume.specs.Opening.{opened, confirmed, opening_timeout, opening_ticks, leaving}
use Rattle.transfer_resume.specs.Hears.{stage_hears, session_hears}
use Rattle.transfer_resume.specs.Ticks.{stage_ticks, stage_stops}

-- among what one session says each end OK is behind a Commit, unless this is known
abbrev pub SaysKnown : Type 0 → List Saying → Type 0
SaysKnown K [] = Unit {0}
SaysKnown K (s ∷ ss) = (s ≡ says (completion Okay) → K) × SaysKnown (K ⊎ (s ≡ commits)) ss

abbrev pub SaidAfter : Type 0 → List Saying → Type 0
SaidAfter K [] = K
SaidAfter K (s ∷ ss) = SaidAfter (K ⊎ (s ≡ commits)) ss

pub says_wider : (K L : Type 0) (ss : List Saying) → (K → L) → SaysKnown K ss → SaysKnown L ss
says_wider K L [] f h = tt
says_wider K L (s ∷ ss) f h = (λ is. f (h.0 is), says_wider (K ⊎ (s ≡ commits)) (L ⊎ (s ≡ commits)) ss wider h.1)
  where
    wider : K ⊎ (s ≡ commits) → L ⊎ (s ≡ commits)
    wider (inl k) = inl (f k)
    wider (inr c) = inr c

pub after_wider : (K L : Type 0) (ss : List Saying) → (K → L) → SaidAfter K ss → SaidAfter L ss
after_wider K L [] f h = f h
after_wider K L (s ∷ ss) f h = after_wider (K ⊎ (s ≡ commits)) (L ⊎ (s ≡ commits)) ss wider h
  where
    wider : K ⊎ (s ≡ commits) → L ⊎ (s ≡ commits)
    wider (inl k) = inl (f k)
    wider (inr c) = inr c

pub said_grows : (K : Type 0) (ss : List Saying) → K → SaidAfter K ss
said_grows K [] k = k
said_grows K (s ∷ ss) k = said_grows (K ⊎ (s ≡ commits)) ss (inl k)

-- one that has ended OK, or tells so until the client knows it, has its Commit behind it
abbrev pub PhaseKnows : Type 0 → Phase → Type 0
PhaseKnows K phase.Receiving = Unit {0}
PhaseKnows K phase.Recovering = Unit {0}
PhaseKnows K (phase.Completing status) = status ≡ Okay → K
PhaseKnows K phase.Ended = Unit {0}

-- no session of Write sends
abbrev pub Knows : Type 0 → Option Stage → Type 0
Knows K None = Unit {0}
Knows K (Some (stage.Opening o)) = Unit {0}
Knows K (Some (stage.Sending s)) = ⊥
Knows K (Some (stage.Receiving r)) = PhaseKnows K r.phase
Knows K (Some (stage.Ended status)) = status ≡ Okay → K

phase_wider : (K L : Type 0) (p : Phase) → (K → L) → PhaseKnows K p → PhaseKnows L p
phase_wider K L phase.Receiving f h = tt
phase_wider K L phase.Recovering f h = tt
phase_wider K L (phase.Completing status) f h = λ is. f (h is)
phase_wider K L phase.Ended f h = tt

pub knows_wider : (K L : Type 0) (s : Option Stage) → (K → L) → Knows K s → Knows L s
knows_wider K L None f h = tt
knows_wider K L (Some (stage.Opening o)) f h = tt
knows_wider K L (Some (stage.Sending s)) f h = h
knows_wider K L (Some (stage.Receiving r)) f h = phase_wider K L r.phase f h
knows_wider K L (Some (stage.Ended status)) f h = λ is. f (h is)

-- what a session says then is known, and where it stands too
abbrev pub Keeps : Type 0 → Stepped (Option Stage) → Type 0
Keeps K t = SaysKnown K t.sayings × Knows (SaidAfter K t.sayings) t.after

abbrev pub StageKeeps : Type 0 → Stepped Stage → Type 0
StageKeeps K t = SaysKnown K t.sayings × Knows (SaidAfter K t.sayings) (Some t.after)

same_status : (a b : Status) → says (completion a) ≡ says (completion b) → a ≡ b
same_status a b is = cc

module _ (K : Type 0) where
  -- one thing that is no end OK
  quiet : (s : Saying) → (s ≡ says (completion Okay) → ⊥) → SaysKnown K (s ∷ [])
  quiet s other = (λ is. absurd (other is), tt)

  -- A piece, at a receiver.
  abbrev PieceKeeps : List ℕ → PieceOutcome → Type 0
  PieceKeeps bytes t = SaysKnown K (of_piece bytes t.answer) × PhaseKnows (SaidAfter K (of_piece bytes t.answer)) t.after.phase

  again_keeps : (bytes : List ℕ) (r : Receiver) (b : Bool) → PhaseKnows K r.phase →
      PieceKeeps bytes (if b then ignoring r else record { after = record (asking true r) { phase = phase.Recovering }; answer = Again (ask_of true (asking true r)) })
  again_keeps bytes r true h = (tt, h)
  again_keeps bytes r false h = (quiet _ (λ is. cc), tt)

  going_keeps : (bytes : List ℕ) (r : Receiver) (b : Bool) → r.phase ≡ phase.Receiving →
      PieceKeeps bytes (if b then record { after = asking false r; answer = Kept (Some (ask_of false (asking false r))) } else record { after = r; answer = Kept None })
  going_keeps bytes r true is = ((λ x. absurd cc, (λ x. absurd cc, tt)), subst (PhaseKnows _) (sym is) tt)
  going_keeps bytes r false is = ((λ x. absurd cc, tt), subst (PhaseKnows _) (sym is) tt)

  well_keeps : (bytes : List ℕ) (b : Bool) →
      let said = ((if b then [] else appends bytes ∷ []) ++ commits ∷ []) ++ says (completion Okay) ∷ [] in
      SaysKnown K said × PhaseKnows (SaidAfter K said) (phase.Completing Okay)
  well_keeps bytes true = ((λ x. absurd cc, (λ x. inr refl, tt)), λ x. inl (inr refl))
  well_keeps bytes false = ((λ x. absurd cc, (λ x. absurd cc, (λ x. inr refl, tt))), λ x. inl (inr refl))

  last_keeps : (bytes : List ℕ) (r : Receiver) (end : ℕ) (last : Bool) →
      PieceKeeps bytes (if last then ending (keeping r end) Okay else going_on (keeping r end))
  last_keeps bytes r end true = well_keeps bytes (length bytes == 0)
  last_keeps bytes r end false = going_keeps bytes (keeping r end) (is_half_used (keeping r end)) refl

  range_keeps : (bytes : List ℕ) (r : Receiver) (end : ℕ) (b last : Bool) →
      PieceKeeps bytes (if b then ending r OutOfRange else if last then ending (keeping r end) Okay else going_on (keeping r end))
  range_keeps bytes r end true last = ((λ x. absurd cc, (λ x. absurd cc, tt)), λ x. absurd cc)
  range_keeps bytes r end false last = last_keeps bytes r end last

  taking_keeps : (bytes : List ℕ) (r : Receiver) (end : ℕ) (b last : Bool) →
      PieceKeeps bytes (if b then ending r Internal else if nat_lt MAX_RESOURCE end then ending r OutOfRange else if last then ending (keeping r end) Okay else going_on (keeping r end))
  taking_keeps bytes r end true last = ((λ x. absurd cc, (λ x. absurd cc, tt)), λ x. absurd cc)
  taking_keeps bytes r end false last = range_keeps bytes r end (nat_lt MAX_RESOURCE end) last

  past_keeps : (bytes : List ℕ) (r : Receiver) (end : ℕ) (b last : Bool) → PhaseKnows K r.phase →
      PieceKeeps bytes (if b then asking_again r else taking r end last)
  past_keeps bytes r end true last h = again_keeps bytes r (is_recovering r.phase) h
  past_keeps bytes r end false last h = taking_keeps bytes r end (nat_lt r.window_end end) last

  empty_keeps : (bytes : List ℕ) (r : Receiver) (offset size : ℕ) (b last : Bool) → PhaseKnows K r.phase →
      PieceKeeps bytes (if b then ignoring r else if nat_lt r.next offset then asking_again r else taking r (offset + size) last)
  empty_keeps bytes r offset size true last h = (tt, h)
  empty_keeps bytes r offset size false last h = past_keeps bytes r (offset + size) (nat_lt r.next offset) last h

  before_keeps : (bytes : List ℕ) (r : Receiver) (offset size : ℕ) (b last : Bool) → PhaseKnows K r.phase →
      PieceKeeps bytes (if b then ignoring r else if (size == 0) && not last then ignoring r else if nat_lt r.next offset then asking_again r else taking r (offset + size) last)
  before_keeps bytes r offset size true last h = (tt, h)
  before_keeps bytes r offset size false last h = empty_keeps bytes r offset size ((size == 0) && not last) last h

  piece_keeps : (bytes : List ℕ) (r : Receiver) (offset size : ℕ) (b last : Bool) → PhaseKnows K r.phase →
      PieceKeeps bytes (if b then open_outcome r offset size last else ignoring r)
  piece_keeps bytes r offset size true last h = before_keeps bytes r offset size (nat_lt offset r.next) last h
  piece_keeps bytes r offset size false last h = (tt, h)

  -- A word.
  completed_keeps : (r : Receiver) (p : Phase) (told : Status) → r.phase ≡ p → (told ≡ Okay → K) → PhaseKnows K p → StageKeeps K (completed r p told)
  completed_keeps r phase.Receiving told e tells h = ((λ x. absurd cc, (λ x. absurd cc, tt)), λ is. inl (inl (tells is)))
  completed_keeps r phase.Recovering told e tells h = ((λ x. absurd cc, (λ x. absurd cc, tt)), λ is. inl (inl (tells is)))
  completed_keeps r (phase.Completing status) told e tells h = (quiet _ (λ is. cc), subst (PhaseKnows _) (sym e) (λ is. inl (h is)))
  completed_keeps r phase.Ended told e tells h = ((λ x. absurd cc, (λ x. absurd cc, tt)), λ is. inl (inl (tells is)))

  acknowledged_keeps : (r : Receiver) (p : Phase) → r.phase ≡ p → PhaseKnows K p → StageKeeps K (acknowledged r p)
  acknowledged_keeps r phase.Receiving e h = (tt, subst (PhaseKnows K) (sym e) h)
  acknowledged_keeps r phase.Recovering e h = (tt, subst (PhaseKnows K) (sym e) h)
  acknowledged_keeps r (phase.Completing status) e h = (tt, h)
  acknowledged_keeps r phase.Ended e h = (tt, subst (PhaseKnows K) (sym e) h)

  again_says : (b : Bool) (offset : ℕ) → SaysKnown K (if b then says (start_ack offset) ∷ [] else [])
  again_says true offset = quiet _ (λ is. cc)
  again_says false offset = tt

  told_leaving : (side : Side) (status : Status) → (status ≡ Okay → K) →
      SaysKnown K (leaving side ++ says completion_ack ∷ []) × (status ≡ Okay → SaidAfter K (leaving side ++ says completion_ack ∷ []))
  told_leaving Read status tells = (quiet _ (λ is. cc), λ is. inl (tells is))
  told_leaving Write status tells = ((λ x. absurd cc, (λ x. absurd cc, tt)), λ is. inl (inl (tells is)))

  ended_keeps : (status : Status) → (status ≡ Okay → K) → SaysKnown K (says (completion status) ∷ []) × (status ≡ Okay → SaidAfter K (says (completion status) ∷ []))
  ended_keeps status h = ((λ is. h (same_status status Okay is), tt), λ is. inl (h is))

  stage_keeps : (k : Service) → k.side ≡ Write → (s : Stage) (w : Word) → (w ≡ completion Okay → K) → Knows K (Some s) → StageKeeps K (stage_hears k s w)
  stage_keeps k is (stage.Opening o) (start resource offset) tells h = (again_says (o.resource == resource) o.agreed, tt)
  stage_keeps k is (stage.Opening o) (start_ack offset) tells h = (tt, tt)
  stage_keeps k is (stage.Opening o) (confirmation ask) tells h = subst (λ x. StageKeeps K (confirmed x k o ask)) (sym is) (quiet _ (λ is. cc), tt)
  stage_keeps k is (stage.Opening o) (parameters ask) tells h = (tt, tt)
  stage_keeps k is (stage.Opening o) (data_comes p) tells h = (tt, tt)
  stage_keeps k is (stage.Opening o) (completion status) tells h = told_leaving k.side status (λ is. tells (ap completion is))
  stage_keeps k is (stage.Opening o) completion_ack tells h = (tt, tt)
  stage_keeps k is (stage.Sending s) w tells h = absurd h
  stage_keeps k is (stage.Receiving r) (start resource offset) tells h = (tt, h)
  stage_keeps k is (stage.Receiving r) (start_ack offset) tells h = (tt, h)
  stage_keeps k is (stage.Receiving r) (confirmation ask) tells h = (tt, h)
  stage_keeps k is (stage.Receiving r) (parameters ask) tells h = (tt, h)
  stage_keeps k is (stage.Receiving r) (data_comes p) tells h = piece_keeps p.bytes (active_at k.time r) p.offset (length p.bytes) (is_open r.phase) p.last h
  stage_keeps k is (stage.Receiving r) (completion status) tells h = completed_keeps r r.phase status refl (λ is. tells (ap completion is)) h
  stage_keeps k is (stage.Receiving r) completion_ack tells h = acknowledged_keeps r r.phase refl h
  stage_keeps k is (stage.Ended status) (start resource offset) tells h = ended_keeps status h
  stage_keeps k is (stage.Ended status) (start_ack offset) tells h = ended_keeps status h
  stage_keeps k is (stage.Ended status) (confirmation ask) tells h = ended_keeps status h
  stage_keeps k is (stage.Ended status) (parameters ask) tells h = ended_keeps status h
  stage_keeps k is (stage.Ended status) (data_comes p) tells h = ended_keeps status h
  stage_keeps k is (stage.Ended status) (completion told) tells h = (quiet _ (λ is. cc), λ is. inl (h is))
  stage_keeps k is (stage.Ended status) completion_ack tells h = (tt, h)

  opens_keeps : (k : Service) → k.side ≡ Write → (room : Bool) (resource offset : ℕ) → Keeps K (session_hears k room None (start resource offset))
  opens_keeps k is true resource offset = subst (λ x. StageKeeps K (opened x k resource offset)) (sym is) ((λ x. absurd cc, (λ x. absurd cc, tt)), tt)
  opens_keeps k is false resource offset = (quiet _ (λ is. cc), tt)

  pub word_keeps : (k : Service) → k.side ≡ Write → (room : Bool) (s : Option Stage) (w : Word) → (w ≡ completion Okay → K) → Knows K s → Keeps K (session_hears k room s w)
  word_keeps k is room (Some s) w tells h = stage_keeps k is s w tells h
  word_keeps k is room None (start resource offset) tells h = opens_keeps k is room resource offset
  word_keeps k is room None (start_ack offset) tells h = (quiet _ (λ is. cc), tt)
  word_keeps k is room None (confirmation ask) tells h = (quiet _ (λ is. cc), tt)
  word_keeps k is room None (parameters ask) tells h = (quiet _ (λ is. cc), tt)
  word_keeps k is room None (data_comes p) tells h = (quiet _ (λ is. cc), tt)
  word_keeps k is room None (completion status) tells h = (quiet _ (λ is. cc), tt)
  word_keeps k is room None completion_ack tells h = (tt, tt)

  -- The time.
  late_opening : (side : Side) (now : ℕ) (o : Opening) (b : Bool) → (o.timeouts + 1 == MAX_TIMEOUTS) ≡ b → StageKeeps K (opening_timeout side now o)
  late_opening Read now o true e = rw e ((λ x. absurd cc, tt), λ x. absurd cc)
  late_opening Write now o true e = rw e ((λ x. absurd cc, (λ x. absurd cc, tt)), λ x. absurd cc)
  late_opening side now o false e = rw e (tt, tt)

  opening_keeps : (side : Side) (now : ℕ) (o : Opening) (b : Bool) → nat_le (o.active + TIMEOUT) now ≡ b → StageKeeps K (opening_ticks side now o)
  opening_keeps side now o true e = rw e (late_opening side now o (o.timeouts + 1 == MAX_TIMEOUTS) refl)
  opening_keeps side now o false e = rw e (tt, tt)

  -- the outcome of a tick, at a receiver of this phase
  abbrev TickKeeps : Phase → TickOutcome → Type 0
  TickKeeps p t = SaysKnown K (of_tick (is_open p) t.answer) × Knows (SaidAfter K (of_tick (is_open p) t.answer)) (Some (receiving_or_over t.after t.answer))

  abbrev at_phase : Receiver → Phase → Receiver
  at_phase r p = record r { phase = p }

  asks_keeps : (r : Receiver) (b : Bool) (p : Phase) → PhaseKnows (K ⊎ (says (parameters (ask_of true (asking true (at_phase r p)))) ≡ commits)) p → is_open p ≡ true →
      TickKeeps p (if b then record { after = record (asking true (at_phase r p)) { resends = r.resends + 1 }; answer = Resend (ask_of true (asking true (at_phase r p))) } else record { after = record (at_phase r p) { phase = phase.Ended }; answer = Over DeadlineExceeded })
  asks_keeps r true p h e = (quiet _ (λ is. cc), h)
  asks_keeps r false p h e = rw e ((λ x. absurd cc, (λ x. absurd cc, tt)), λ x. absurd cc)

  end_keeps : (r : Receiver) (b : Bool) (status : Status) → (status ≡ Okay → K) →
      TickKeeps (phase.Completing status) (if b then record { after = record (at_phase r (phase.Completing status)) { resends = r.resends + 1 }; answer = ResendEnd status } else record { after = record (at_phase r (phase.Completing status)) { phase = phase.Ended }; answer = Over status })
  end_keeps r true status h = ended_keeps status h
  end_keeps r false status h = (tt, h)

  timed_keeps : (r : Receiver) (p : Phase) → PhaseKnows K p → TickKeeps p (timeout_outcome (at_phase r p) p)
  timed_keeps r phase.Receiving h = asks_keeps r (nat_lt r.resends MAX_RESENDS) phase.Receiving tt refl
  timed_keeps r phase.Recovering h = asks_keeps r (nat_lt r.resends MAX_RESENDS) phase.Recovering tt refl
  timed_keeps r (phase.Completing status) h = end_keeps r (nat_lt r.resends MAX_RESENDS) status h
  timed_keeps r phase.Ended h = (tt, tt)

  ticked_keeps : (r : Receiver) (now : ℕ) (b : Bool) → nat_le (r.active + TIMEOUT) now ≡ b → PhaseKnows K r.phase → TickKeeps r.phase (tick_outcome r now)
  ticked_keeps r now true e h = rw e (timed_keeps (active_at now r) r.phase h)
  ticked_keeps r now false e h = rw e (tt, h)

  pub tick_keeps : (side : Side) (now : ℕ) (s : Stage) → Knows K (Some s) → StageKeeps K (stage_ticks side now s)
  tick_keeps side now (stage.Opening o) h = opening_keeps side now o (nat_le (o.active + TIMEOUT) now) refl
  tick_keeps side now (stage.Sending s) h = absurd h
  tick_keeps side now (stage.Receiving r) h = ticked_keeps r now (nat_le (r.active + TIMEOUT) now) refl h
  tick_keeps side now (stage.Ended status) h = (tt, h)

  -- The end of the call.
  leaving_keeps : (side : Side) → SaysKnown K (leaving side)
  leaving_keeps Read = tt
  leaving_keeps Write = quiet _ (λ is. cc)

  stopped_keeps : (r : Receiver) (p : Phase) → PhaseKnows K p → StageKeeps K (receiver_stops p)
  stopped_keeps r phase.Receiving h = (quiet _ (λ is. cc), λ x. absurd cc)
  stopped_keeps r phase.Recovering h = (quiet _ (λ is. cc), λ x. absurd cc)
  stopped_keeps r (phase.Completing status) h = (tt, h)
  stopped_keeps r phase.Ended h = (quiet _ (λ is. cc), λ x. absurd cc)

  pub stop_keeps : (side : Side) (s : Stage) → Knows K (Some s) → StageKeeps K (stage_stops side s)
  stop_keeps side (stage.Opening o) h = (leaving_keeps side, λ x. absurd cc)
  stop_keeps side (stage.Sending s) h = absurd h
  stop_keeps side (stage.Receiving r) h = stopped_keeps r r.phase h
  stop_keeps side (stage.Ended status) h = (tt, h)
