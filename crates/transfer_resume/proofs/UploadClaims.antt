-- What all that follows owes an upload, by where its session stands: one session, step by step.
use Rattle.std.proofs.Common.{◌≡◌, ℕ, ◌+◌, ◌==◌, ◌&&◌, not, nat_lt, nat_le, inl, inr, Bool, true, false, if◌then◌else◌, List, [], ◌∷◌, ◌++◌, length, Option, Some, None, refl, sym, ap, subst, arith}
use Rattle.std.proofs.lemmas.Bool.Decides.{nat_tests}
use Rattle.rpc_ids.specs.declared.Status.{Status}
use Rattle.rpc_ids.specs.declared.Status.TheVariants.{Okay, Internal, OutOfRange, DeadlineExceeded}
use Rattle.transfer_base.specs.declared.Piece.{Piece}
use Rattle.transfer_base.specs.declared.limits.TheConstants.{MAX_RESOURCE, TIMEOUT}
use Rattle.transfer_base.specs.PieceLists.{IsPickedFrom, OnlyTheLastEnds, Joins}
use Rattle.transfer_sender.specs.declared.sender.TheConstants.{MAX_TIMEOUTS}
use Rattle.transfer_receiver.specs.declared.receiver.TheConstants.{MAX_RESENDS}
use Rattle.transfer_receiver.specs.declared.phase.Phase.{Phase}
use Rattle.transfer_receiver.specs.declared.phase.Phase.TheVariants as phase
use Rattle.transfer_receiver.specs.Phase.{is_open, is_recovering}
use Rattle.transfer_receiver.specs.declared.answers.Received.TheVariants.{Kept, Again}
use Rattle.transfer_receiver.specs.declared.answers.Ticked.TheVariants.{Resend, ResendEnd, Over}
use Rattle.transfer_receiver.specs.Answers.{is_okay}
use Rattle.transfer_receiver.specs.Receiver.{Receiver, asking, ask_of}
use Rattle.transfer_receiver.specs.PieceRules.{PieceOutcome, ignoring, ending, asking_again, keeping, is_half_used, going_on, taking, open_outcome, piece_outcome, active_at}
use Rattle.transfer_receiver.specs.TickRules.{TickOutcome, staying, timeout_outcome}
use Rattle.transfer_words.specs.Word.{Word, start, start_ack, confirmation, parameters, data_comes, completion, completion_ack}
use Rattle.transfer_words.specs.Saying.{Saying, says, appends, commits, leaves}
use Rattle.transfer_words.specs.CoreAnswers.{of_piece, of_tick, kept_last}
use Rattle.transfer_resume.specs.declared.side.Side.{Side}
use Rattle.transfer_resume.specs.declared.side.Side.TheVariants.{Write}
use Rattle.transfer_resume.specs.declared.stage.Opening.{Opening}
use Rattle.transfer_resume.specs.declared.stage.Stage.{Stage}
use Rattle.transfer_resume.specs.declared.stage.Stage.TheVariants as stage
use Rattle.transfer_resume.specs.Session.{Service}
use Rattle.transfer_resume.specs.Receiver.{completed, acknowledged, receiving_or_over, receiver_stops}
use Rattle.transfer_resume.specs.Opening.{opened, agreed_offset, confirmed, opening_timeout, opening_ticks, leaving}
use Rattle.transfer_resume.specs.Hears.{stage_hears, session_hears}
use Rattle.transfer_resume.specs.Ticks.{stage_ticks, stage_stops}
use Rattle.transfer_resume.proofs.RowLemmas.{true_false}
use Rattle.transfer_resume.specs.Uploads.{with_deed, Follows, goes_on, is_left, is_whole, IsUpload, joined_bytes}

-- the store actions of what a session says and does, in front of others
abbrev pub with_deeds : List Saying → List Saying → List Saying
with_deeds [] ds = ds
with_deeds (s ∷ sayings) ds = with_deed s (with_deeds sayings ds)

-- while a session receives, by its phase
abbrev pub PhaseOwes : List Piece → ℕ → List Saying → Phase → Type 0
PhaseOwes ps next ds phase.Receiving = Follows ps next ds
PhaseOwes ps next ds phase.Recovering = Follows ps next ds
PhaseOwes ps next ds (phase.Completing status) = ds ≡ []
PhaseOwes ps next ds phase.Ended = Unit {0}

-- where a session stands so, and these pieces still come, these store actions are owed. No session of Write sends
abbrev pub Owes : List Piece → List Saying → Option Stage → Type 0
Owes ps ds None = IsUpload ps ds
Owes ps ds (Some (stage.Opening o)) = Follows ps o.agreed ds
Owes ps ds (Some (stage.Sending s)) = Unit {0}
Owes ps ds (Some (stage.Receiving r)) = PhaseOwes ps r.next ds r.phase
Owes ps ds (Some (stage.Ended status)) = ds ≡ []

-- What follows the beginning, one step more.

skipped : (p : Piece) (ps : List Piece) (offset : ℕ) (bytes : List ℕ) → Joins ps offset bytes → Joins (p ∷ ps) offset bytes
skipped p ps offset bytes j = record { picked = j.picked; in_order = passed j.picked j.in_order; consecutive = j.consecutive; last = j.last; data_is = j.data_is }
  where
    passed : (qs : List Piece) → IsPickedFrom qs ps → IsPickedFrom qs (p ∷ ps)
    passed [] h = tt
    passed (q ∷ qs) h = inr h

more_came : (p : Piece) (ps : List Piece) (offset : ℕ) (ds : List Saying) → Follows ps offset ds → Follows (p ∷ ps) offset ds
more_came p ps offset ds (goes_on bytes e) = goes_on bytes e
more_came p ps offset ds (is_left bytes e) = is_left bytes e
more_came p ps offset ds (is_whole bytes e j) = is_whole bytes e (skipped p ps offset (joined_bytes bytes) j)

left : (ps : List Piece) (offset : ℕ) (ds : List Saying) → ds ≡ [] → Follows ps offset (leaves ∷ ds)
left ps offset ds none = is_left [] (ap (λ rest. leaves ∷ rest) none)

joins_more : (p : Piece) (ps : List Piece) (offset : ℕ) (bytes : List ℕ) → p.offset ≡ offset → p.last ≡ false → Joins ps (offset + length p.bytes) bytes →
    Joins (p ∷ ps) offset (p.bytes ++ bytes)
joins_more p ps offset bytes at more j = record {
  picked = p ∷ j.picked;
  in_order = inl (refl, j.in_order);
  consecutive = (at, j.consecutive);
  last = behind j.picked j.last;
  data_is = ap (λ rest. p.bytes ++ rest) j.data_is;
}
  where
    behind : (qs : List Piece) → OnlyTheLastEnds qs → OnlyTheLastEnds (p ∷ qs)
    behind [] h = absurd h
    behind (q ∷ qs) h = (more, h)

kept : (p : Piece) (ps : List Piece) (offset : ℕ) (ds : List Saying) → p.offset ≡ offset → p.last ≡ false → Follows ps (offset + length p.bytes) ds →
    Follows (p ∷ ps) offset (appends p.bytes ∷ ds)
kept p ps offset ds at more (goes_on bytes e) = goes_on (p.bytes ∷ bytes) (ap (λ rest. appends p.bytes ∷ rest) e)
kept p ps offset ds at more (is_left bytes e) = is_left (p.bytes ∷ bytes) (ap (λ rest. appends p.bytes ∷ rest) e)
kept p ps offset ds at more (is_whole bytes e j) = is_whole (p.bytes ∷ bytes) (ap (λ rest. appends p.bytes ∷ rest) e) (joins_more p ps offset (joined_bytes bytes) at more j)

-- the last piece alone joins
joins_last : (p : Piece) (ps : List Piece) (offset : ℕ) (bytes : List ℕ) → p.offset ≡ offset → p.last ≡ true → bytes ≡ p.bytes ++ [] → Joins (p ∷ ps) offset bytes
joins_last p ps offset bytes at last same = record { picked = p ∷ []; in_order = inl (refl, tt); consecutive = (at, tt); last = last; data_is = same }

empty_by : (xs : List ℕ) → (length xs == 0) ≡ true → [] ≡ xs ++ []
empty_by [] e = refl
empty_by (x ∷ xs) e = grind (arith, nat_tests)

whole : (p : Piece) (ps : List Piece) (offset : ℕ) (ds : List Saying) → p.offset ≡ offset → p.last ≡ true → ds ≡ [] →
    Follows (p ∷ ps) offset (with_deeds ((kept_last p.bytes ++ commits ∷ []) ++ says (completion Okay) ∷ []) ds)
whole p ps offset ds at last none = by_size (length p.bytes == 0) refl
  where
    by_size : (b : Bool) → (length p.bytes == 0) ≡ b →
        Follows (p ∷ ps) offset (with_deeds (((if b then [] else appends p.bytes ∷ []) ++ commits ∷ []) ++ says (completion Okay) ∷ []) ds)
    by_size true e = is_whole [] (ap (λ rest. commits ∷ rest) none) (joins_last p ps offset [] at last (empty_by p.bytes e))
    by_size false e = is_whole (p.bytes ∷ []) (ap (λ rest. appends p.bytes ∷ commits ∷ rest) none) (joins_last p ps offset (p.bytes ++ []) at last refl)

-- A piece.

open_owes : (ps : List Piece) (next : ℕ) (ds : List Saying) (p : Phase) → is_open p ≡ true → PhaseOwes ps next ds p → Follows ps next ds
open_owes ps next ds phase.Receiving e h = h
open_owes ps next ds phase.Recovering e h = h
open_owes ps next ds (phase.Completing status) e h = absurd (true_false (sym e))
open_owes ps next ds phase.Ended e h = absurd (true_false (sym e))

owes_open : (ps : List Piece) (next : ℕ) (ds : List Saying) (p : Phase) → is_open p ≡ true → Follows ps next ds → PhaseOwes ps next ds p
owes_open ps next ds phase.Receiving e h = h
owes_open ps next ds phase.Recovering e h = h
owes_open ps next ds (phase.Completing status) e h = absurd (true_false (sym e))
owes_open ps next ds phase.Ended e h = absurd (true_false (sym e))

closed_owes : (q : Piece) (ps : List Piece) (next : ℕ) (ds : List Saying) (p : Phase) → is_open p ≡ false → PhaseOwes ps next ds p → PhaseOwes (q ∷ ps) next ds p
closed_owes q ps next ds phase.Receiving e h = more_came q ps next ds h
closed_owes q ps next ds phase.Recovering e h = more_came q ps next ds h
closed_owes q ps next ds (phase.Completing status) e h = h
closed_owes q ps next ds phase.Ended e h = tt

module _ (p : Piece) (ps : List Piece) (ds : List Saying) where
  -- the outcome of the piece, at a receiver that takes pieces
  abbrev Fits : Receiver → PieceOutcome → Type 0
  Fits r t = Owes ps ds (Some (stage.Receiving t.after)) → Follows (p ∷ ps) r.next (with_deeds (of_piece p.bytes t.answer) ds)

  ignored : (r : Receiver) → is_open r.phase ≡ true → Fits r (ignoring r)
  ignored r opens h = more_came p ps r.next ds (open_owes ps r.next ds r.phase opens h)

  again_by : (r : Receiver) → is_open r.phase ≡ true → (b : Bool) →
      Fits r (if b then ignoring r else record { after = record (asking true r) { phase = phase.Recovering }; answer = Again (ask_of true (asking true r)) })
  again_by r opens true = ignored r opens
  again_by r opens false = λ h. more_came p ps r.next ds h

  failed : (r : Receiver) (status : Status) → is_okay status ≡ false → Fits r (ending r status)
  failed r status e = λ h. rw e (left (p ∷ ps) r.next ds h)

  goes_by : (r : Receiver) (b : Bool) → p.offset ≡ r.next → p.last ≡ false →
      Fits r (if b then record { after = asking false (keeping r (p.offset + length p.bytes)); answer = Kept (Some (ask_of false (asking false (keeping r (p.offset + length p.bytes))))) } else record { after = keeping r (p.offset + length p.bytes); answer = Kept None })
  goes_by r true at more = λ h. kept p ps r.next ds at more (subst (λ n. Follows ps (n + length p.bytes) ds) at h)
  goes_by r false at more = λ h. kept p ps r.next ds at more (subst (λ n. Follows ps (n + length p.bytes) ds) at h)

  last_by : (r : Receiver) (b : Bool) → p.offset ≡ r.next → p.last ≡ b →
      Fits r (if b then ending (keeping r (p.offset + length p.bytes)) Okay else going_on (keeping r (p.offset + length p.bytes)))
  last_by r true at last = λ h. whole p ps r.next ds at last h
  last_by r false at last = goes_by r (is_half_used (keeping r (p.offset + length p.bytes))) at last

  range_by : (r : Receiver) (b : Bool) → p.offset ≡ r.next →
      Fits r (if b then ending r OutOfRange else if p.last then ending (keeping r (p.offset + length p.bytes)) Okay else going_on (keeping r (p.offset + length p.bytes)))
  range_by r true at = failed r OutOfRange refl
  range_by r false at = last_by r p.last at refl

  window_by : (r : Receiver) (b : Bool) → p.offset ≡ r.next →
      Fits r (if b then ending r Internal else if nat_lt MAX_RESOURCE (p.offset + length p.bytes) then ending r OutOfRange else if p.last then ending (keeping r (p.offset + length p.bytes)) Okay else going_on (keeping r (p.offset + length p.bytes)))
  window_by r true at = failed r Internal refl
  window_by r false at = range_by r (nat_lt MAX_RESOURCE (p.offset + length p.bytes)) at

  past_by : (r : Receiver) → is_open r.phase ≡ true → (b : Bool) → nat_lt r.next p.offset ≡ b → nat_lt p.offset r.next ≡ false →
      Fits r (if b then asking_again r else taking r (p.offset + length p.bytes) p.last)
  past_by r opens true e not_before = again_by r opens (is_recovering r.phase)
  past_by r opens false e not_before = window_by r (nat_lt r.window_end (p.offset + length p.bytes)) (grind (arith, nat_tests))

  empty_piece_by : (r : Receiver) → is_open r.phase ≡ true → (b : Bool) → nat_lt p.offset r.next ≡ false →
      Fits r (if b then ignoring r else if nat_lt r.next p.offset then asking_again r else taking r (p.offset + length p.bytes) p.last)
  empty_piece_by r opens true not_before = ignored r opens
  empty_piece_by r opens false not_before = past_by r opens (nat_lt r.next p.offset) refl not_before

  before_by : (r : Receiver) → is_open r.phase ≡ true → (b : Bool) → nat_lt p.offset r.next ≡ b →
      Fits r (if b then ignoring r else if (length p.bytes == 0) && not p.last then ignoring r else if nat_lt r.next p.offset then asking_again r else taking r (p.offset + length p.bytes) p.last)
  before_by r opens true e = ignored r opens
  before_by r opens false e = empty_piece_by r opens ((length p.bytes == 0) && not p.last) e

  open_by : (r : Receiver) (b : Bool) → is_open r.phase ≡ b →
      Owes ps ds (Some (stage.Receiving (if b then open_outcome r p.offset (length p.bytes) p.last else ignoring r).after)) →
      PhaseOwes (p ∷ ps) r.next (with_deeds (of_piece p.bytes (if b then open_outcome r p.offset (length p.bytes) p.last else ignoring r).answer) ds) r.phase
  open_by r true e h = owes_open (p ∷ ps) r.next _ r.phase e (before_by r e (nat_lt p.offset r.next) refl h)
  open_by r false e h = closed_owes p ps r.next ds r.phase e h

pub piece_claim : (p : Piece) (ps : List Piece) (ds : List Saying) (r : Receiver) (now : ℕ) →
    Owes ps ds (Some (stage.Receiving (piece_outcome (active_at now r) p.offset (length p.bytes) p.last).after)) →
    PhaseOwes (p ∷ ps) r.next (with_deeds (of_piece p.bytes (piece_outcome (active_at now r) p.offset (length p.bytes) p.last).answer) ds) r.phase
piece_claim p ps ds r now = open_by p ps ds (active_at now r) (is_open r.phase) refl

-- A word.

abbrev pub with_word : Word → List Piece → List Piece
with_word (data_comes p) ps = p ∷ ps
with_word _ ps = ps

completed_claim : (ps : List Piece) (ds : List Saying) (r : Receiver) (p : Phase) (told : Status) → r.phase ≡ p →
    Owes ps ds (Some (completed r p told).after) → PhaseOwes ps r.next (with_deeds (completed r p told).sayings ds) p
completed_claim ps ds r phase.Receiving told e h = left ps r.next ds h
completed_claim ps ds r phase.Recovering told e h = left ps r.next ds h
completed_claim ps ds r (phase.Completing status) told e h = subst (PhaseOwes ps r.next ds) e h
completed_claim ps ds r phase.Ended told e h = tt

known_claim : (ps : List Piece) (ds : List Saying) (r : Receiver) (p : Phase) → r.phase ≡ p →
    Owes ps ds (Some (acknowledged r p).after) → PhaseOwes ps r.next (with_deeds (acknowledged r p).sayings ds) p
known_claim ps ds r phase.Receiving e h = subst (PhaseOwes ps r.next ds) e h
known_claim ps ds r phase.Recovering e h = subst (PhaseOwes ps r.next ds) e h
known_claim ps ds r (phase.Completing status) e h = h
known_claim ps ds r phase.Ended e h = tt

again_claim : (ps : List Piece) (ds : List Saying) (o : Opening) (b : Bool) → Follows ps o.agreed ds → Follows ps o.agreed (with_deeds (if b then says (start_ack o.agreed) ∷ [] else []) ds)
again_claim ps ds o true h = h
again_claim ps ds o false h = h

leaving_claim : (ps : List Piece) (ds : List Saying) (offset : ℕ) (side : Side) → side ≡ Write → (w : Word) → ds ≡ [] → Follows ps offset (with_deeds (leaving side ++ says w ∷ []) ds)
leaving_claim ps ds offset side is w none = subst (λ x. Follows ps offset (with_deeds (leaving x ++ says w ∷ []) ds)) (sym is) (left ps offset ds none)

upload_more : (p : Piece) (ps : List Piece) (ds : List Saying) → IsUpload ps ds → IsUpload (p ∷ ps) ds
upload_more p ps ds (inl none) = inl none
upload_more p ps ds (inr some) = inr (some.0, some.1, some.2, some.3, more_came p ps some.1 some.2 some.4)

stage_claim : (k : Service) → k.side ≡ Write → (s : Stage) (w : Word) (ps : List Piece) (ds : List Saying) →
    Owes ps ds (Some (stage_hears k s w).after) → Owes (with_word w ps) (with_deeds (stage_hears k s w).sayings ds) (Some s)
stage_claim k is (stage.Opening o) (start resource offset) ps ds h = again_claim ps ds o (o.resource == resource) h
stage_claim k is (stage.Opening o) (start_ack offset) ps ds h = h
stage_claim k is (stage.Opening o) (confirmation ask) ps ds h =
    subst (λ x. Owes ps ds (Some (confirmed x k o ask).after) → Follows ps o.agreed (with_deeds (confirmed x k o ask).sayings ds)) (sym is) (λ f. f) h
stage_claim k is (stage.Opening o) (parameters ask) ps ds h = h
stage_claim k is (stage.Opening o) (data_comes p) ps ds h = more_came p ps o.agreed ds h
stage_claim k is (stage.Opening o) (completion status) ps ds h = leaving_claim ps ds o.agreed k.side is completion_ack h
stage_claim k is (stage.Opening o) completion_ack ps ds h = h
stage_claim k is (stage.Sending s) w ps ds h = tt
stage_claim k is (stage.Receiving r) (start resource offset) ps ds h = h
stage_claim k is (stage.Receiving r) (start_ack offset) ps ds h = h
stage_claim k is (stage.Receiving r) (confirmation ask) ps ds h = h
stage_claim k is (stage.Receiving r) (parameters ask) ps ds h = h
stage_claim k is (stage.Receiving r) (data_comes p) ps ds h = piece_claim p ps ds r k.time h
stage_claim k is (stage.Receiving r) (completion status) ps ds h = completed_claim ps ds r r.phase status refl h
stage_claim k is (stage.Receiving r) completion_ack ps ds h = known_claim ps ds r r.phase refl h
stage_claim k is (stage.Ended status) (start resource offset) ps ds h = h
stage_claim k is (stage.Ended status) (start_ack offset) ps ds h = h
stage_claim k is (stage.Ended status) (confirmation ask) ps ds h = h
stage_claim k is (stage.Ended status) (parameters ask) ps ds h = h
stage_claim k is (stage.Ended status) (data_comes p) ps ds h = h
stage_claim k is (stage.Ended status) (completion told) ps ds h = h
stage_claim k is (stage.Ended status) completion_ack ps ds h = h

start_claim : (k : Service) → k.side ≡ Write → (room : Bool) (resource offset : ℕ) (ps : List Piece) (ds : List Saying) →
    Owes ps ds (session_hears k room None (start resource offset)).after → Owes ps (with_deeds (session_hears k room None (start resource offset)).sayings ds) None
start_claim k is true resource offset ps ds h =
    subst (λ x. Owes ps ds (Some (opened x k resource offset).after) → IsUpload ps (with_deeds (opened x k resource offset).sayings ds)) (sym is)
    (λ f. inr (resource, agreed_offset k.shelf resource offset, ds, refl, f)) h
start_claim k is false resource offset ps ds h = h

-- what a word for the session owes
pub word_claim : (k : Service) → k.side ≡ Write → (room : Bool) (state : Option Stage) (w : Word) (ps : List Piece) (ds : List Saying) →
    Owes ps ds (session_hears k room state w).after → Owes (with_word w ps) (with_deeds (session_hears k room state w).sayings ds) state
word_claim k is room (Some s) w ps ds h = stage_claim k is s w ps ds h
word_claim k is room None (start resource offset) ps ds h = start_claim k is room resource offset ps ds h
word_claim k is room None (start_ack offset) ps ds h = h
word_claim k is room None (confirmation ask) ps ds h = h
word_claim k is room None (parameters ask) ps ds h = h
word_claim k is room None (data_comes p) ps ds h = upload_more p ps ds h
word_claim k is room None (completion status) ps ds h = h
word_claim k is room None completion_ack ps ds h = h

-- The time, and the end of the call.

timeout_claim : (ps : List Piece) (ds : List Saying) (now : ℕ) (o : Opening) (b : Bool) → (o.timeouts + 1 == MAX_TIMEOUTS) ≡ b →
    Owes ps ds (Some (opening_timeout Write now o).after) → Follows ps o.agreed (with_deeds (opening_timeout Write now o).sayings ds)
timeout_claim ps ds now o true e = rw e (λ h. left ps o.agreed ds h)
timeout_claim ps ds now o false e = rw e (λ h. h)

opening_claim : (ps : List Piece) (ds : List Saying) (now : ℕ) (o : Opening) (b : Bool) → nat_le (o.active + TIMEOUT) now ≡ b →
    Owes ps ds (Some (opening_ticks Write now o).after) → Follows ps o.agreed (with_deeds (opening_ticks Write now o).sayings ds)
opening_claim ps ds now o true e = rw e (timeout_claim ps ds now o (o.timeouts + 1 == MAX_TIMEOUTS) refl)
opening_claim ps ds now o false e = rw e (λ h. h)

-- the outcome of a tick, at a receiver of this phase
abbrev TickFits : List Piece → List Saying → ℕ → Phase → TickOutcome → Type 0
TickFits ps ds next p t = Owes ps ds (Some (receiving_or_over t.after t.answer)) → PhaseOwes ps next (with_deeds (of_tick (is_open p) t.answer) ds) p

abbrev at_phase : Receiver → Phase → Receiver
at_phase r p = record r { phase = p }

resend_fits : (ps : List Piece) (ds : List Saying) (r : Receiver) (b : Bool) (p : Phase) → is_open p ≡ true →
    TickFits ps ds r.next p (if b then record { after = record (asking true (at_phase r p)) { resends = r.resends + 1 }; answer = Resend (ask_of true (asking true (at_phase r p))) } else record { after = record (at_phase r p) { phase = phase.Ended }; answer = Over DeadlineExceeded })
resend_fits ps ds r true p e h = h
resend_fits ps ds r false p e h = owes_open ps r.next _ p e (rw e (left ps r.next ds h))

end_fits : (ps : List Piece) (ds : List Saying) (r : Receiver) (b : Bool) (status : Status) →
    TickFits ps ds r.next (phase.Completing status) (if b then record { after = record (at_phase r (phase.Completing status)) { resends = r.resends + 1 }; answer = ResendEnd status } else record { after = record (at_phase r (phase.Completing status)) { phase = phase.Ended }; answer = Over status })
end_fits ps ds r true status h = h
end_fits ps ds r false status h = h

timed_fits : (ps : List Piece) (ds : List Saying) (r : Receiver) (p : Phase) → TickFits ps ds r.next p (timeout_outcome (at_phase r p) p)
timed_fits ps ds r phase.Receiving = resend_fits ps ds r (nat_lt r.resends MAX_RESENDS) phase.Receiving refl
timed_fits ps ds r phase.Recovering = resend_fits ps ds r (nat_lt r.resends MAX_RESENDS) phase.Recovering refl
timed_fits ps ds r (phase.Completing status) = end_fits ps ds r (nat_lt r.resends MAX_RESENDS) status
timed_fits ps ds r phase.Ended = λ h. tt

tick_fits : (ps : List Piece) (ds : List Saying) (r : Receiver) (now : ℕ) (b : Bool) →
    TickFits ps ds r.next r.phase (if b then timeout_outcome (active_at now r) r.phase else staying r)
tick_fits ps ds r now true = timed_fits ps ds (active_at now r) r.phase
tick_fits ps ds r now false = λ h. h

-- what a tick owes
pub tick_claim : (now : ℕ) (s : Stage) (ps : List Piece) (ds : List Saying) →
    Owes ps ds (Some (stage_ticks Write now s).after) → Owes ps (with_deeds (stage_ticks Write now s).sayings ds) (Some s)
tick_claim now (stage.Opening o) ps ds h = opening_claim ps ds now o (nat_le (o.active + TIMEOUT) now) refl h
tick_claim now (stage.Sending s) ps ds h = tt
tick_claim now (stage.Receiving r) ps ds h = tick_fits ps ds r now (nat_le (r.active + TIMEOUT) now) h
tick_claim now (stage.Ended status) ps ds h = h

stops_claim : (ps : List Piece) (ds : List Saying) (next : ℕ) (p : Phase) → Owes ps ds (Some (receiver_stops p).after) → PhaseOwes ps next (with_deeds (receiver_stops p).sayings ds) p
stops_claim ps ds next phase.Receiving h = left ps next ds h
stops_claim ps ds next phase.Recovering h = left ps next ds h
stops_claim ps ds next (phase.Completing status) h = h
stops_claim ps ds next phase.Ended h = tt

-- what the end of the call owes
pub end_claim : (s : Stage) (ps : List Piece) (ds : List Saying) →
    Owes ps ds (Some (stage_stops Write s).after) → Owes ps (with_deeds (stage_stops Write s).sayings ds) (Some s)
end_claim (stage.Opening o) ps ds h = left ps o.agreed ds h
end_claim (stage.Sending s) ps ds h = tt
end_claim (stage.Receiving r) ps ds h = stops_claim ps ds r.next r.phase h
end_claim (stage.Ended status) ps ds h = h
