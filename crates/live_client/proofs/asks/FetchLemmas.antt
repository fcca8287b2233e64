-- A read that ends with OK has made its resource whole, of pieces that it heard; or it was told OK.
use Rattle.std.proofs.Common.{◌≡◌, ◌≢◌, ◌⊎◌, ℕ, ◌+◌, ◌==◌, ◌&&◌, not, nat_lt, nat_le, if◌then◌else◌, Bool, true, false, List, [], ◌∷◌, ◌++◌, map, flat_map, length, Option, Some, None, inl, inr, refl, ap, sym, ◌∙◌, subst, arith, append_assoc}
use Rattle.std.proofs.lemmas.Bool.{false≢true}
use Rattle.std.proofs.lemmas.Bool.Decides.{nat_tests}
use Rattle.std.proofs.lemmas.List.{append-nil, map-append}
use Rattle.std.proofs.lemmas.List.Concat.{flat_map-append}
use Rattle.std.specs.List.{AllByRecursion, concat}
use Rattle.rpc_ids.specs.declared.status.Status.{Status}
use Rattle.rpc_ids.specs.declared.status.Status.TheVariants.{Okay, Internal, OutOfRange, Aborted}
use Rattle.task_core.specs.declared.mail.Mail.{Mail}
use Rattle.task_core.specs.declared.mail.Mail.TheVariants.{Text, Closed}
use Rattle.transfer_base.specs.declared.Piece.{Piece}
use Rattle.transfer_base.specs.declared.limits.TheConstants.{MAX_RESOURCE, TIMEOUT}
use Rattle.transfer_base.specs.PieceLists.{AreConsecutive, IsPickedFrom, Joins, OnlyTheLastEnds, bytes_of, end_of}
use Rattle.transfer_receiver.specs.declared.receiver.TheConstants.{MAX_RESENDS}
use Rattle.transfer_receiver.specs.declared.answers.Received.TheVariants.{Kept, Again}
use Rattle.transfer_receiver.specs.declared.phase.Phase.{Phase}
use Rattle.transfer_receiver.specs.declared.phase.Phase.TheVariants as phase
use Rattle.transfer_receiver.specs.Phase.{is_open, is_recovering}
use Rattle.transfer_receiver.specs.Answers.{is_okay}
use Rattle.transfer_receiver.specs.Receiver.{Receiver, asking, ask_of}
use Rattle.transfer_receiver.specs.PieceRules.{PieceOutcome, active_at, asking_again, ending, going_on, ignoring, is_half_used, keeping, open_outcome, taking}
use Rattle.transfer_receiver.specs.Run.{outcome_of}
use Rattle.transfer_receiver.specs.TickRules.{resending_ask, resending_end, tick_outcome, timeout_outcome}
use Rattle.transfer_words.specs.Word.{Word, start, start_ack, confirmation, parameters, data_comes, completion, completion_ack}
use Rattle.transfer_words.specs.Saying.{Saying, Stepped, says, begins, appends, commits, leaves}
use Rattle.transfer_words.specs.CoreAnswers.{of_piece, of_tick}
use Rattle.transfer_client.specs.declared.stages.Wait.{Wait}
use Rattle.transfer_client.specs.declared.stages.Reading.{Reading}
use Rattle.transfer_client.specs.declared.stages.Reading.TheVariants as reading
use Rattle.transfer_client.specs.Wait as waiting
use Rattle.transfer_client.specs.Polling as polling
use Rattle.transfer_client.specs.Read.{Download, acknowledged, agrees, asking_hears, asking_timeout, closes_at, completed, hears_at, opens_at, read_rules, receiving_hears, receiving_or_over, ticks_at}
use Rattle.live_client.specs.asks.Ends.{piece_by}
use Rattle.live_client.proofs.asks.DeadlineLemmas.{AnyMail, any_back, any_front}
use Rattle.live_client.proofs.asks.WalkLemmas.{Keeps}

-- ---- the store actions among what is said

abbrev pub with_deed : Saying → List Saying → List Saying
with_deed (says w) ss = ss
with_deed (begins r o) ss = begins r o ∷ ss
with_deed (appends bytes) ss = appends bytes ∷ ss
with_deed commits ss = commits ∷ ss
with_deed leaves ss = leaves ∷ ss

abbrev pub deeds : List Saying → List Saying
deeds [] = []
deeds (s ∷ ss) = with_deed s (deeds ss)

deed_front : (s : Saying) (xs ys : List Saying) → with_deed s xs ++ ys ≡ with_deed s (xs ++ ys)
deed_front (says w) xs ys = refl
deed_front (begins r o) xs ys = refl
deed_front (appends bytes) xs ys = refl
deed_front commits xs ys = refl
deed_front leaves xs ys = refl

deeds-append : (xs ys : List Saying) → deeds (xs ++ ys) ≡ deeds xs ++ deeds ys
deeds-append [] ys = refl
deeds-append (x ∷ xs) ys = ap (with_deed x) (deeds-append xs ys) ∙ sym (deed_front x (deeds xs) (deeds ys))

quiet_deeds : (said more : List Saying) → deeds more ≡ [] → deeds (said ++ more) ≡ deeds said
quiet_deeds said more none = deeds-append said more ∙ (ap (λ ds. deeds said ++ ds) none ∙ append-nil (deeds said))

concat-one : (xs : List (List ℕ)) (x : List ℕ) → concat (xs ++ x ∷ []) ≡ concat xs ++ x
concat-one [] x = append-nil x
concat-one (y ∷ xs) x = ap (λ rest. y ++ rest) (concat-one xs x) ∙ sym (append_assoc y (concat xs) x)

-- ---- pieces that were picked

picked_later : (qs ps more : List Piece) → IsPickedFrom qs ps → IsPickedFrom qs (ps ++ more)
picked_later [] ps more is = tt
picked_later (q ∷ qs) [] more is = absurd is
picked_later (q ∷ qs) (p ∷ ps) more (inl is) = inl (is.0, picked_later qs ps more is.1)
picked_later (q ∷ qs) (p ∷ ps) more (inr is) = inr (picked_later (q ∷ qs) ps more is)

picked_last : (qs ps : List Piece) (p : Piece) → IsPickedFrom qs ps → IsPickedFrom (qs ++ p ∷ []) (ps ++ p ∷ [])
picked_last [] [] p is = inl (refl, tt)
picked_last [] (x ∷ ps) p is = inr (picked_last [] ps p tt)
picked_last (q ∷ qs) [] p is = absurd is
picked_last (q ∷ qs) (x ∷ ps) p (inl is) = inl (is.0, picked_last qs ps p is.1)
picked_last (q ∷ qs) (x ∷ ps) p (inr is) = inr (picked_last (q ∷ qs) ps p is)

pub joined_later : (came more : List Piece) (offset : ℕ) (bytes : List ℕ) → Joins came offset bytes → Joins (came ++ more) offset bytes
joined_later came more offset bytes j = record {
  picked = j.picked;
  in_order = picked_later j.picked came more j.in_order;
  consecutive = j.consecutive;
  last = j.last;
  data_is = j.data_is;
}

consecutive_last : (offset : ℕ) (qs : List Piece) (p : Piece) → AreConsecutive offset qs → p.offset ≡ end_of offset qs → AreConsecutive offset (qs ++ p ∷ [])
consecutive_last offset [] p is at = (at, tt)
consecutive_last offset (q ∷ qs) p is at = (is.0, consecutive_last (offset + length q.bytes) qs p is.1 at)

end-last : (offset : ℕ) (qs : List Piece) (p : Piece) → end_of offset (qs ++ p ∷ []) ≡ end_of offset qs + length p.bytes
end-last offset [] p = refl
end-last offset (q ∷ qs) p = end-last (offset + length q.bytes) qs p

bytes-last : (qs : List Piece) (p : Piece) → bytes_of (qs ++ p ∷ []) ≡ bytes_of qs ++ p.bytes
bytes-last [] p = append-nil p.bytes
bytes-last (q ∷ qs) p = ap (λ rest. q.bytes ++ rest) (bytes-last qs p) ∙ sym (append_assoc q.bytes (bytes_of qs) p.bytes)

abbrev pub NoneLast : List Piece → Type 0
NoneLast qs = AllByRecursion (λ p. p.last ≡ false) qs

none_last : (qs : List Piece) (p : Piece) → NoneLast qs → p.last ≡ false → NoneLast (qs ++ p ∷ [])
none_last [] p none is = (is, tt)
none_last (q ∷ qs) p none is = (none.0, none_last qs p none.1 is)

only_last : (qs : List Piece) (p : Piece) → NoneLast qs → p.last ≡ true → OnlyTheLastEnds (qs ++ p ∷ [])
only_last [] p none is = is
only_last (q ∷ []) p none is = (none.0, is)
only_last (q ∷ x ∷ qs) p none is = (none.0, only_last (x ∷ qs) p none.1 is)

no_bytes : (xs : List ℕ) → (length xs == 0) ≡ true → xs ≡ []
no_bytes [] e = refl
no_bytes (x ∷ xs) e = grind (arith, nat_tests)

by_call_other : (status : Status) (b : Bool) → is_okay status ≡ b → (if b then Aborted else status) ≡ Okay → ⊥
by_call_other status true e is = absurd cc
by_call_other status false e is = false≢true (sym e ∙ ap is_okay is)

module _ (session : ℕ) where
  -- this mail tells a task of the session that it ended with OK
  abbrev pub TellsOkay : Mail → Type 0
  TellsOkay (Text text) = polling.heard_word session text ≡ Some (completion Okay)
  TellsOkay (Closed status) = ⊥

  abbrev pub piece_of : Mail → List Piece
  piece_of (Text text) = piece_by (polling.heard_word session text)
  piece_of (Closed status) = []

  -- the pieces that came with this mail
  abbrev pub came : List Mail → List Piece
  came taken = flat_map piece_of taken

  pub came-more : (taken : List Mail) (mail : Mail) → came (taken ++ mail ∷ []) ≡ came taken ++ piece_of mail
  came-more taken mail = flat_map-append piece_of taken (mail ∷ []) ∙ ap (λ ps. came taken ++ ps) (append-nil (piece_of mail))

module _ (session resource : ℕ) where
  -- it has kept these pieces, the next of which begins here
  pub record Going (ps : List Piece) (a : ℕ) (said : List Saying) (next : ℕ) : Type 0 where
    pub picked : List Piece
    pub added : List (List ℕ)
    pub in_order : IsPickedFrom picked ps
    pub consecutive : AreConsecutive a picked
    pub none_last : NoneLast picked
    pub next_is : next ≡ end_of a picked
    pub deeds_are : deeds said ≡ begins resource a ∷ map appends added
    pub bytes_are : concat added ≡ bytes_of picked

  -- the resource was made whole, of pieces that came
  pub record Whole (ps : List Piece) (a : ℕ) (said : List Saying) : Type 0 where
    pub added : List (List ℕ)
    pub deeds_are : deeds said ≡ begins resource a ∷ (map appends added ++ commits ∷ [])
    pub joins : Joins ps a (concat added)

  going_later : (ps : List Piece) (a : ℕ) (said : List Saying) (next : ℕ) (more : List Piece) → Going ps a said next → Going (ps ++ more) a said next
  going_later ps a said next more g = record {
    picked = g.picked;
    added = g.added;
    in_order = picked_later g.picked ps more g.in_order;
    consecutive = g.consecutive;
    none_last = g.none_last;
    next_is = g.next_is;
    deeds_are = g.deeds_are;
    bytes_are = g.bytes_are;
  }

  going_quiet : (ps : List Piece) (a : ℕ) (said : List Saying) (next : ℕ) (more : List Saying) → deeds more ≡ [] → Going ps a said next → Going ps a (said ++ more) next
  going_quiet ps a said next more none g = record {
    picked = g.picked;
    added = g.added;
    in_order = g.in_order;
    consecutive = g.consecutive;
    none_last = g.none_last;
    next_is = g.next_is;
    deeds_are = quiet_deeds said more none ∙ g.deeds_are;
    bytes_are = g.bytes_are;
  }

  pub whole_later : (ps : List Piece) (a : ℕ) (said : List Saying) (more : List Piece) → Whole ps a said → Whole (ps ++ more) a said
  whole_later ps a said more w = record { added = w.added; deeds_are = w.deeds_are; joins = joined_later ps more a (concat w.added) w.joins }

  whole_quiet : (ps : List Piece) (a : ℕ) (said more : List Saying) → deeds more ≡ [] → Whole ps a said → Whole ps a (said ++ more)
  whole_quiet ps a said more none w = record { added = w.added; deeds_are = quiet_deeds said more none ∙ w.deeds_are; joins = w.joins }

  abbrev pub PhaseAt : List Piece → ℕ → List Saying → ℕ → Phase → Type 0
  PhaseAt ps a said next phase.Receiving = Going ps a said next
  PhaseAt ps a said next phase.Recovering = Going ps a said next
  PhaseAt ps a said next (phase.Completing status) = status ≡ Okay → Whole ps a said
  PhaseAt ps a said next phase.Ended = Unit {0}

  phase_later : (ps : List Piece) (a : ℕ) (said : List Saying) (next : ℕ) (p : Phase) (more : List Piece) → PhaseAt ps a said next p → PhaseAt (ps ++ more) a said next p
  phase_later ps a said next phase.Receiving more is = going_later ps a said next more is
  phase_later ps a said next phase.Recovering more is = going_later ps a said next more is
  phase_later ps a said next (phase.Completing status) more is = λ same. whole_later ps a said more (is same)
  phase_later ps a said next phase.Ended more is = tt

  phase_quiet : (ps : List Piece) (a : ℕ) (said more : List Saying) (next : ℕ) (p : Phase) → deeds more ≡ [] → PhaseAt ps a said next p → PhaseAt ps a (said ++ more) next p
  phase_quiet ps a said more next phase.Receiving none is = going_quiet ps a said next more none is
  phase_quiet ps a said more next phase.Recovering none is = going_quiet ps a said next more none is
  phase_quiet ps a said more next (phase.Completing status) none is = λ same. whole_quiet ps a said more none (is same)
  phase_quiet ps a said more next phase.Ended none is = tt

  open_going : (ps : List Piece) (a : ℕ) (said : List Saying) (next : ℕ) (p : Phase) → is_open p ≡ true → PhaseAt ps a said next p → Going ps a said next
  open_going ps a said next phase.Receiving e is = is
  open_going ps a said next phase.Recovering e is = is
  open_going ps a said next (phase.Completing status) e is = absurd (false≢true e)
  open_going ps a said next phase.Ended e is = absurd (false≢true e)

  -- ---- a piece that comes

  module _ (ps : List Piece) (a : ℕ) (said : List Saying) (p : Piece) where
    abbrev Then : List Piece
    Then = ps ++ p ∷ []

    abbrev Done : PieceOutcome → Type 0
    Done t = PhaseAt Then a (said ++ of_piece p.bytes t.answer) t.after.next t.after.phase

    ignored : (r : Receiver) → PhaseAt ps a said r.next r.phase → Done (ignoring r)
    ignored r is = phase_quiet Then a said [] r.next r.phase refl (phase_later ps a said r.next r.phase (p ∷ []) is)

    again_by : (r : Receiver) (b : Bool) → PhaseAt ps a said r.next r.phase → is_open r.phase ≡ true
        → Done (if b then ignoring r else record { after = record (asking true r) { phase = phase.Recovering }; answer = Again (ask_of true (asking true r)) })
    again_by r true is opens = ignored r is
    again_by r false is opens = going_quiet Then a said r.next _ refl (going_later ps a said r.next (p ∷ []) (open_going ps a said r.next r.phase opens is))

    failed : (r : Receiver) (status : Status) → status ≢ Okay → Done (ending r status)
    failed r status other = λ is. absurd (other is)

    kept : (next : ℕ) (more : List Saying) → Going ps a said next → p.offset ≡ next → p.last ≡ false → deeds more ≡ appends p.bytes ∷ [] → Going Then a (said ++ more) (p.offset + length p.bytes)
    kept next more g at goes one = record {
      picked = g.picked ++ p ∷ [];
      added = g.added ++ p.bytes ∷ [];
      in_order = picked_last g.picked ps p g.in_order;
      consecutive = consecutive_last a g.picked p g.consecutive (at ∙ g.next_is);
      none_last = none_last g.picked p g.none_last goes;
      next_is = ap (λ n. n + length p.bytes) (at ∙ g.next_is) ∙ sym (end-last a g.picked p);
      deeds_are =
          deeds-append said more
          ∙ (ap (λ ds. deeds said ++ ds) one ∙ (ap (λ ds. ds ++ appends p.bytes ∷ []) g.deeds_are ∙ ap (λ ds. begins resource a ∷ ds) (sym (map-append appends g.added (p.bytes ∷ [])))));
      bytes_are = concat-one g.added p.bytes ∙ (ap (λ xs. xs ++ p.bytes) g.bytes_are ∙ sym (bytes-last g.picked p));
    }

    going_by : (r : Receiver) (b : Bool) → Going ps a said r.next → p.offset ≡ r.next → p.last ≡ false
        → Done (if b then record { after = asking false (keeping r (p.offset + length p.bytes)); answer = Kept (Some (ask_of false (asking false (keeping r (p.offset + length p.bytes))))) } else record { after = keeping r (p.offset + length p.bytes); answer = Kept None })
    going_by r true g at goes = kept r.next _ g at goes refl
    going_by r false g at goes = kept r.next _ g at goes refl

    joins_all : (g : Going ps a said p.offset) → p.last ≡ true → Joins Then a (concat g.added ++ p.bytes)
    joins_all g last = record {
      picked = g.picked ++ p ∷ [];
      in_order = picked_last g.picked ps p g.in_order;
      consecutive = consecutive_last a g.picked p g.consecutive g.next_is;
      last = only_last g.picked p g.none_last last;
      data_is = ap (λ xs. xs ++ p.bytes) g.bytes_are ∙ sym (bytes-last g.picked p);
    }

    last_said : Going ps a said p.offset → p.last ≡ true → (b : Bool) → (length p.bytes == 0) ≡ b
        → Whole Then a (said ++ (((if b then [] else appends p.bytes ∷ []) ++ commits ∷ []) ++ says (completion Okay) ∷ []))
    last_said g last true e = record {
      added = g.added;
      deeds_are = deeds-append said (commits ∷ says (completion Okay) ∷ []) ∙ ap (λ ds. ds ++ commits ∷ []) g.deeds_are;
      joins = subst (Joins Then a) (ap (λ xs. concat g.added ++ xs) (no_bytes p.bytes e) ∙ append-nil (concat g.added)) (joins_all g last);
    }
    last_said g last false e = record {
      added = g.added ++ p.bytes ∷ [];
      deeds_are =
          deeds-append said (appends p.bytes ∷ commits ∷ says (completion Okay) ∷ [])
          ∙ (ap (λ ds. ds ++ appends p.bytes ∷ commits ∷ []) g.deeds_are
          ∙ ap (λ ds. begins resource a ∷ ds) (sym (append_assoc (map appends g.added) (appends p.bytes ∷ []) (commits ∷ [])) ∙ ap (λ ds. ds ++ commits ∷ []) (sym (map-append appends g.added (p.bytes ∷ [])))));
      joins = subst (Joins Then a) (sym (concat-one g.added p.bytes)) (joins_all g last);
    }

    last_by : (r : Receiver) (b : Bool) → p.last ≡ b → Going ps a said r.next → p.offset ≡ r.next
        → Done (if b then ending (keeping r (p.offset + length p.bytes)) Okay else going_on (keeping r (p.offset + length p.bytes)))
    last_by r true last g at = λ is. last_said (subst (Going ps a said) (sym at) g) last (length p.bytes == 0) refl
    last_by r false last g at = going_by r (is_half_used (keeping r (p.offset + length p.bytes))) g at last

    range_by : (r : Receiver) (b : Bool) → Going ps a said r.next → p.offset ≡ r.next
        → Done (if b then ending r OutOfRange else if p.last then ending (keeping r (p.offset + length p.bytes)) Okay else going_on (keeping r (p.offset + length p.bytes)))
    range_by r true g at = failed r OutOfRange (λ is. cc)
    range_by r false g at = last_by r p.last refl g at

    window_by : (r : Receiver) (b : Bool) → Going ps a said r.next → p.offset ≡ r.next
        → Done (if b then ending r Internal else if nat_lt MAX_RESOURCE (p.offset + length p.bytes) then ending r OutOfRange else if p.last then ending (keeping r (p.offset + length p.bytes)) Okay else going_on (keeping r (p.offset + length p.bytes)))
    window_by r true g at = failed r Internal (λ is. cc)
    window_by r false g at = range_by r (nat_lt MAX_RESOURCE (p.offset + length p.bytes)) g at

    past_by : (r : Receiver) (b : Bool) → nat_lt r.next p.offset ≡ b → nat_lt p.offset r.next ≡ false → PhaseAt ps a said r.next r.phase → is_open r.phase ≡ true
        → Done (if b then asking_again r else taking r (p.offset + length p.bytes) p.last)
    past_by r true e not_before is opens = again_by r (is_recovering r.phase) is opens
    past_by r false e not_before is opens =
        window_by r (nat_lt r.window_end (p.offset + length p.bytes)) (open_going ps a said r.next r.phase opens is) (same_place p.offset r.next e not_before)
      where
        same_place : (x n : ℕ) → nat_lt n x ≡ false → nat_lt x n ≡ false → x ≡ n
        same_place x n e f = grind (arith, nat_tests)

    empty_by : (r : Receiver) (b : Bool) → nat_lt p.offset r.next ≡ false → PhaseAt ps a said r.next r.phase → is_open r.phase ≡ true
        → Done (if b then ignoring r else if nat_lt r.next p.offset then asking_again r else taking r (p.offset + length p.bytes) p.last)
    empty_by r true not_before is opens = ignored r is
    empty_by r false not_before is opens = past_by r (nat_lt r.next p.offset) refl not_before is opens

    before_by : (r : Receiver) (b : Bool) → nat_lt p.offset r.next ≡ b → PhaseAt ps a said r.next r.phase → is_open r.phase ≡ true
        → Done (if b then ignoring r else if (length p.bytes == 0) && not p.last then ignoring r else if nat_lt r.next p.offset then asking_again r else taking r (p.offset + length p.bytes) p.last)
    before_by r true e is opens = ignored r is
    before_by r false e is opens = empty_by r ((length p.bytes == 0) && not p.last) e is opens

    open_by : (r : Receiver) (b : Bool) → is_open r.phase ≡ b → PhaseAt ps a said r.next r.phase → Done (if b then open_outcome r p.offset (length p.bytes) p.last else ignoring r)
    open_by r true e is = before_by r (nat_lt p.offset r.next) refl is e
    open_by r false e is = ignored r is

    piece_kept : (r : Receiver) (now : ℕ) → PhaseAt ps a said r.next r.phase → Done (outcome_of r p now)
    piece_kept r now is = open_by (active_at now r) (is_open r.phase) refl is

  -- ---- a read

  pub record Receives (ps : List Piece) (agreed : Option ℕ) (r : Receiver) (said : List Saying) : Type 0 where
    pub offset : ℕ
    pub agreed_is : agreed ≡ Some offset
    pub phase_at : PhaseAt ps offset said r.next r.phase

  -- the resource was made whole from the offset that was agreed
  pub record Made (ps : List Piece) (agreed : Option ℕ) (said : List Saying) : Type 0 where
    pub offset : ℕ
    pub agreed_is : agreed ≡ Some offset
    pub whole : Whole ps offset said

  abbrev pub IsMade : List Mail → Option ℕ → List Saying → Type 0
  IsMade taken agreed said = Made (came session taken) agreed said ⊎ AnyMail (TellsOkay session) taken

  abbrev pub At : List Mail → Option ℕ → Reading → List Saying → Type 0
  At taken agreed reading.Unasked said = deeds said ≡ []
  At taken agreed (reading.Asking w) said = deeds said ≡ []
  At taken agreed (reading.Receiving r) said = Receives (came session taken) agreed r said
  At taken agreed (reading.Over status) said = status ≡ Okay → IsMade taken agreed said

  pub record FetchesSo (now : ℕ) (d : Download) (taken : List Mail) (said : List Saying) : Type 0 where
    pub resource_is : d.resource ≡ resource
    pub stands : At taken d.agreed d.stage said

  made_later : (taken : List Mail) (mail : Mail) (agreed : Option ℕ) (said : List Saying) → IsMade taken agreed said → IsMade (taken ++ mail ∷ []) agreed said
  made_later taken mail agreed said (inl m) =
      inl (record {
        offset = m.offset;
        agreed_is = m.agreed_is;
        whole = subst (λ ps. Whole ps m.offset said) (sym (came-more session taken mail)) (whole_later (came session taken) m.offset said (piece_of session mail) m.whole);
      })
  made_later taken mail agreed said (inr told) = inr (any_front (TellsOkay session) taken (mail ∷ []) told)

  made_quiet : (taken : List Mail) (agreed : Option ℕ) (said more : List Saying) → deeds more ≡ [] → IsMade taken agreed said → IsMade taken agreed (said ++ more)
  made_quiet taken agreed said more none (inl m) = inl (record { offset = m.offset; agreed_is = m.agreed_is; whole = whole_quiet (came session taken) m.offset said more none m.whole })
  made_quiet taken agreed said more none (inr told) = inr told

  receives_later : (taken : List Mail) (mail : Mail) (agreed : Option ℕ) (r : Receiver) (said : List Saying) → Receives (came session taken) agreed r said → Receives (came session (taken ++ mail ∷ [])) agreed r said
  receives_later taken mail agreed r said is = record {
    offset = is.offset;
    agreed_is = is.agreed_is;
    phase_at = subst (λ ps. PhaseAt ps is.offset said r.next r.phase) (sym (came-more session taken mail)) (phase_later (came session taken) is.offset said r.next r.phase (piece_of session mail) is.phase_at);
  }

  receives_quiet : (ps : List Piece) (agreed : Option ℕ) (r : Receiver) (said more : List Saying) → deeds more ≡ [] → Receives ps agreed r said → Receives ps agreed r (said ++ more)
  receives_quiet ps agreed r said more none is = record { offset = is.offset; agreed_is = is.agreed_is; phase_at = phase_quiet ps is.offset said more r.next r.phase none is.phase_at }

  at_later : (taken : List Mail) (mail : Mail) (agreed : Option ℕ) (stage : Reading) (said : List Saying) → At taken agreed stage said → At (taken ++ mail ∷ []) agreed stage said
  at_later taken mail agreed reading.Unasked said is = is
  at_later taken mail agreed (reading.Asking w) said is = is
  at_later taken mail agreed (reading.Receiving r) said is = receives_later taken mail agreed r said is
  at_later taken mail agreed (reading.Over status) said is = λ same. made_later taken mail agreed said (is same)

  at_quiet : (taken : List Mail) (agreed : Option ℕ) (stage : Reading) (said more : List Saying) → deeds more ≡ [] → At taken agreed stage said → At taken agreed stage (said ++ more)
  at_quiet taken agreed reading.Unasked said more none is = quiet_deeds said more none ∙ is
  at_quiet taken agreed (reading.Asking w) said more none is = quiet_deeds said more none ∙ is
  at_quiet taken agreed (reading.Receiving r) said more none is = receives_quiet (came session taken) agreed r said more none is
  at_quiet taken agreed (reading.Over status) said more none is = λ same. made_quiet taken agreed said more none (is same)

  -- it stands as it stood, and what it says acts on nothing
  stays : (taken : List Mail) (d : Download) (stage : Reading) (said more : List Saying) → d.stage ≡ stage → deeds more ≡ [] → At taken d.agreed stage said → At taken d.agreed d.stage (said ++ more)
  stays taken d stage said more e none is = at_quiet taken d.agreed d.stage said more none (subst (λ s. At taken d.agreed s said) (sym e) is)

  opens_keeps : (now : ℕ) (taken : List Mail) (d : Download) (stage : Reading) (said : List Saying) → d.stage ≡ stage → At taken d.agreed stage said
      → At taken (opens_at d stage now).after.agreed (opens_at d stage now).after.stage (said ++ (opens_at d stage now).sayings)
  opens_keeps now taken d reading.Unasked said e is = quiet_deeds said _ refl ∙ is
  opens_keeps now taken d (reading.Asking w) said e is = stays taken d (reading.Asking w) said [] e refl is
  opens_keeps now taken d (reading.Receiving r) said e is = stays taken d (reading.Receiving r) said [] e refl is
  opens_keeps now taken d (reading.Over status) said e is = stays taken d (reading.Over status) said [] e refl is

  opens_resource : (now : ℕ) (d : Download) (stage : Reading) → (opens_at d stage now).after.resource ≡ d.resource
  opens_resource now d reading.Unasked = refl
  opens_resource now d (reading.Asking w) = refl
  opens_resource now d (reading.Receiving r) = refl
  opens_resource now d (reading.Over status) = refl

  -- ---- a word that is heard

  abbrev Stands : List Mail → Stepped Download → List Saying → Type 0
  Stands taken t said = (t.after.resource ≡ resource) × At taken t.after.agreed t.after.stage (said ++ t.sayings)

  module _ (now : ℕ) (taken : List Mail) (d : Download) (said : List Saying) (resource_is : d.resource ≡ resource) where
    over_other : (status : Status) (more : List Saying) (mails : List Mail) → status ≢ Okay → At mails d.agreed (reading.Over status) (said ++ more)
    over_other status more mails other = λ same. absurd (other same)

    agrees_by : (mails : List Mail) (agreed : ℕ) (b : Bool) → nat_lt d.asked agreed ≡ b → deeds said ≡ [] → Stands mails (agrees d agreed now) said
    agrees_by mails agreed true e fresh = rw e (resource_is, λ same. absurd cc)
    agrees_by mails agreed false e fresh =
        rw e (
          resource_is,
          record {
            offset = agreed;
            agreed_is = refl;
            phase_at = record {
              picked = [];
              added = [];
              in_order = tt;
              consecutive = tt;
              none_last = tt;
              next_is = refl;
              deeds_are = deeds-append said _ ∙ (ap (λ ds. ds ++ begins d.resource agreed ∷ []) fresh ∙ ap (λ n. begins n agreed ∷ []) resource_is);
              bytes_are = refl;
            };
          },
        )

    module _ (text : List ℕ) where
      abbrev After : List Mail
      After = taken ++ Text text ∷ []

      told_okay : (status : Status) (more : List Saying) (agreed : Option ℕ) → polling.heard_word session text ≡ Some (completion status) → At After agreed (reading.Over status) (said ++ more)
      told_okay status more agreed heard = λ same. inr (any_back (TellsOkay session) taken (Text text ∷ []) (inl (heard ∙ ap (λ s. Some (completion s)) same)))

      asking_by : (w : Wait) (x : Word) → polling.heard_word session text ≡ Some x → deeds said ≡ [] → Stands After (asking_hears d w x now) said
      asking_by w (start_ack agreed) heard fresh = agrees_by After agreed (nat_lt d.asked agreed) refl fresh
      asking_by w (completion status) heard fresh = (resource_is, told_okay status _ d.agreed heard)
      asking_by w (start x y) heard fresh = (resource_is, quiet_deeds said [] refl ∙ fresh)
      asking_by w (confirmation ask) heard fresh = (resource_is, quiet_deeds said [] refl ∙ fresh)
      asking_by w (parameters ask) heard fresh = (resource_is, quiet_deeds said [] refl ∙ fresh)
      asking_by w (data_comes p) heard fresh = (resource_is, quiet_deeds said [] refl ∙ fresh)
      asking_by w completion_ack heard fresh = (resource_is, quiet_deeds said [] refl ∙ fresh)

      module _ (r : Receiver) (e : d.stage ≡ reading.Receiving r) (is : Receives (came session taken) d.agreed r said) where
        same_stage : (more : List Saying) → deeds more ≡ [] → At After d.agreed d.stage (said ++ more)
        same_stage more none = stays After d (reading.Receiving r) said more e none (receives_later taken (Text text) d.agreed r said is)

        completed_by : (p : Phase) (status : Status) → polling.heard_word session text ≡ Some (completion status) → Stands After (completed d p status) said
        completed_by (phase.Completing own) status heard = (resource_is, same_stage _ refl)
        completed_by phase.Receiving status heard = (resource_is, told_okay status _ d.agreed heard)
        completed_by phase.Recovering status heard = (resource_is, told_okay status _ d.agreed heard)
        completed_by phase.Ended status heard = (resource_is, told_okay status _ d.agreed heard)

        acknowledged_by : (p : Phase) → r.phase ≡ p → Stands After (acknowledged d p) said
        acknowledged_by (phase.Completing own) same = (
          resource_is,
          λ okay.
              made_later taken (Text text) d.agreed (said ++ [])
              (made_quiet taken d.agreed said [] refl (inl (record { offset = is.offset; agreed_is = is.agreed_is; whole = subst (PhaseAt (came session taken) is.offset said r.next) same is.phase_at okay }))),
        )
        acknowledged_by phase.Receiving same = (resource_is, same_stage [] refl)
        acknowledged_by phase.Recovering same = (resource_is, same_stage [] refl)
        acknowledged_by phase.Ended same = (resource_is, same_stage [] refl)

        piece_by_word : (p : Piece) → polling.heard_word session text ≡ Some (data_comes p) → Stands After (receiving_hears d r (data_comes p) now) said
        piece_by_word p heard =
            let o : PieceOutcome = outcome_of r p now in (
              resource_is,
              record {
                offset = is.offset;
                agreed_is = is.agreed_is;
                phase_at =
                    subst (λ ps. PhaseAt ps is.offset (said ++ of_piece p.bytes o.answer) o.after.next o.after.phase)
                    (sym (came-more session taken (Text text) ∙ ap (λ x. came session taken ++ piece_by x) heard)) (piece_kept (came session taken) is.offset said p r now is.phase_at);
              },
            )

        receiving_by : (x : Word) → polling.heard_word session text ≡ Some x → Stands After (receiving_hears d r x now) said
        receiving_by (data_comes p) heard = piece_by_word p heard
        receiving_by (completion status) heard = completed_by r.phase status heard
        receiving_by completion_ack heard = acknowledged_by r.phase refl
        receiving_by (start x y) heard = (resource_is, same_stage [] refl)
        receiving_by (start_ack agreed) heard = (resource_is, same_stage [] refl)
        receiving_by (confirmation ask) heard = (resource_is, same_stage [] refl)
        receiving_by (parameters ask) heard = (resource_is, same_stage [] refl)

      hears_by : (stage : Reading) (x : Word) → d.stage ≡ stage → polling.heard_word session text ≡ Some x → At taken d.agreed stage said → Stands After (hears_at d stage x now) said
      hears_by reading.Unasked x e heard is = (resource_is, stays After d reading.Unasked said [] e refl is)
      hears_by (reading.Asking w) x e heard is = asking_by w x heard is
      hears_by (reading.Receiving r) x e heard is = receiving_by r e is x heard
      hears_by (reading.Over status) x e heard is = (resource_is, stays After d (reading.Over status) said [] e refl (at_later taken (Text text) d.agreed (reading.Over status) said is))

      text_by : (o : Option Word) → polling.heard_word session text ≡ o → At taken d.agreed d.stage said → Stands After (polling.hears_any read_rules session d o now) said
      text_by None heard is = (resource_is, stays After d d.stage said [] refl refl (at_later taken (Text text) d.agreed d.stage said is))
      text_by (Some x) heard is = hears_by d.stage x refl heard is

    closes_by : (stage : Reading) (status : Status) → d.stage ≡ stage → At taken d.agreed stage said → Stands (taken ++ Closed status ∷ []) (closes_at d stage status) said
    closes_by reading.Unasked status e is = (resource_is, λ same. absurd (by_call_other status (is_okay status) refl same))
    closes_by (reading.Asking w) status e is = (resource_is, λ same. absurd (by_call_other status (is_okay status) refl same))
    closes_by (reading.Receiving r) status e is = (resource_is, λ same. absurd (by_call_other status (is_okay status) refl same))
    closes_by (reading.Over own) status e is =
        (resource_is, stays (taken ++ Closed status ∷ []) d (reading.Over own) said [] e refl (at_later taken (Closed status) d.agreed (reading.Over own) said is))

    takes_by : (mail : Mail) → At taken d.agreed d.stage said → Stands (taken ++ mail ∷ []) (polling.takes read_rules session d mail now) said
    takes_by (Text text) is = text_by text (polling.heard_word session text) refl is
    takes_by (Closed status) is = closes_by d.stage status refl is

    -- ---- the time

    asks_by : (w : Wait) (b : Bool) → waiting.has_resends w ≡ b → deeds said ≡ [] → Stands taken (asking_timeout d w now) said
    asks_by w true e fresh = rw e (resource_is, quiet_deeds said _ refl ∙ fresh)
    asks_by w false e fresh = rw e (resource_is, λ same. absurd cc)

    asking_ticks : (w : Wait) (b : Bool) → d.stage ≡ reading.Asking w → waiting.is_late w now ≡ b → deeds said ≡ [] → Stands taken (ticks_at d (reading.Asking w) now) said
    asking_ticks w true e late fresh = rw late (asks_by w (waiting.has_resends w) refl fresh)
    asking_ticks w false e late fresh = rw late (resource_is, stays taken d (reading.Asking w) said [] e refl fresh)

    module _ (r : Receiver) (is : Receives (came session taken) d.agreed r said) where
      abbrev Goes : Phase → Type 0
      Goes p =
          At taken d.agreed (receiving_or_over (timeout_outcome (active_at now r) p).after (timeout_outcome (active_at now r) p).answer)
          (said ++ of_tick (is_open r.phase) (timeout_outcome (active_at now r) p).answer)

      going_tick : (p : Phase) → r.phase ≡ p → (next : Receiver) (more : List Saying) → next.next ≡ r.next → next.phase ≡ p → deeds more ≡ [] → Receives (came session taken) d.agreed next (said ++ more)
      going_tick p same next more at stage none = record {
        offset = is.offset;
        agreed_is = is.agreed_is;
        phase_at =
            subst (λ n. PhaseAt (came session taken) is.offset (said ++ more) n next.phase) (sym at)
            (subst (PhaseAt (came session taken) is.offset (said ++ more) r.next) (same ∙ sym stage) (phase_quiet (came session taken) is.offset said more r.next r.phase none is.phase_at));
      }

      asks_on : (b : Bool) → nat_lt r.resends MAX_RESENDS ≡ b → At taken d.agreed (receiving_or_over (resending_ask (active_at now r)).after (resending_ask (active_at now r)).answer)
          (said ++ of_tick (is_open r.phase) (resending_ask (active_at now r)).answer)
      asks_on true e = rw e (going_tick r.phase refl _ _ refl refl refl)
      asks_on false e = rw e (λ same. absurd cc)

      ends_on : (status : Status) (b : Bool) → r.phase ≡ phase.Completing status → nat_lt r.resends MAX_RESENDS ≡ b
          → At taken d.agreed (receiving_or_over (resending_end (active_at now r) status).after (resending_end (active_at now r) status).answer)
          (said ++ of_tick (is_open r.phase) (resending_end (active_at now r) status).answer)
      ends_on status true same e = rw e (going_tick r.phase refl _ _ refl refl refl)
      ends_on status false same e =
          rw (e, ap is_open same)
          (λ okay. made_quiet taken d.agreed said [] refl (inl (record { offset = is.offset; agreed_is = is.agreed_is; whole = subst (PhaseAt (came session taken) is.offset said r.next) same is.phase_at okay })))

      times_out : (p : Phase) → r.phase ≡ p → Goes p
      times_out phase.Receiving same = asks_on (nat_lt r.resends MAX_RESENDS) refl
      times_out phase.Recovering same = asks_on (nat_lt r.resends MAX_RESENDS) refl
      times_out (phase.Completing status) same = ends_on status (nat_lt r.resends MAX_RESENDS) same refl
      times_out phase.Ended same = going_tick r.phase refl (active_at now r) [] refl refl refl

      receiver_ticks : (b : Bool) → nat_le (r.active + TIMEOUT) now ≡ b
          → At taken d.agreed (receiving_or_over (tick_outcome r now).after (tick_outcome r now).answer) (said ++ of_tick (is_open r.phase) (tick_outcome r now).answer)
      receiver_ticks true late = rw late (times_out r.phase refl)
      receiver_ticks false late = rw late (receives_quiet (came session taken) d.agreed r said [] refl is)

    ticks_by : (stage : Reading) → d.stage ≡ stage → At taken d.agreed stage said → Stands taken (ticks_at d stage now) said
    ticks_by reading.Unasked e is = (resource_is, stays taken d reading.Unasked said [] e refl is)
    ticks_by (reading.Asking w) e is = asking_ticks w (waiting.is_late w now) e refl is
    ticks_by (reading.Receiving r) e is = (resource_is, receiver_ticks r is (nat_le (r.active + TIMEOUT) now) refl)
    ticks_by (reading.Over status) e is = (resource_is, stays taken d (reading.Over status) said [] e refl is)

  pub fetches_keep : (In : ℕ → Type 0) → Keeps read_rules session FetchesSo In
  fetches_keep In = record {
    later = λ now later d taken said on j. record { resource_is = j.resource_is; stands = j.stands };
    opens = λ now d taken said within j. record { resource_is = opens_resource now d d.stage ∙ j.resource_is; stands = opens_keeps now taken d d.stage said refl j.stands };
    takes = λ now d taken said mail within goes j.
        (let t = takes_by now taken d said j.resource_is mail j.stands in
        record { resource_is = t.0; stands = t.1 });
    ticks = λ now d taken said within j.
        (let t = ticks_by now taken d said j.resource_is d.stage refl j.stands in
        record { resource_is = t.0; stands = t.1 });
  }
