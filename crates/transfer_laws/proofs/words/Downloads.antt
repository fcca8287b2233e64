-- What a read has said over its polls, and what it has made whole.
use Rattle.std.proofs.Common.{◌≡◌, ℕ, ◌+◌, ◌<◌, ◌≤◌, ◌==◌, ◌&&◌, ◌^◌, not, nat_lt, nat_le, Bool, true, false, if◌then◌else◌, List, [], ◌∷◌, ◌++◌, map, length, take, drop, Option, Some, None, inl, inr, refl, sym, ap, ◌∙◌, subst, arith, append_assoc, length-append}
use Rattle.std.proofs.Math.Seq.{take-add}
use Rattle.std.proofs.lemmas.Bool.Decides.{nat_tests}
use Rattle.std.proofs.lemmas.Bool.{eqb-true, false≢true}
use Rattle.std.proofs.lemmas.List.{append-nil, drop-drop, length-drop, map-append, take_all}
use Rattle.std.specs.List.{AllByRecursion}
use Rattle.rpc_ids.specs.declared.Status.{Status}
use Rattle.rpc_ids.specs.declared.Status.TheVariants.{Okay, Internal, OutOfRange, DeadlineExceeded, Aborted}
use Rattle.transfer_base.specs.declared.Piece.{Piece}
use Rattle.transfer_base.specs.declared.limits.TheConstants.{MAX_CHUNK, MAX_RESOURCE, MAX_WINDOW, TIMEOUT}
use Rattle.transfer_base.specs.PieceLists.{IsPartOf}
use Rattle.transfer_receiver.specs.declared.receiver.TheConstants.{MAX_RESENDS}
use Rattle.transfer_receiver.specs.declared.answers.Received.{Received}
use Rattle.transfer_receiver.specs.declared.answers.Received.TheVariants.{Ignored, Kept, Again, Ends}
use Rattle.transfer_receiver.specs.declared.answers.Ticked.{Ticked}
use Rattle.transfer_receiver.specs.declared.answers.Ticked.TheVariants.{Quiet, Resend, ResendEnd, Over}
use Rattle.transfer_receiver.specs.declared.phase.Phase.{Phase}
use Rattle.transfer_receiver.specs.declared.phase.Phase.TheVariants as phase
use Rattle.transfer_receiver.specs.Phase.{is_open, is_recovering}
use Rattle.transfer_receiver.specs.Answers.{is_okay}
use Rattle.transfer_receiver.specs.Receiver.{Receiver, ask_of, asking, new_receiver}
use Rattle.transfer_receiver.specs.PieceRules.{PieceOutcome, active_at, asking_again, ending, going_on, ignoring, is_half_used, keeping, open_outcome, taking}
use Rattle.transfer_receiver.specs.Run.{outcome_of}
use Rattle.transfer_receiver.specs.TickRules.{TickOutcome, staying, tick_outcome, timeout_outcome}
use Rattle.transfer_words.specs.Word.{Word, start, start_ack, confirmation, parameters, data_comes, completion, completion_ack}
use Rattle.transfer_words.specs.Saying.{Saying, Stepped, says, begins, appends, commits, leaves}
use Rattle.transfer_words.specs.CoreAnswers.{of_piece, of_tick}
use Rattle.transfer_resume.specs.Uploads.{joined_bytes, with_deed}
use Rattle.transfer_client.specs.declared.stages.Wait.{Wait}
use Rattle.transfer_client.specs.declared.stages.Reading.{Reading}
use Rattle.transfer_client.specs.declared.stages.Reading.TheVariants as reading
use Rattle.transfer_client.specs.Wait as waiting
use Rattle.transfer_client.specs.Read.{Download, acknowledged, asking_hears, asking_timeout, asks, at_stage, closes_at, completed, end_at, hears_at, new_download, opens_at, read_rules, receives, receiving_hears, receiving_or_over, ticks_at}
use Rattle.transfer_laws.specs.words.Said.{FitsSaying, IsPieceOf, SaysOkayWhere}
use Rattle.transfer_laws.specs.words.Tasks.{AsksFor, HasRead, HasToldOkay, HearsContent, HearsOf, Poll, ReadsMakeWhole, deeds_said, said_over, stood}
use Rattle.transfer_laws.proofs.words.Sessions.{all_join}
use Rattle.transfer_laws.proofs.words.Receivers.{IsBounded, first_fits, new_bounded, piece_done, tick_done}
use Rattle.transfer_laws.proofs.words.Polls.{KeepsSteps, poll_keeps}

deed_front : (s : Saying) (xs ys : List Saying) → with_deed s xs ++ ys ≡ with_deed s (xs ++ ys)
deed_front (says w) xs ys = refl
deed_front (begins r o) xs ys = refl
deed_front (appends bytes) xs ys = refl
deed_front commits xs ys = refl
deed_front leaves xs ys = refl

pub deeds_append : (xs ys : List Saying) → deeds_said (xs ++ ys) ≡ deeds_said xs ++ deeds_said ys
deeds_append [] ys = refl
deeds_append (x ∷ xs) ys = ap (with_deed x) (deeds_append xs ys) ∙ sym (deed_front x (deeds_said xs) (deeds_said ys))

joined_append : (xs ys : List (List ℕ)) → joined_bytes (xs ++ ys) ≡ joined_bytes xs ++ joined_bytes ys
joined_append [] ys = refl
joined_append (x ∷ xs) ys = ap (λ rest. x ++ rest) (joined_append xs ys) ∙ sym (append_assoc x (joined_bytes xs) (joined_bytes ys))

joined_one : (xs : List (List ℕ)) (x : List ℕ) → joined_bytes (xs ++ x ∷ []) ≡ joined_bytes xs ++ x
joined_one xs x = joined_append xs (x ∷ []) ∙ ap (λ rest. joined_bytes xs ++ rest) (append-nil x)

-- a part behind a part
part_joins : (content : List ℕ) (offset : ℕ) (xs ys : List ℕ) → xs ≡ take (length xs) (drop offset content) → ys ≡ take (length ys) (drop (offset + length xs) content)
    → xs ++ ys ≡ take (length (xs ++ ys)) (drop offset content)
part_joins content offset xs ys first second =
    ap (λ zs. zs ++ ys) first
    ∙ (ap (λ zs. take (length xs) (drop offset content) ++ zs) (second ∙ ap (take (length ys)) (sym (drop-drop (length xs) offset content)))
    ∙ (sym (take-add (length xs) (length ys) (drop offset content)) ∙ ap (λ n. take n (drop offset content)) (sym (length-append xs ys))))

-- a part that ends with the resource is all of the rest
part_whole : (content : List ℕ) (offset : ℕ) (xs : List ℕ) → xs ≡ take (length xs) (drop offset content) → offset + length xs ≡ length content → xs ≡ drop offset content
part_whole content offset xs is end = is ∙ take_all (length xs) (drop offset content) (omega (arith, length-drop offset content, end))

pub told_more : (xs ys : List Saying) → HasToldOkay xs → HasToldOkay (xs ++ ys)
told_more [] ys is = absurd is
told_more (x ∷ xs) ys (inl same) = inl same
told_more (x ∷ xs) ys (inr later) = inr (told_more xs ys later)

told_back : (xs ys : List Saying) → HasToldOkay ys → HasToldOkay (xs ++ ys)
told_back [] ys is = is
told_back (x ∷ xs) ys is = inr (told_back xs ys is)

abbrev NotTold : List Saying → Type 0
NotTold ss = AllByRecursion (SaysOkayWhere false) ss

never_both : (ss : List Saying) → HasToldOkay ss → NotTold ss → ⊥
never_both [] told none = told
never_both (s ∷ ss) (inl same) none = false≢true (subst (SaysOkayWhere false) same none.0 refl)
never_both (s ∷ ss) (inr later) none = never_both ss later none.1

module _ (resource asked window chunk : ℕ) (content : Option (List ℕ)) (r_small : resource < 2 ^ 32) (within : asked ≤ MAX_RESOURCE) (w_high : window ≤ MAX_WINDOW) (c_high : chunk ≤ MAX_CHUNK) where
  -- it has kept a beginning of the content, up to the next byte
  record Going (a : ℕ) (said : List Saying) (next : ℕ) : Type 0 where
    not_told : NotTold said
    added : List (List ℕ)
    deeds_are : deeds_said said ≡ begins resource a ∷ map appends added
    next_is : next ≡ a + length (joined_bytes added)
    honest : (bytes : List ℕ) → content ≡ Some bytes → joined_bytes added ≡ take (length (joined_bytes added)) (drop a bytes)

  abbrev Read : ℕ → List Saying → Type 0
  Read a said = HasRead resource content (Some a) said

  abbrev PhaseAt : ℕ → List Saying → ℕ → Phase → Type 0
  PhaseAt a said next phase.Receiving = Going a said next
  PhaseAt a said next phase.Recovering = Going a said next
  PhaseAt a said next (phase.Completing status) = status ≡ Okay → Read a said
  PhaseAt a said next phase.Ended = ⊥

  read_more : (a : ℕ) (said more : List Saying) → deeds_said more ≡ [] → Read a said → Read a (said ++ more)
  read_more a said more none r = record {
    offset = r.offset;
    bytes = r.bytes;
    agreed_is = r.agreed_is;
    content_is = r.content_is;
    within = r.within;
    size = r.size;
    whole = record {
      added = r.whole.added;
      deeds_are = deeds_append said more ∙ (ap (λ ds. deeds_said said ++ ds) none ∙ (append-nil (deeds_said said) ∙ r.whole.deeds_are));
      bytes_are = r.whole.bytes_are;
    };
  }

  going_more : (a : ℕ) (said more : List Saying) (next : ℕ) → deeds_said more ≡ [] → NotTold more → Going a said next → Going a (said ++ more) next
  going_more a said more next none quiet g = record {
    not_told = all_join (SaysOkayWhere false) said more g.not_told quiet;
    added = g.added;
    deeds_are = deeds_append said more ∙ (ap (λ ds. deeds_said said ++ ds) none ∙ (append-nil (deeds_said said) ∙ g.deeds_are));
    next_is = g.next_is;
    honest = g.honest;
  }

  -- what tells and does nothing
  phase_more : (a : ℕ) (said more : List Saying) (next : ℕ) (p : Phase) → deeds_said more ≡ [] → NotTold more → PhaseAt a said next p → PhaseAt a (said ++ more) next p
  phase_more a said more next phase.Receiving none quiet is = going_more a said more next none quiet is
  phase_more a said more next phase.Recovering none quiet is = going_more a said more next none quiet is
  phase_more a said more next (phase.Completing status) none quiet is = λ e. read_more a said more none (is e)
  phase_more a said more next phase.Ended none quiet is = absurd is

  open_going : (a : ℕ) (said : List Saying) (next : ℕ) (p : Phase) → is_open p ≡ true → PhaseAt a said next p → Going a said next
  open_going a said next phase.Receiving e is = is
  open_going a said next phase.Recovering e is = is
  open_going a said next (phase.Completing status) e is = absurd (false≢true e)
  open_going a said next phase.Ended e is = absurd is

  -- A piece that is kept.
  kept : (a : ℕ) (said more : List Saying) (next : ℕ) (p : Piece) → Going a said next → p.offset ≡ next → IsPieceOf content p → deeds_said more ≡ appends p.bytes ∷ [] → NotTold more
      → Going a (said ++ more) (p.offset + length p.bytes)
  kept a said more next p g at piece deeds quiet = record {
    not_told = all_join (SaysOkayWhere false) said more g.not_told quiet;
    added = g.added ++ p.bytes ∷ [];
    deeds_are =
        deeds_append said more
        ∙ (ap (λ ds. deeds_said said ++ ds) deeds
        ∙ (ap (λ ds. ds ++ appends p.bytes ∷ []) g.deeds_are ∙ ap (λ ds. begins resource a ∷ ds) (sym (map-append appends g.added (p.bytes ∷ [])))));
    next_is =
        (let long : length (joined_bytes (g.added ++ p.bytes ∷ [])) ≡ length (joined_bytes g.added) + length p.bytes =
        ap length (joined_one g.added p.bytes) ∙ length-append (joined_bytes g.added) p.bytes in
        omega (arith, long, at, g.next_is));
    honest = λ bytes is.
        (let part : IsPartOf bytes p = subst (λ o. IsPieceOf o p) is piece in
        let here : p.bytes ≡ take (length p.bytes) (drop (a + length (joined_bytes g.added)) bytes) = part.bytes ∙ ap (λ o. take (length p.bytes) (drop o bytes)) (at ∙ g.next_is) in
        subst (λ xs. xs ≡ take (length xs) (drop a bytes)) (sym (joined_one g.added p.bytes)) (part_joins bytes a (joined_bytes g.added) p.bytes (g.honest bytes is) here));
  }

  -- the last piece, with what was kept before it
  record Last (a : ℕ) (p : Piece) (g_added : List (List ℕ)) : Type 0 where
    bytes : List ℕ
    content_is : content ≡ Some bytes
    joined : joined_bytes g_added ++ p.bytes ≡ drop a bytes
    low : a ≤ length bytes
    end : p.offset + length p.bytes ≡ length bytes

  last_of : (a : ℕ) (said : List Saying) (next : ℕ) (p : Piece) → (g : Going a said next) → p.offset ≡ next → p.last ≡ true → IsPieceOf content p → Last a p g.added
  last_of a said next p g at last piece = by_content content refl piece
    where
      by_content : (o : Option (List ℕ)) → content ≡ o → IsPieceOf o p → Last a p g.added
      by_content None is none = absurd none
      by_content (Some bytes) is part =
          let end : p.offset + length p.bytes ≡ length bytes = eqb-true (p.offset + length p.bytes) (length bytes) (sym part.last ∙ last) in
          let here : p.bytes ≡ take (length p.bytes) (drop (a + length (joined_bytes g.added)) bytes) = part.bytes ∙ ap (λ o. take (length p.bytes) (drop o bytes)) (at ∙ g.next_is) in
          let all : joined_bytes g.added ++ p.bytes ≡ take (length (joined_bytes g.added ++ p.bytes)) (drop a bytes) =
          part_joins bytes a (joined_bytes g.added) p.bytes (g.honest bytes is) here in
          record {
            bytes = bytes;
            content_is = is;
            joined = part_whole bytes a (joined_bytes g.added ++ p.bytes) all (omega (arith, length-append (joined_bytes g.added) p.bytes, end, at, g.next_is));
            low = omega (arith, end, at, g.next_is);
            end = end;
          }

  empty_bytes : (xs : List ℕ) → (length xs == 0) ≡ true → xs ≡ []
  empty_bytes [] e = refl
  empty_bytes (x ∷ xs) e = grind (arith, nat_tests)

  last_said : (a : ℕ) (said : List Saying) (next : ℕ) (p : Piece) → Going a said next → p.offset ≡ next → p.last ≡ true → IsPieceOf content p → p.offset + length p.bytes ≤ MAX_RESOURCE → (b : Bool) → (length p.bytes == 0) ≡ b
      → Read a (said ++ (((if b then [] else appends p.bytes ∷ []) ++ commits ∷ []) ++ says (completion Okay) ∷ []))
  last_said a said next p g at last piece few true e =
      let l : Last a p g.added = last_of a said next p g at last piece in
      record {
        offset = a;
        bytes = l.bytes;
        agreed_is = refl;
        content_is = l.content_is;
        within = l.low;
        size = subst (λ n. n ≤ MAX_RESOURCE) l.end few;
        whole = record {
          added = g.added;
          deeds_are = deeds_append said (commits ∷ says (completion Okay) ∷ []) ∙ ap (λ ds. ds ++ commits ∷ []) g.deeds_are;
          bytes_are = sym (append-nil (joined_bytes g.added)) ∙ (ap (λ xs. joined_bytes g.added ++ xs) (sym (empty_bytes p.bytes e)) ∙ l.joined);
        };
      }
  last_said a said next p g at last piece few false e =
      let l : Last a p g.added = last_of a said next p g at last piece in
      record {
        offset = a;
        bytes = l.bytes;
        agreed_is = refl;
        content_is = l.content_is;
        within = l.low;
        size = subst (λ n. n ≤ MAX_RESOURCE) l.end few;
        whole = record {
          added = g.added ++ p.bytes ∷ [];
          deeds_are =
              deeds_append said (appends p.bytes ∷ commits ∷ says (completion Okay) ∷ [])
              ∙ (ap (λ ds. ds ++ appends p.bytes ∷ commits ∷ []) g.deeds_are
              ∙ ap (λ ds. begins resource a ∷ ds) (sym (append_assoc (map appends g.added) (appends p.bytes ∷ []) (commits ∷ [])) ∙ ap (λ ds. ds ++ commits ∷ []) (sym (map-append appends g.added (p.bytes ∷ [])))));
          bytes_are = joined_one g.added p.bytes ∙ l.joined;
        };
      }

  module _ (a : ℕ) (said : List Saying) (p : Piece) (piece : IsPieceOf content p) where
    abbrev Done : PieceOutcome → Type 0
    Done t = PhaseAt a (said ++ of_piece p.bytes t.answer) t.after.next t.after.phase

    ignored : (r : Receiver) → PhaseAt a said r.next r.phase → Done (ignoring r)
    ignored r is = subst (λ ss. PhaseAt a ss r.next r.phase) (sym (append-nil said)) is

    again_by : (r : Receiver) (b : Bool) → PhaseAt a said r.next r.phase → is_open r.phase ≡ true
        → Done (if b then ignoring r else record { after = record (asking true r) { phase = phase.Recovering }; answer = Again (ask_of true (asking true r)) })
    again_by r true is opens = ignored r is
    again_by r false is opens = going_more a said _ r.next refl (tt, tt) (open_going a said r.next r.phase opens is)

    failed : (r : Receiver) (status : Status) → (status ≡ Okay → ⊥) → Done (ending r status)
    failed r status other = λ is. absurd (other is)

    going_by : (r : Receiver) (b : Bool) → Going a said r.next → p.offset ≡ r.next
        → Done (if b then record { after = asking false (keeping r (p.offset + length p.bytes)); answer = Kept (Some (ask_of false (asking false (keeping r (p.offset + length p.bytes))))) } else record { after = keeping r (p.offset + length p.bytes); answer = Kept None })
    going_by r true g at = kept a said _ r.next p g at piece refl (tt, (tt, tt))
    going_by r false g at = kept a said _ r.next p g at piece refl (tt, tt)

    last_by : (r : Receiver) (b : Bool) → p.last ≡ b → Going a said r.next → p.offset ≡ r.next → p.offset + length p.bytes ≤ MAX_RESOURCE
        → Done (if b then ending (keeping r (p.offset + length p.bytes)) Okay else going_on (keeping r (p.offset + length p.bytes)))
    last_by r true last g at few = λ is. last_said a said r.next p g at last piece few (length p.bytes == 0) refl
    last_by r false last g at few = going_by r (is_half_used (keeping r (p.offset + length p.bytes))) g at

    not_past : (n : ℕ) → nat_lt MAX_RESOURCE n ≡ false → n ≤ MAX_RESOURCE
    not_past n e = grind (arith, nat_tests)

    range_by : (r : Receiver) (b : Bool) → nat_lt MAX_RESOURCE (p.offset + length p.bytes) ≡ b → Going a said r.next → p.offset ≡ r.next
        → Done (if b then ending r OutOfRange else if p.last then ending (keeping r (p.offset + length p.bytes)) Okay else going_on (keeping r (p.offset + length p.bytes)))
    range_by r true e g at = failed r OutOfRange (λ is. cc)
    range_by r false e g at = last_by r p.last refl g at (not_past (p.offset + length p.bytes) e)

    window_by : (r : Receiver) (b : Bool) → Going a said r.next → p.offset ≡ r.next
        → Done (if b then ending r Internal else if nat_lt MAX_RESOURCE (p.offset + length p.bytes) then ending r OutOfRange else if p.last then ending (keeping r (p.offset + length p.bytes)) Okay else going_on (keeping r (p.offset + length p.bytes)))
    window_by r true g at = failed r Internal (λ is. cc)
    window_by r false g at = range_by r (nat_lt MAX_RESOURCE (p.offset + length p.bytes)) refl g at

    past_by : (r : Receiver) (b : Bool) → nat_lt r.next p.offset ≡ b → nat_lt p.offset r.next ≡ false → PhaseAt a said r.next r.phase → is_open r.phase ≡ true
        → Done (if b then asking_again r else taking r (p.offset + length p.bytes) p.last)
    past_by r true e not_before is opens = again_by r (is_recovering r.phase) is opens
    past_by r false e not_before is opens =
        window_by r (nat_lt r.window_end (p.offset + length p.bytes)) (open_going a said r.next r.phase opens is) (same_place p.offset r.next e not_before)
      where
        same_place : (x n : ℕ) → nat_lt n x ≡ false → nat_lt x n ≡ false → x ≡ n
        same_place x n e f = grind (arith, nat_tests)

    empty_by : (r : Receiver) (b : Bool) → nat_lt p.offset r.next ≡ false → PhaseAt a said r.next r.phase → is_open r.phase ≡ true
        → Done (if b then ignoring r else if nat_lt r.next p.offset then asking_again r else taking r (p.offset + length p.bytes) p.last)
    empty_by r true not_before is opens = ignored r is
    empty_by r false not_before is opens = past_by r (nat_lt r.next p.offset) refl not_before is opens

    before_by : (r : Receiver) (b : Bool) → nat_lt p.offset r.next ≡ b → PhaseAt a said r.next r.phase → is_open r.phase ≡ true
        → Done (if b then ignoring r else if (length p.bytes == 0) && not p.last then ignoring r else if nat_lt r.next p.offset then asking_again r else taking r (p.offset + length p.bytes) p.last)
    before_by r true e is opens = ignored r is
    before_by r false e is opens = empty_by r ((length p.bytes == 0) && not p.last) e is opens

    open_by : (r : Receiver) (b : Bool) → is_open r.phase ≡ b → PhaseAt a said r.next r.phase → Done (if b then open_outcome r p.offset (length p.bytes) p.last else ignoring r)
    open_by r true e is = before_by r (nat_lt p.offset r.next) refl is e
    open_by r false e is = ignored r is

    piece_kept : (r : Receiver) (now : ℕ) → PhaseAt a said r.next r.phase → Done (outcome_of r p now)
    piece_kept r now is = open_by (active_at now r) (is_open r.phase) refl is

  -- What each thing that is said asks for: nothing but a START.
  ends_asks : (bytes : List ℕ) (status : Status) (ok empty : Bool)
      → AllByRecursion (AsksFor resource asked) ((if ok then (if empty then [] else appends bytes ∷ []) ++ commits ∷ [] else leaves ∷ []) ++ says (completion status) ∷ [])
  ends_asks bytes status true true = (tt, (tt, tt))
  ends_asks bytes status true false = (tt, (tt, (tt, tt)))
  ends_asks bytes status false empty = (tt, (tt, tt))

  piece_asks : (bytes : List ℕ) (answer : Received) → AllByRecursion (AsksFor resource asked) (of_piece bytes answer)
  piece_asks bytes Ignored = tt
  piece_asks bytes (Kept None) = (tt, tt)
  piece_asks bytes (Kept (Some ask)) = (tt, (tt, tt))
  piece_asks bytes (Again ask) = (tt, tt)
  piece_asks bytes (Ends status) = ends_asks bytes status (is_okay status) (length bytes == 0)

  tick_asks : (going : Bool) (answer : Ticked) → AllByRecursion (AsksFor resource asked) (of_tick going answer)
  tick_asks going Quiet = tt
  tick_asks going (Resend ask) = (tt, tt)
  tick_asks going (ResendEnd status) = (tt, tt)
  tick_asks true (Over status) = (tt, (tt, tt))
  tick_asks false (Over status) = tt

  -- T: the read had told the end OK before the poll
  module _ (T : Type 0) where
    abbrev Fresh : List Saying → Type 0
    Fresh said = (deeds_said said ≡ []) × NotTold said

    record Receives (agreed : Option ℕ) (r : Receiver) (said : List Saying) : Type 0 where
      bounded : IsBounded r
      offset : ℕ
      agreed_is : agreed ≡ Some offset
      phase_at : PhaseAt offset said r.next r.phase

    abbrev At : Option ℕ → Reading → List Saying → Type 0
    At agreed reading.Unasked said = Fresh said
    At agreed (reading.Asking w) said = Fresh said
    At agreed (reading.Receiving r) said = Receives agreed r said
    At agreed (reading.Over status) said = status ≡ Okay → HasRead resource content agreed said

    record J (d : Download) (said : List Saying) : Type 0 where
      resource_is : d.resource ≡ resource
      asked_is : d.asked ≡ asked
      window_is : d.window ≡ window
      chunk_is : d.chunk ≡ chunk
      fits : AllByRecursion FitsSaying said
      asks : AllByRecursion (AsksFor resource asked) said
      told : T → HasToldOkay said
      stands : At d.agreed d.stage said

    goes : (d : Download) (said : List Saying) (stage : Reading) (more : List Saying) → J d said → AllByRecursion FitsSaying more → AllByRecursion (AsksFor resource asked) more
        → At d.agreed stage (said ++ more) → J (at_stage d stage) (said ++ more)
    goes d said stage more j fits asks stands = record {
      resource_is = j.resource_is;
      asked_is = j.asked_is;
      window_is = j.window_is;
      chunk_is = j.chunk_is;
      fits = all_join FitsSaying said more j.fits fits;
      asks = all_join (AsksFor resource asked) said more j.asks asks;
      told = λ t. told_more said more (j.told t);
      stands = stands;
    }

    same : (d : Download) (said : List Saying) → J d said → J d (said ++ [])
    same d said j = subst (J d) (sym (append-nil said)) j

    fresh_more : (said more : List Saying) → Fresh said → deeds_said more ≡ [] → NotTold more → Fresh (said ++ more)
    fresh_more said more fresh none quiet = (
      deeds_append said more ∙ (ap (λ ds. ds ++ deeds_said more) fresh.0 ∙ none),
      all_join (SaysOkayWhere false) said more fresh.1 quiet,
    )

    over : (d : Download) (said : List Saying) (status : Status) (more : List Saying) → (status ≡ Okay → ⊥) → J d said → AllByRecursion FitsSaying more
        → AllByRecursion (AsksFor resource asked) more → J (at_stage d (reading.Over status)) (said ++ more)
    over d said status more other j fits asks = goes d said (reading.Over status) more j fits asks (λ is. absurd (other is))

    asks_on : (d : Download) (said : List Saying) (w : Wait) → J d said → Fresh said → J (asks d w).after (said ++ (asks d w).sayings)
    asks_on d said w j fresh =
        goes d said (reading.Asking w) _ j
        ((subst (λ n. n < 2 ^ 32) (sym j.resource_is) r_small, subst (λ n. n < 2 ^ 64) (sym j.asked_is) (omega (arith, within))), tt)
        ((j.resource_is, j.asked_is), tt) (fresh_more said _ fresh refl (tt, tt))

    open_keeps : (d : Download) (said : List Saying) (stage : Reading) (now : ℕ) → d.stage ≡ stage → J d said → J (opens_at d stage now).after (said ++ (opens_at d stage now).sayings)
    open_keeps d said reading.Unasked now e j = asks_on d said (waiting.new_wait now) j (subst (λ s. At d.agreed s said) e j.stands)
    open_keeps d said (reading.Asking w) now e j = same d said j
    open_keeps d said (reading.Receiving r) now e j = same d said j
    open_keeps d said (reading.Over status) now e j = same d said j

    -- an end that the service tells isn't OK where the read hasn't told that
    unheard : (said : List Saying) (status : Status) (d : Download) → J d said → NotTold said → (status ≡ Okay → T) → status ≡ Okay → ⊥
    unheard said status d j quiet h is = never_both said (j.told (h is)) quiet

    agrees_by : (d : Download) (said : List Saying) (agreed now : ℕ) (b : Bool) → nat_lt d.asked agreed ≡ b → J d said → Fresh said
        → let t : Stepped Download = if b then record { after = at_stage d (reading.Over OutOfRange); sayings = says (completion OutOfRange) ∷ [] } else receives d agreed (new_receiver agreed d.window d.chunk now) in
        J t.after (said ++ t.sayings)
    agrees_by d said agreed now true e j fresh = over d said OutOfRange _ (λ is. cc) j (tt, tt) (tt, tt)
    agrees_by d said agreed now false e j fresh =
        let r : Receiver = new_receiver agreed d.window d.chunk now in
        let low : agreed ≤ MAX_RESOURCE = omega (arith, within, subst (λ n. agreed ≤ n) j.asked_is (not_past d.asked e)) in
        let bounded : IsBounded r = new_bounded agreed d.window d.chunk now low (subst (λ n. n ≤ MAX_WINDOW) (sym j.window_is) w_high) (subst (λ n. n ≤ MAX_CHUNK) (sym j.chunk_is) c_high) in
        record {
          resource_is = j.resource_is;
          asked_is = j.asked_is;
          window_is = j.window_is;
          chunk_is = j.chunk_is;
          fits = all_join FitsSaying said _ j.fits (tt, ((first_fits r bounded, refl), tt));
          asks = all_join (AsksFor resource asked) said _ j.asks (tt, (tt, tt));
          told = λ t. told_more said _ (j.told t);
          stands = record {
            bounded = bounded;
            offset = agreed;
            agreed_is = refl;
            phase_at = record {
              not_told = all_join (SaysOkayWhere false) said _ fresh.1 (tt, (tt, tt));
              added = [];
              deeds_are = deeds_append said _ ∙ (ap (λ ds. ds ++ begins d.resource agreed ∷ []) fresh.0 ∙ ap (λ n. begins n agreed ∷ []) j.resource_is);
              next_is = omega arith;
              honest = λ bytes is. refl;
            };
          };
        }
      where
        not_past : (n : ℕ) → nat_lt n agreed ≡ false → agreed ≤ n
        not_past n e = grind (arith, nat_tests)

    asking_keeps : (d : Download) (said : List Saying) (w : Wait) (x : Word) (now : ℕ) → J d said → Fresh said → HearsOf content T x
        → J (asking_hears d w x now).after (said ++ (asking_hears d w x now).sayings)
    asking_keeps d said w (start_ack agreed) now j fresh h = agrees_by d said agreed now (nat_lt d.asked agreed) refl j fresh
    asking_keeps d said w (completion status) now j fresh h = over d said status _ (unheard said status d j fresh.1 h) j (tt, tt) (tt, tt)
    asking_keeps d said w (start x y) now j fresh h = goes d said (reading.Asking (waiting.touched w now)) [] j tt tt (fresh_more said [] fresh refl tt)
    asking_keeps d said w (confirmation ask) now j fresh h = goes d said (reading.Asking (waiting.touched w now)) [] j tt tt (fresh_more said [] fresh refl tt)
    asking_keeps d said w (parameters ask) now j fresh h = goes d said (reading.Asking (waiting.touched w now)) [] j tt tt (fresh_more said [] fresh refl tt)
    asking_keeps d said w (data_comes p) now j fresh h = goes d said (reading.Asking (waiting.touched w now)) [] j tt tt (fresh_more said [] fresh refl tt)
    asking_keeps d said w completion_ack now j fresh h = goes d said (reading.Asking (waiting.touched w now)) [] j tt tt (fresh_more said [] fresh refl tt)

    piece_keeps : (d : Download) (said : List Saying) (r : Receiver) (p : Piece) (now : ℕ) → J d said → Receives d.agreed r said → IsPieceOf content p
        → J (at_stage d (reading.Receiving (outcome_of r p now).after)) (said ++ of_piece p.bytes (outcome_of r p now).answer)
    piece_keeps d said r p now j is piece =
        let done = piece_done p.bytes r p.offset (length p.bytes) now p.last is.bounded in
        goes d said (reading.Receiving (outcome_of r p now).after) _ j done.1 (piece_asks p.bytes (outcome_of r p now).answer)
        (record { bounded = done.0; offset = is.offset; agreed_is = is.agreed_is; phase_at = piece_kept is.offset said p piece r now is.phase_at })

    completed_keeps : (d : Download) (said : List Saying) (r : Receiver) (p : Phase) (status : Status) → r.phase ≡ p → d.stage ≡ reading.Receiving r → J d said → Receives d.agreed r said
        → (status ≡ Okay → T) → J (completed d p status).after (said ++ (completed d p status).sayings)
    completed_keeps d said r phase.Receiving status e at j is h =
        over d said status _ (unheard said status d j (subst (PhaseAt is.offset said r.next) e is.phase_at).not_told h) j (tt, (tt, tt)) (tt, (tt, tt))
    completed_keeps d said r phase.Recovering status e at j is h =
        over d said status _ (unheard said status d j (subst (PhaseAt is.offset said r.next) e is.phase_at).not_told h) j (tt, (tt, tt)) (tt, (tt, tt))
    completed_keeps d said r (phase.Completing own) status e at j is h =
        subst (λ s. J (record d { stage = s }) (said ++ says completion_ack ∷ [])) (sym at)
        (goes d said (reading.Receiving r) _ j (tt, tt) (tt, tt)
        (record { bounded = is.bounded; offset = is.offset; agreed_is = is.agreed_is; phase_at = phase_more is.offset said _ r.next r.phase refl (tt, tt) is.phase_at }))
    completed_keeps d said r phase.Ended status e at j is h = absurd (subst (PhaseAt is.offset said r.next) e is.phase_at)

    read_by : (agreed : Option ℕ) (said : List Saying) (a : ℕ) → agreed ≡ Some a → Read a said → HasRead resource content agreed said
    read_by agreed said a is r = subst (λ o. HasRead resource content o said) (sym is) r

    acknowledged_keeps : (d : Download) (said : List Saying) (r : Receiver) (p : Phase) → r.phase ≡ p → J d said → Receives d.agreed r said
        → J (acknowledged d p).after (said ++ (acknowledged d p).sayings)
    acknowledged_keeps d said r phase.Receiving e j is = same d said j
    acknowledged_keeps d said r phase.Recovering e j is = same d said j
    acknowledged_keeps d said r (phase.Completing own) e j is =
        goes d said (reading.Over own) [] j tt tt
        (λ okay. read_by d.agreed (said ++ []) is.offset is.agreed_is (read_more is.offset said [] refl (subst (PhaseAt is.offset said r.next) e is.phase_at okay)))
    acknowledged_keeps d said r phase.Ended e j is = same d said j

    receiving_keeps : (d : Download) (said : List Saying) (r : Receiver) (x : Word) (now : ℕ) → d.stage ≡ reading.Receiving r → J d said → Receives d.agreed r said → HearsOf content T x
        → J (receiving_hears d r x now).after (said ++ (receiving_hears d r x now).sayings)
    receiving_keeps d said r (data_comes p) now at j is h = piece_keeps d said r p now j is h
    receiving_keeps d said r (completion status) now at j is h = completed_keeps d said r r.phase status refl at j is h
    receiving_keeps d said r completion_ack now at j is h = acknowledged_keeps d said r r.phase refl j is
    receiving_keeps d said r (start x y) now at j is h = same d said j
    receiving_keeps d said r (start_ack x) now at j is h = same d said j
    receiving_keeps d said r (confirmation ask) now at j is h = same d said j
    receiving_keeps d said r (parameters ask) now at j is h = same d said j

    hear_keeps : (d : Download) (said : List Saying) (stage : Reading) (x : Word) (now : ℕ) → d.stage ≡ stage → J d said → HearsOf content T x
        → J (hears_at d stage x now).after (said ++ (hears_at d stage x now).sayings)
    hear_keeps d said reading.Unasked x now e j h = same d said j
    hear_keeps d said (reading.Asking w) x now e j h = asking_keeps d said w x now j (subst (λ s. At d.agreed s said) e j.stands) h
    hear_keeps d said (reading.Receiving r) x now e j h = receiving_keeps d said r x now e j (subst (λ s. At d.agreed s said) e j.stands) h
    hear_keeps d said (reading.Over status) x now e j h = same d said j

    not_okay : (status : Status) (b : Bool) → is_okay status ≡ b → (if b then Aborted else status) ≡ Okay → ⊥
    not_okay status true e is = absurd cc
    not_okay status false e is = absurd (cc (sym e ∙ ap is_okay is))

    left_fits : (b : Bool) → AllByRecursion FitsSaying (if b then leaves ∷ [] else [])
    left_fits true = (tt, tt)
    left_fits false = tt

    left_asks : (b : Bool) → AllByRecursion (AsksFor resource asked) (if b then leaves ∷ [] else [])
    left_asks true = (tt, tt)
    left_asks false = tt

    close_keeps : (d : Download) (said : List Saying) (stage : Reading) (status : Status) → d.stage ≡ stage → J d said
        → J (closes_at d stage status).after (said ++ (closes_at d stage status).sayings)
    close_keeps d said reading.Unasked status e j = over d said (waiting.end_by_call status) [] (not_okay status (is_okay status) refl) j tt tt
    close_keeps d said (reading.Asking w) status e j = over d said (waiting.end_by_call status) [] (not_okay status (is_okay status) refl) j tt tt
    close_keeps d said (reading.Receiving r) status e j =
        over d said (waiting.end_by_call status) _ (not_okay status (is_okay status) refl) j (left_fits (is_open r.phase)) (left_asks (is_open r.phase))
    close_keeps d said (reading.Over ended) status e j = same d said j

    -- Time.
    asking_late : (d : Download) (said : List Saying) (w : Wait) (now : ℕ) (b : Bool) → J d said → Fresh said
        → let t : Stepped Download = if b then asks d (waiting.again w now) else record { after = at_stage d (reading.Over DeadlineExceeded); sayings = [] } in J t.after (said ++ t.sayings)
    asking_late d said w now true j fresh = asks_on d said (waiting.again w now) j fresh
    asking_late d said w now false j fresh = over d said DeadlineExceeded [] (λ is. cc) j tt tt

    asking_ticks : (d : Download) (said : List Saying) (w : Wait) (now : ℕ) (b : Bool) → J d said → Fresh said
        → let t : Stepped Download = if b then asking_timeout d w now else record { after = d; sayings = [] } in J t.after (said ++ t.sayings)
    asking_ticks d said w now true j fresh = asking_late d said w now (waiting.has_resends w) j fresh
    asking_ticks d said w now false j fresh = same d said j

    -- what a tick of the receiver leaves
    abbrev Ticked1 : Option ℕ → ℕ → List Saying → Phase → TickOutcome → Type 0
    Ticked1 agreed a said p t = IsBounded t.after → At agreed (receiving_or_over t.after t.answer) (said ++ of_tick (is_open p) t.answer)

    abbrev at_phase : Receiver → Phase → Receiver
    at_phase r p = record r { phase = p }

    resend_at : (agreed : Option ℕ) (a : ℕ) (said : List Saying) (r : Receiver) (p : Phase) (b : Bool) → agreed ≡ Some a → PhaseAt a said r.next p
        → Ticked1 agreed a said p (if b then record { after = record (asking true (at_phase r p)) { resends = r.resends + 1 }; answer = Resend (ask_of true (asking true (at_phase r p))) } else record { after = record (at_phase r p) { phase = phase.Ended }; answer = Over DeadlineExceeded })
    resend_at agreed a said r p true is at bounded =
        record { bounded = bounded; offset = a; agreed_is = is; phase_at = phase_more a said _ r.next p refl (tt, tt) at }
    resend_at agreed a said r p false is at bounded = λ okay. absurd cc

    end_at_phase : (agreed : Option ℕ) (a : ℕ) (said : List Saying) (r : Receiver) (status : Status) (b : Bool) → agreed ≡ Some a → (status ≡ Okay → Read a said)
        → Ticked1 agreed a said (phase.Completing status) (if b then record { after = record (at_phase r (phase.Completing status)) { resends = r.resends + 1 }; answer = ResendEnd status } else record { after = record (at_phase r (phase.Completing status)) { phase = phase.Ended }; answer = Over status })
    end_at_phase agreed a said r status true is at bounded =
        record { bounded = bounded; offset = a; agreed_is = is; phase_at = λ okay. read_more a said _ refl (at okay) }
    end_at_phase agreed a said r status false is at bounded = λ okay. read_by agreed (said ++ []) a is (read_more a said [] refl (at okay))

    timed_at : (agreed : Option ℕ) (a : ℕ) (said : List Saying) (r : Receiver) (p : Phase) → agreed ≡ Some a → PhaseAt a said r.next p
        → Ticked1 agreed a said p (timeout_outcome (at_phase r p) p)
    timed_at agreed a said r phase.Receiving is at = resend_at agreed a said r phase.Receiving (nat_lt r.resends MAX_RESENDS) is at
    timed_at agreed a said r phase.Recovering is at = resend_at agreed a said r phase.Recovering (nat_lt r.resends MAX_RESENDS) is at
    timed_at agreed a said r (phase.Completing status) is at = end_at_phase agreed a said r status (nat_lt r.resends MAX_RESENDS) is at
    timed_at agreed a said r phase.Ended is at = absurd at

    tick_at : (agreed : Option ℕ) (a : ℕ) (said : List Saying) (r : Receiver) (now : ℕ) (b : Bool) → agreed ≡ Some a → PhaseAt a said r.next r.phase
        → Ticked1 agreed a said r.phase (if b then timeout_outcome (active_at now r) r.phase else staying r)
    tick_at agreed a said r now true is at bounded = timed_at agreed a said (active_at now r) r.phase is at bounded
    tick_at agreed a said r now false is at bounded =
        record { bounded = bounded; offset = a; agreed_is = is; phase_at = subst (λ ss. PhaseAt a ss r.next r.phase) (sym (append-nil said)) at }

    tick_keeps : (d : Download) (said : List Saying) (stage : Reading) (now : ℕ) → d.stage ≡ stage → J d said → J (ticks_at d stage now).after (said ++ (ticks_at d stage now).sayings)
    tick_keeps d said reading.Unasked now e j = same d said j
    tick_keeps d said (reading.Asking w) now e j = asking_ticks d said w now (waiting.is_late w now) j (subst (λ s. At d.agreed s said) e j.stands)
    tick_keeps d said (reading.Receiving r) now e j =
        let is : Receives d.agreed r said = subst (λ s. At d.agreed s said) e j.stands in
        let done = tick_done (is_open r.phase) r now is.bounded in
        goes d said (receiving_or_over (tick_outcome r now).after (tick_outcome r now).answer) _ j done.1 (tick_asks (is_open r.phase) (tick_outcome r now).answer)
        (tick_at d.agreed is.offset said r now (nat_le (r.active + TIMEOUT) now) is.agreed_is is.phase_at done.0)
    tick_keeps d said (reading.Over status) now e j = same d said j

    keeps : (session : ℕ) → KeepsSteps read_rules session J (HearsOf content T)
    keeps session = record {
      opens = λ d said now j. open_keeps d said d.stage now refl j;
      hears = λ d said w now j h. hear_keeps d said d.stage w now refl j h;
      closes = λ d said status j. close_keeps d said d.stage status refl j;
      ticks = λ d said now j. tick_keeps d said d.stage now refl j;
    }

    ended_read : (agreed : Option ℕ) (stage : Reading) (said : List Saying) → At agreed stage said → end_at stage ≡ Some Okay → HasRead resource content agreed said
    ended_read agreed reading.Unasked said at is = absurd cc
    ended_read agreed (reading.Asking w) said at is = absurd cc
    ended_read agreed (reading.Receiving r) said at is = absurd cc
    ended_read agreed (reading.Over status) said at is = at (let same_end : status ≡ Okay = cc in same_end)

  -- a poll begins with what was told in those before
  from_now : (d : Download) (said : List Saying) → J ⊥ d said → J (HasToldOkay said) d said
  from_now d said j = record {
    resource_is = j.resource_is;
    asked_is = j.asked_is;
    window_is = j.window_is;
    chunk_is = j.chunk_is;
    fits = j.fits;
    asks = j.asks;
    told = λ t. t;
    stands = stands_again d.agreed d.stage j.stands;
  }
    where
      stands_again : (agreed : Option ℕ) (stage : Reading) → At ⊥ agreed stage said → At (HasToldOkay said) agreed stage said
      stands_again agreed reading.Unasked at = at
      stands_again agreed (reading.Asking w) at = at
      stands_again agreed (reading.Receiving r) at = record { bounded = at.bounded; offset = at.offset; agreed_is = at.agreed_is; phase_at = at.phase_at }
      stands_again agreed (reading.Over status) at = at

  from_then : (T : Type 0) (d : Download) (said : List Saying) → J T d said → J ⊥ d said
  from_then T d said j = record {
    resource_is = j.resource_is;
    asked_is = j.asked_is;
    window_is = j.window_is;
    chunk_is = j.chunk_is;
    fits = j.fits;
    asks = j.asks;
    told = λ t. absurd t;
    stands = stands_again d.agreed d.stage j.stands;
  }
    where
      stands_again : (agreed : Option ℕ) (stage : Reading) → At T agreed stage said → At ⊥ agreed stage said
      stands_again agreed reading.Unasked at = at
      stands_again agreed (reading.Asking w) at = at
      stands_again agreed (reading.Receiving r) at = record { bounded = at.bounded; offset = at.offset; agreed_is = at.agreed_is; phase_at = at.phase_at }
      stands_again agreed (reading.Over status) at = at

  abbrev first : Download
  first = new_download resource asked window chunk

  over_polls : (session : ℕ) (ps : List Poll) → HearsContent session content first ps → J ⊥ (stood read_rules session first ps) (said_over read_rules session first ps)
  over_polls session [] hears = record { resource_is = refl; asked_is = refl; window_is = refl; chunk_is = refl; fits = tt; asks = tt; told = λ t. absurd t; stands = (refl, tt) }
  over_polls session (p ∷ ps) hears =
      let d : Download = stood read_rules session first ps in
      let said : List Saying = said_over read_rules session first ps in
      from_then (HasToldOkay said) _ _
      (poll_keeps read_rules session (J (HasToldOkay said)) (HearsOf content (HasToldOkay said)) (keeps (HasToldOkay said) session) d said p.mail p.moment hears.0
      (from_now d said (over_polls session ps hears.1)))

pub reads_make_whole : ReadsMakeWhole
reads_make_whole session resource asked window chunk content ps r_small within w_high c_high hears =
    let j = over_polls resource asked window chunk content r_small within w_high c_high session ps hears in
    record {
      resource_is = j.resource_is;
      fits = j.fits;
      asks = j.asks;
      ended = ended_read resource asked window chunk content r_small within w_high c_high ⊥ _ _ _ j.stands;
    }
