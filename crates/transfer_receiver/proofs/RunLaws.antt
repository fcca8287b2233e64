-- What a receiver keeps of all that comes to it: it joins, and the end OK comes at the last of it.
use Rattle.std.proofs.Common.{◌≡◌, ℕ, ◌+◌, ◌||◌, inl, inr, refl, Bool, true, false, List, [], ◌∷◌, ◌++◌, length, take, drop, arith, sym, ◌∙◌, ap, subst, length-append, append-nil}
use Rattle.std.specs.List.{All}
use Rattle.std.specs.Bool.{MatchBool}
use Rattle.std.proofs.lemmas.Bool.{eqb-true}
use Rattle.std.proofs.lemmas.List.Elements.{All-nil, All-cons, All-head, All-tail}
use Rattle.std.proofs.lemmas.List.{take_all, length-drop, drop-drop}
use Rattle.std.proofs.Math.Seq.{take-add}
use Rattle.transfer_base.specs.declared.Piece.{Piece}
use Rattle.transfer_base.specs.PieceLists.{IsPartOf, AreConsecutive, bytes_of, IsPickedFrom, OnlyTheLastEnds, NoneEnds}
use Rattle.transfer_receiver.specs.Phase.{is_open}
use Rattle.transfer_receiver.specs.Receiver.{Receiver, new_receiver}
use Rattle.transfer_receiver.specs.PieceRules.{PieceOutcome, active_at}
use Rattle.transfer_receiver.specs.TickRules.{tick_outcome, acknowledged}
use Rattle.transfer_receiver.specs.Answers.{is_kept, ends_well}
use Rattle.transfer_receiver.specs.Run.{Event, piece_comes, time_passes, end_acknowledged, outcome_of, came, with_kept, kept_pieces, has_ended_well, KeptPiecesJoin, EndedWellJoins, KeepsTheResource, JoinedPartsAreTheResource}
use Rattle.transfer_receiver.proofs.PieceSteps.{Step, passes_over, goes_on, ends_here, step_of, tick_next, tick_closed, ack_closed, closed_ignores}

-- the kept pieces are picked from those that came

picked_more : (kept : Bool) (p : Piece) (qs ps : List Piece) → IsPickedFrom qs ps → IsPickedFrom (with_kept kept p qs) (p ∷ ps)
picked_more true p qs ps rest = inl (refl, rest)
picked_more false p [] ps rest = tt
picked_more false p (q ∷ qs) ps rest = inr rest

picked : (events : List Event) (r : Receiver) → IsPickedFrom (kept_pieces r events) (came events)
picked [] r = tt
picked (piece_comes p now ∷ events) r =
    picked_more (is_kept (outcome_of r p now).answer) p (kept_pieces (outcome_of r p now).after events) (came events) (picked events (outcome_of r p now).after)
picked (time_passes now ∷ events) r = picked events (tick_outcome r now).after
picked (end_acknowledged ∷ events) r = picked events (acknowledged r)

-- they are consecutive from the next byte on

consecutive_more : (r : Receiver) (p : Piece) (t : PieceOutcome) (ps : List Piece) → Step r p.offset (length p.bytes) p.last t →
    AreConsecutive t.after.next ps → AreConsecutive r.next (with_kept (is_kept t.answer) p ps)
consecutive_more r p t ps (passes_over kept well next) rest =
    let K : Bool → Type 0 = λ k. AreConsecutive r.next (with_kept k p ps) in
    let N : ℕ → Type 0 = λ n. AreConsecutive n ps in
    subst K (sym kept) (subst N next rest)
consecutive_more r p t ps (goes_on kept well at next more) rest =
    let K : Bool → Type 0 = λ k. AreConsecutive r.next (with_kept k p ps) in
    let N : ℕ → Type 0 = λ n. AreConsecutive n ps in
    subst K (sym kept) (at, subst N (next ∙ ap (λ o. o + length p.bytes) at) rest)
consecutive_more r p t ps (ends_here kept well at next ends closed) rest =
    let K : Bool → Type 0 = λ k. AreConsecutive r.next (with_kept k p ps) in
    let N : ℕ → Type 0 = λ n. AreConsecutive n ps in
    subst K (sym kept) (at, subst N (next ∙ ap (λ o. o + length p.bytes) at) rest)

consecutive : (events : List Event) (r : Receiver) → AreConsecutive r.next (kept_pieces r events)
consecutive [] r = tt
consecutive (piece_comes p now ∷ events) r =
    consecutive_more r p (outcome_of r p now) (kept_pieces (outcome_of r p now).after events) (step_of r p.offset (length p.bytes) p.last now)
    (consecutive events (outcome_of r p now).after)
consecutive (time_passes now ∷ events) r =
    let N : ℕ → Type 0 = λ n. AreConsecutive n (kept_pieces (tick_outcome r now).after events) in
    subst N (tick_next r now) (consecutive events (tick_outcome r now).after)
consecutive (end_acknowledged ∷ events) r = consecutive events (acknowledged r)

-- nothing is kept once the receiver takes no more pieces

nothing_more : (events : List Event) (r : Receiver) → is_open r.phase ≡ false → kept_pieces r events ≡ []
nothing_more [] r closed = refl
nothing_more (piece_comes p now ∷ events) r closed =
    let P : PieceOutcome → Type 0 = λ t. with_kept (is_kept t.answer) p (kept_pieces t.after events) ≡ [] in
    subst P (sym (closed_ignores r p.offset (length p.bytes) p.last now closed)) (nothing_more events (active_at now r) closed)
nothing_more (time_passes now ∷ events) r closed = nothing_more events (tick_outcome r now).after (tick_closed r now closed)
nothing_more (end_acknowledged ∷ events) r closed = nothing_more events (acknowledged r) (ack_closed r closed)

-- the end OK comes exactly at the last kept piece

last_in_front : (p : Piece) (ps : List Piece) → p.last ≡ false → OnlyTheLastEnds ps → OnlyTheLastEnds (p ∷ ps)
last_in_front p [] unmarked last = absurd last
last_in_front p (q ∷ qs) unmarked last = (unmarked, last)

front : (p : Piece) (ps : List Piece) (ended : Bool) → p.last ≡ false →
    MatchBool ended (OnlyTheLastEnds ps) (NoneEnds ps) → MatchBool ended (OnlyTheLastEnds (p ∷ ps)) (NoneEnds (p ∷ ps))
front p ps true unmarked last = last_in_front p ps unmarked last
front p ps false unmarked none = All-cons (λ (q : Piece). q.last ≡ false) p ps unmarked none

last_more : (r : Receiver) (p : Piece) (t : PieceOutcome) (ps : List Piece) (ended : Bool) → Step r p.offset (length p.bytes) p.last t →
    (is_open t.after.phase ≡ false → ps ≡ []) → MatchBool ended (OnlyTheLastEnds ps) (NoneEnds ps) →
    MatchBool (ends_well t.answer || ended) (OnlyTheLastEnds (with_kept (is_kept t.answer) p ps)) (NoneEnds (with_kept (is_kept t.answer) p ps))
last_more r p t ps ended (passes_over kept well next) closed rest =
    let P : Bool → Bool → Type 0 = λ w k. MatchBool (w || ended) (OnlyTheLastEnds (with_kept k p ps)) (NoneEnds (with_kept k p ps)) in
    subst (λ w. P w (is_kept t.answer)) (sym well) (subst (P false) (sym kept) rest)
last_more r p t ps ended (goes_on kept well at next more) closed rest =
    let P : Bool → Bool → Type 0 = λ w k. MatchBool (w || ended) (OnlyTheLastEnds (with_kept k p ps)) (NoneEnds (with_kept k p ps)) in
    subst (λ w. P w (is_kept t.answer)) (sym well) (subst (P false) (sym kept) (front p ps ended more rest))
last_more r p t ps ended (ends_here kept well at next ends is_closed) closed rest =
    let P : Bool → Bool → Type 0 = λ w k. MatchBool (w || ended) (OnlyTheLastEnds (with_kept k p ps)) (NoneEnds (with_kept k p ps)) in
    let L : List Piece → Type 0 = λ qs. OnlyTheLastEnds (p ∷ qs) in
    subst (λ w. P w (is_kept t.answer)) (sym well) (subst (P true) (sym kept) (subst L (sym (closed is_closed)) ends))

last : (events : List Event) (r : Receiver) → MatchBool (has_ended_well r events) (OnlyTheLastEnds (kept_pieces r events)) (NoneEnds (kept_pieces r events))
last [] r = All-nil (λ (p : Piece). p.last ≡ false)
last (piece_comes p now ∷ events) r =
    last_more r p (outcome_of r p now) (kept_pieces (outcome_of r p now).after events) (has_ended_well (outcome_of r p now).after events)
    (step_of r p.offset (length p.bytes) p.last now) (nothing_more events (outcome_of r p now).after) (last events (outcome_of r p now).after)
last (time_passes now ∷ events) r = last events (tick_outcome r now).after
last (end_acknowledged ∷ events) r = last events (acknowledged r)

pub kept_pieces_join : KeptPiecesJoin
kept_pieces_join offset span chunk now events =
    let r : Receiver = new_receiver offset span chunk now in
    record { in_order = picked events r; consecutive = consecutive events r; last = last events r }

ended_last : (ps : List Piece) (ended : Bool) → MatchBool ended (OnlyTheLastEnds ps) (NoneEnds ps) → ended ≡ true → OnlyTheLastEnds ps
ended_last ps ended h e = let P : Bool → Type 0 = λ b. MatchBool b (OnlyTheLastEnds ps) (NoneEnds ps) in subst P e h

pub ended_well_joins : EndedWellJoins
ended_well_joins offset span chunk now events ended =
    let r : Receiver = new_receiver offset span chunk now in
    record {
      picked = kept_pieces r events;
      in_order = picked events r;
      consecutive = consecutive events r;
      last = ended_last (kept_pieces r events) (has_ended_well r events) (last events r) ended;
      data_is = refl;
    }

-- pieces of one resource

kept_parts_more : (resource : List ℕ) (kept : Bool) (p : Piece) (qs : List Piece) → IsPartOf resource p → All (IsPartOf resource) qs →
    All (IsPartOf resource) (with_kept kept p qs)
kept_parts_more resource true p qs part parts = All-cons (IsPartOf resource) p qs part parts
kept_parts_more resource false p qs part parts = parts

kept_parts : (resource : List ℕ) (events : List Event) (r : Receiver) → All (IsPartOf resource) (came events) → All (IsPartOf resource) (kept_pieces r events)
kept_parts resource [] r parts = All-nil (IsPartOf resource)
kept_parts resource (piece_comes p now ∷ events) r parts =
    kept_parts_more resource (is_kept (outcome_of r p now).answer) p (kept_pieces (outcome_of r p now).after events)
    (All-head (IsPartOf resource) p (came events) parts)
    (kept_parts resource events (outcome_of r p now).after (All-tail (IsPartOf resource) p (came events) parts))
kept_parts resource (time_passes now ∷ events) r parts = kept_parts resource events (tick_outcome r now).after parts
kept_parts resource (end_acknowledged ∷ events) r parts = kept_parts resource events (acknowledged r) parts

-- consecutive parts of a resource are a part of it
beginning : (resource : List ℕ) (ps : List Piece) (offset : ℕ) → AreConsecutive offset ps → All (IsPartOf resource) ps →
    bytes_of ps ≡ take (length (bytes_of ps)) (drop offset resource)
beginning resource [] offset consecutive parts = refl
beginning resource (p ∷ ps) offset consecutive parts =
    let part : IsPartOf resource p = All-head (IsPartOf resource) p ps parts in
    let rest : bytes_of ps ≡ take (length (bytes_of ps)) (drop (offset + length p.bytes) resource)
    = beginning resource ps (offset + length p.bytes) consecutive.1 (All-tail (IsPartOf resource) p ps parts) in
    let here : p.bytes ≡ take (length p.bytes) (drop offset resource) = part.bytes ∙ ap (λ o. take (length p.bytes) (drop o resource)) consecutive.0 in
    joined resource offset p.bytes (bytes_of ps) here rest
  where
    joined : (resource : List ℕ) (offset : ℕ) (xs ys : List ℕ) → xs ≡ take (length xs) (drop offset resource) →
        ys ≡ take (length ys) (drop (offset + length xs) resource) → xs ++ ys ≡ take (length (xs ++ ys)) (drop offset resource)
    joined resource offset xs ys first second =
        ap (λ zs. zs ++ ys) first
        ∙ (ap (λ zs. take (length xs) (drop offset resource) ++ zs) (second ∙ ap (take (length ys)) (sym (drop-drop (length xs) offset resource)))
        ∙ (sym (take-add (length xs) (length ys) (drop offset resource)) ∙ ap (λ n. take n (drop offset resource)) (sym (length-append xs ys))))

-- and they end with it where the last of them does
ends_with : (resource : List ℕ) (ps : List Piece) (offset : ℕ) → AreConsecutive offset ps → All (IsPartOf resource) ps → OnlyTheLastEnds ps →
    length resource ≡ offset + length (bytes_of ps)
ends_with resource [] offset consecutive parts last = absurd last
ends_with resource (p ∷ []) offset consecutive parts last =
    let part : IsPartOf resource p = All-head (IsPartOf resource) p [] parts in
    let end : p.offset + length p.bytes ≡ length resource = eqb-true (p.offset + length p.bytes) (length resource) (sym part.last ∙ last) in
    let at = consecutive.0 in
    omega (arith, ap length (append-nil p.bytes))
ends_with resource (p ∷ q ∷ ps) offset consecutive parts last =
    let rest = ends_with resource (q ∷ ps) (offset + length p.bytes) consecutive.1 (All-tail (IsPartOf resource) p (q ∷ ps) parts) last.1 in
    omega (arith, length-append p.bytes (bytes_of (q ∷ ps)))

whole : (resource : List ℕ) (offset : ℕ) (bytes : List ℕ) → bytes ≡ take (length bytes) (drop offset resource) → length resource ≡ offset + length bytes →
    bytes ≡ drop offset resource
whole resource offset bytes is_beginning size =
    is_beginning ∙ take_all (length bytes) (drop offset resource) (omega (arith, length-drop offset resource))

pub keeps_the_resource : KeepsTheResource
keeps_the_resource resource offset span chunk now events parts =
    let r : Receiver = new_receiver offset span chunk now in
    let here = beginning resource (kept_pieces r events) offset (consecutive events r) (kept_parts resource events r parts) in (
      here,
      λ ended. whole resource offset (bytes_of (kept_pieces r events)) here
          (ends_with resource (kept_pieces r events) offset (consecutive events r) (kept_parts resource events r parts)
          (ended_last (kept_pieces r events) (has_ended_well r events) (last events r) ended)),
    )

picked_parts : (resource : List ℕ) (qs ps : List Piece) → IsPickedFrom qs ps → All (IsPartOf resource) ps → All (IsPartOf resource) qs
picked_parts resource [] ps h parts = All-nil (IsPartOf resource)
picked_parts resource (q ∷ qs) [] h parts = absurd h
picked_parts resource (q ∷ qs) (p ∷ ps) (inl same) parts =
    All-cons (IsPartOf resource) q qs (subst (IsPartOf resource) (sym same.0) (All-head (IsPartOf resource) p ps parts))
    (picked_parts resource qs ps same.1 (All-tail (IsPartOf resource) p ps parts))
picked_parts resource (q ∷ qs) (p ∷ ps) (inr later) parts = picked_parts resource (q ∷ qs) ps later (All-tail (IsPartOf resource) p ps parts)

pub joined_parts_are_the_resource : JoinedPartsAreTheResource
joined_parts_are_the_resource resource came offset bytes joins parts =
    let picked = picked_parts resource joins.picked came joins.in_order parts in
    joins.data_is
    ∙ whole resource offset (bytes_of joins.picked) (beginning resource joins.picked offset joins.consecutive picked)
    (ends_with resource joins.picked offset joins.consecutive picked joins.last)
