-- A decoder reads a flag: the segment that was open, and what is found in it.
use Rattle.std.proofs.Common.{◌≡◌, ℕ, ◌<◌, ◌≤◌, zero, suc, ltb, Bool, true, false, List, [], ◌∷◌, ◌++◌, length, take, map, Some, refl, sym, ap, ◌∙◌, subst, arith}
use Rattle.std.proofs.lemmas.Bool.{ltb-false}
use Rattle.std.proofs.lemmas.List.{append-nil, take_all}
use Rattle.hdlc_frame.specs.declared.phase.Phase.{Phase}
use Rattle.hdlc_frame.specs.declared.phase.Phase.TheVariants.{Outside, Start, Plain, Escaped, Broken}
use Rattle.hdlc_frame.specs.declared.octets.TheConstants.{FLAG}
use Rattle.hdlc_frame.specs.Content.{unescaped}
use Rattle.hdlc_frame.specs.declared.closed.Closed.{Closed}
use Rattle.hdlc_frame.specs.declared.found.Bad.TheVariants.{Long}
use Rattle.hdlc_frame.specs.Found.{found, found_in, found_in_content, found_in_unescaped}
use Rattle.hdlc_frame.specs.Found.Found.{fault}
use Rattle.hdlc_frame.specs.Laws.{ended}
use Rattle.hdlc_frame.specs.Machine.{HasRead, HasReadText, Reading, content_behind}
use Rattle.hdlc_frame.specs.Segments.{has_octets, open_text}
use Rattle.hdlc_frame.specs.Steps.{Moves, closed_by, closed_found}
use Rattle.hdlc_frame.proofs.Contents.{walk_cut, walk_end}
use Rattle.hdlc_frame.proofs.Parting.{found_flag, open_text_flag}
use Rattle.hdlc_frame.proofs.Texts.{behind_broken, behind_escaped, behind_plain, onto_content}

pub flag_reads : (r : Reading) (stream : List ℕ) → HasRead (record r { phase = Start }) (stream ++ FLAG ∷ [])
unfolding HasRead
flag_reads r stream = open_text_flag stream

-- the text that was open, at its end
text_found :
    (r : Reading) (text : List ℕ) → (t : HasReadText r text) →
    found_in r.limit text ≡ found_in_unescaped r.limit (onto_content t.whole (content_behind r.phase []))
text_found r text t = ap (found_in_unescaped r.limit) (ap (unescaped false) (sym (append-nil text)) ∙ t.told [])

pub ended_text : (limit : ℕ) (text : List ℕ) → has_octets text ≡ true → map (found_in limit) (ended (Some text)) ≡ found_in limit text ∷ []
ended_text limit [] h = absurd (cc)
ended_text limit (x ∷ xs) h = refl

found_long : (limit : ℕ) (content : List ℕ) → ltb limit (length content) ≡ true → found_in_content limit content ≡ fault Long
unfolding found_in_content
found_long limit content h = rw h refl

plain_closed :
    (limit : ℕ) (is_long : Bool) (kept text piece : List ℕ) →
    let before : Reading = record { limit = limit; phase = Plain; is_long = is_long; content = kept } in
    let after : Reading = record { limit = limit; phase = Start; is_long = is_long; content = kept } in
    HasReadText before text → found_in limit text ∷ [] ≡ closed_found after piece (closed_by Plain is_long)
plain_closed limit true kept text piece t =
    let before : Reading = record { limit = limit; phase = Plain; is_long = true; content = kept } in
    ap (λ f. f ∷ [])
    (text_found before text t ∙ ap (λ c. found_in_unescaped limit (onto_content t.whole c)) (behind_plain [] ∙ walk_end) ∙
    ap (found_in_content limit) (append-nil t.whole) ∙ found_long limit t.whole (sym t.long))
plain_closed limit false kept text piece t =
    let before : Reading = record { limit = limit; phase = Plain; is_long = false; content = kept } in
    let within : length t.whole ≤ limit = ltb-false limit (length t.whole) (sym t.long) in
    ap (λ f. f ∷ [])
    (text_found before text t ∙ ap (λ c. found_in_unescaped limit (onto_content t.whole c)) (behind_plain [] ∙ walk_end) ∙
    ap (found_in_content limit) (append-nil t.whole ∙ sym (take_all limit t.whole within) ∙ sym t.content))

flag_gives :
    (limit : ℕ) (phase : Phase) (is_long : Bool) (kept stream piece : List ℕ) →
    let before : Reading = record { limit = limit; phase = phase; is_long = is_long; content = kept } in
    let after : Reading = record { limit = limit; phase = Start; is_long = is_long; content = kept } in
    HasRead before stream → map (found_in limit) (ended (open_text stream)) ≡ closed_found after piece (closed_by phase is_long)
unfolding HasRead
flag_gives limit Outside is_long kept stream piece h = ap (λ o. map (found_in limit) (ended o)) h
flag_gives limit Start is_long kept stream piece h = ap (λ o. map (found_in limit) (ended o)) h
flag_gives limit Plain is_long kept stream piece h =
    ap (λ o. map (found_in limit) (ended o)) h.1 ∙ ended_text limit h.0 h.2 ∙ plain_closed limit is_long kept h.0 piece h.3
flag_gives limit Escaped is_long kept stream piece h =
    let before : Reading = record { limit = limit; phase = Escaped; is_long = is_long; content = kept } in
    ap (λ o. map (found_in limit) (ended o)) h.1 ∙ ended_text limit h.0 h.2 ∙
    ap (λ f. f ∷ []) (text_found before h.0 h.3 ∙ ap (λ c. found_in_unescaped limit (onto_content h.3.whole c)) (behind_escaped [] ∙ walk_cut))
flag_gives limit Broken is_long kept stream piece h =
    let before : Reading = record { limit = limit; phase = Broken; is_long = is_long; content = kept } in
    ap (λ o. map (found_in limit) (ended o)) h.1 ∙ ended_text limit h.0 h.2 ∙
    ap (λ f. f ∷ []) (text_found before h.0 h.3 ∙ ap (λ c. found_in_unescaped limit (onto_content h.3.whole c)) (behind_broken []))

pub late_one : (limit x : ℕ) (stream : List ℕ) (n : ℕ) → n < 1 → found limit (stream ++ take n (x ∷ [])) ≡ found limit stream
late_one limit x stream zero below = ap (found limit) (append-nil stream)
late_one limit x stream (suc n) below = absurd (omega arith)

moves_flag_at : (old : Reading) (piece : List ℕ) → let new : Reading = record old { phase = Start } in Moves old new (FLAG ∷ []) (closed_found new piece (closed_by old.phase old.is_long))
moves_flag_at old piece = record {
  limit = refl;
  read = λ stream h. flag_reads old stream;
  gives = λ stream h.
      found_flag old.limit stream ∙
      ap (λ l. found old.limit stream ++ l) (flag_gives old.limit old.phase old.is_long old.content stream piece h);
  late = λ stream h n below. late_one old.limit FLAG stream n below;
}

pub moves_flag :
    (old new : Reading) (piece : List ℕ) (closed : Closed) → new ≡ record old { phase = Start } → closed ≡ closed_by old.phase old.is_long →
    Moves old new (FLAG ∷ []) (closed_found new piece closed)
moves_flag old new piece closed e ec =
    let P : Reading → Type 0 = λ r. Moves old r (FLAG ∷ []) (closed_found r piece (closed_by old.phase old.is_long)) in
    let Q : Closed → Type 0 = λ c. Moves old new (FLAG ∷ []) (closed_found new piece c) in
    subst Q (sym ec) (subst P (sym e) (moves_flag_at old piece))
