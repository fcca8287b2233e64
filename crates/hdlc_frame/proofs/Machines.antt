-- The steps of the decoder, each a run with an escape, a flag or nothing behind it, against the stream.
use Rattle.std.proofs.Common.{◌≡◌, ℕ, ◌+◌, ◌-◌, ◌<◌, ◌≤◌, ◌||◌, ltb, min, Bool, true, false, List, [], ◌∷◌, ◌++◌, length, get_or, slice_range, take, drop-drop, drop, map, Some, refl, sym, ap, ◌∙◌, append_assoc, subst, inl, inr, arith}
use Rattle.std.specs.Bool.{if◌then◌else◌}
use Rattle.std.proofs.lemmas.Bool.{cases_lt, lt-ltb, le-ltb}
use Rattle.std.proofs.lemmas.List.{append-nil, length-append, length-drop, length-take, take_more, length-take-le, take-append-drop, take-append-le, take_all}
use Rattle.std.proofs.lemmas.List.Elements.{All-take}
use Rattle.std.proofs.Math.Seq.{take-add, take-append-add}
use Rattle.hdlc_frame.specs.declared.phase.Phase.{Phase}
use Rattle.hdlc_frame.specs.declared.phase.Phase.TheVariants.{Start}
use Rattle.hdlc_frame.specs.declared.octets.TheConstants.{ESCAPE, FLAG}
use Rattle.hdlc_frame.specs.Content.{unescaped}
use Rattle.hdlc_frame.specs.declared.closed.Closed.{Closed}
use Rattle.hdlc_frame.specs.declared.closed.Closed.TheVariants.{Whole}
use Rattle.hdlc_frame.specs.Found.{Found, found, found_in, found_in_content, found_in_unescaped}
use Rattle.hdlc_frame.specs.Laws.{ended}
use Rattle.hdlc_frame.specs.declared.machine.Machine.{Machine}
use Rattle.hdlc_frame.specs.Machine.{HasRead, HasReadIn, Reading, reading_at}
use Rattle.hdlc_frame.specs.Segments.{has_octets, is_flag, open_text}
use Rattle.hdlc_frame.specs.Steps.{IsOrdinary, Moves, after_escape, after_run, closed_by, closed_found, keeping}
use Rattle.hdlc_frame.proofs.Contents.{walk_end}
use Rattle.hdlc_frame.proofs.Parting.{found_flag, found_text}
use Rattle.hdlc_frame.proofs.Texts.{first, grown, no_flag, onto_content, run_told}
use Rattle.hdlc_frame.proofs.Runs.{moves_run}
use Rattle.hdlc_frame.proofs.Escapes.{moves_escape}
use Rattle.hdlc_frame.proofs.Flags.{ended_text, flag_reads, late_one, moves_flag}

abbrev with_phase : Reading → Phase → Reading
with_phase r p = record r { phase = p }

pub if_true : (b : Bool) (x y : List ℕ) → b ≡ true → (if b then x else y) ≡ x
if_true true x y e = refl
if_true false x y e = absurd (cc)

pub take_joined : (n : ℕ) (xs ys : List ℕ) → length xs ≤ n → xs ++ take (n - length xs) ys ≡ take n (xs ++ ys)
take_joined n xs ys h =
    let e : length xs + (n - length xs) ≡ n = omega arith in
    sym (take-append-add xs ys (n - length xs)) ∙ ap (λ m. take m (xs ++ ys)) e

take_part : (n : ℕ) (ys : List ℕ) → take (min (length ys) n) ys ≡ take n ys
take_part n ys = elim (cases_lt (length ys) n) [
  | inl w ↦
      let e : min (length ys) n ≡ length ys = omega arith in
      ap (λ m. take m ys) e ∙ take_all (length ys) ys (omega arith) ∙ sym (take_all n ys (omega arith))
  | inr w ↦ let e : min (length ys) n ≡ n = omega arith in ap (λ m. take m ys) e
]

less_room : (n c o : ℕ) → c ≤ n → ltb (n - c) o ≡ ltb n (c + o)
less_room n c o h = elim (cases_lt n (c + o)) [
  | inl w ↦ lt-ltb (n - c) o (omega arith) ∙ sym (lt-ltb n (c + o) w)
  | inr w ↦ le-ltb (n - c) o (omega arith) ∙ sym (le-ltb n (c + o) w)
]

pub keep_is :
    (limit len part : ℕ) (phase : Phase) (is_long : Bool) (content octets after : List ℕ) → length content ≤ limit → len ≡ length content →
    part ≡ min (length octets) (limit - len) → after ≡ content ++ take part octets →
    let found : Reading = record { limit = limit; phase = phase; is_long = is_long || ltb (limit - len) (length octets); content = after } in
    let before : Reading = record { limit = limit; phase = phase; is_long = is_long; content = content } in
    found ≡ keeping before octets
keep_is limit len part phase is_long content octets after within el ep ea =
    let same_long : ltb (limit - len) (length octets) ≡ ltb limit (length content + length octets) =
    ap (λ n. ltb (limit - n) (length octets)) el ∙ less_room limit (length content) (length octets) within
    in
    let same_content : after ≡ take limit (content ++ octets) =
    ea ∙ ap (λ n. content ++ take n octets) (ep ∙ ap (λ n. min (length octets) (limit - n)) el) ∙
    ap (λ l. content ++ l) (take_part (limit - length content) octets) ∙ take_joined limit content octets within
    in
    let with_long : Bool → Reading = λ b. record { limit = limit; phase = phase; is_long = is_long || b; content = after } in
    let with_content : List ℕ → Reading =
    λ l. record { limit = limit; phase = phase; is_long = is_long || ltb limit (length content + length octets); content = l }
    in
    ap with_long same_long ∙ ap with_content same_content

late_both :
    (limit : ℕ) (stream x y : List ℕ) (n : ℕ) → ((m : ℕ) → m < length x → found limit (stream ++ take m x) ≡ found limit stream) →
    ((m : ℕ) → m < length y → found limit ((stream ++ x) ++ take m y) ≡ found limit stream) → n < length (x ++ y) →
    found limit (stream ++ take n (x ++ y)) ≡ found limit stream
late_both limit stream x y n before behind below = elim (cases_lt n (length x)) [
  | inl w ↦
      ap (λ l. found limit (stream ++ l)) (let h : n ≤ length x = omega arith in take-append-le n x y h) ∙ before n w
  | inr w ↦
      let e : length x + (n - length x) ≡ n = omega arith in
      ap (λ m. found limit (stream ++ take m (x ++ y))) (sym e) ∙
      ap (λ l. found limit (stream ++ l)) (take-append-add x y (n - length x)) ∙
      ap (found limit) (sym (append_assoc stream x (take (n - length x) y))) ∙ behind (n - length x) (omega (arith, length-append x y))
]

pub moves_then : (a b c : Reading) (x y : List ℕ) (got : List Found) → Moves a b x [] → Moves b c y got → Moves a c (x ++ y) got
moves_then a b c x y got m1 m2 =
    let same : (stream : List ℕ) → HasRead a stream → found b.limit (stream ++ x) ≡ found a.limit stream =
    λ stream h. ap (λ n. found n (stream ++ x)) m1.limit ∙ m1.gives stream h ∙ append-nil (found a.limit stream)
    in
    record {
      limit = m2.limit ∙ m1.limit;
      read = λ stream h. let P : List ℕ → Type 0 = λ l. HasRead c l in subst P (append_assoc stream x y) (m2.read (stream ++ x) (m1.read stream h));
      gives = λ stream h.
          ap (found a.limit) (sym (append_assoc stream x y)) ∙ ap (λ n. found n ((stream ++ x) ++ y)) (sym m1.limit) ∙
          m2.gives (stream ++ x) (m1.read stream h) ∙ ap (λ l. l ++ got) (same stream h);
      late = λ stream h n below.
          late_both a.limit stream x y n (m1.late stream h)
          (λ m lt. ap (λ k. found k ((stream ++ x) ++ take m y)) (sym m1.limit) ∙ m2.late (stream ++ x) (m1.read stream h) m lt ∙ same stream h) below;
    }

start_reads : (r : Reading) (stream : List ℕ) → r.phase ≡ Start → HasRead r (stream ++ FLAG ∷ [])
start_reads r stream start =
    let again : r ≡ record r { phase = Start } = ap (λ p. with_phase r p) start in
    let P : Reading → Type 0 = λ q. HasRead q (stream ++ FLAG ∷ []) in
    subst P (sym again) (flag_reads r stream)

open_at_start : (r : Reading) (stream : List ℕ) → r.phase ≡ Start → HasRead r stream → open_text stream ≡ Some []
unfolding HasRead
open_at_start r stream start h =
    let P : Phase → Type 0 = λ p. HasReadIn p r (open_text stream) in
    subst P start h

whole_found : (limit : ℕ) (run : List ℕ) → IsOrdinary run → found_in limit run ≡ found_in_content limit run
whole_found limit run o =
    ap (found_in_unescaped limit)
    (ap (unescaped false) (sym (append-nil run)) ∙ run_told run [] o ∙ ap (onto_content run) walk_end ∙ ap Some (append-nil run))

-- a segment that lies whole in a piece, without an escape
pub moves_whole :
    (r : Reading) (run : List ℕ) → r.phase ≡ Start → IsOrdinary run → has_octets run ≡ true →
    Moves r r (run ++ FLAG ∷ []) (found_in_content r.limit run ∷ [])
moves_whole r run start o some = record {
  limit = refl;
  read = λ stream h.
      let P : List ℕ → Type 0 = λ l. HasRead r l in subst P (append_assoc stream run (FLAG ∷ [])) (start_reads r (stream ++ run) start);
  gives = λ stream h.
      ap (found r.limit) (sym (append_assoc stream run (FLAG ∷ []))) ∙ found_flag r.limit (stream ++ run) ∙
      ap (λ l. l ++ map (found_in r.limit) (ended (open_text (stream ++ run)))) (found_text r.limit stream run (no_flag run o)) ∙
      ap (λ t. found r.limit stream ++ map (found_in r.limit) (ended t)) (grown stream [] run (no_flag run o) (open_at_start r stream start h)) ∙
      ap (λ l. found r.limit stream ++ l) (ended_text r.limit run some ∙ ap (λ f. f ∷ []) (whole_found r.limit run o));
  late = λ stream h n below.
      late_both r.limit stream run (FLAG ∷ []) n
      (λ m lt. found_text r.limit stream (take m run) (All-take (λ octet. is_flag octet ≡ false) m run (no_flag run o)))
      (λ m lt. late_one r.limit FLAG (stream ++ run) m lt ∙ found_text r.limit stream run (no_flag run o)) below;
}

-- a part of the piece, up to an octet and with it
part_with :
    (piece rest : List ℕ) (at n x : ℕ) → rest ≡ drop at piece → n < length rest → get_or rest n 0 ≡ x →
    slice_range piece at (at + n + 1) ≡ take n rest ++ x ∷ []
part_with piece rest at n x e below is =
    let m : at + n + 1 - at ≡ n + 1 = omega arith in
    ap (λ m. take m (drop at piece)) m ∙ ap (take (n + 1)) (sym e) ∙ take_more rest n 0 below ∙ ap (λ y. take n rest ++ y ∷ []) is

-- the four ways of a step
pub step_end :
    (old new : Reading) (piece rest : List ℕ) (at n : ℕ) → rest ≡ drop at piece → n ≡ length rest → at ≤ length piece → IsOrdinary (take n rest) → new ≡ after_run old (take n rest) →
    Moves old new (slice_range piece at (length piece)) []
step_end old new piece rest at n e all within o is =
    let P : List ℕ → Type 0 = λ l. Moves old new l [] in
    let same : take n rest ≡ slice_range piece at (length piece) =
    take_all n rest (omega arith) ∙ e ∙ sym (take_all (length piece - at) (drop at piece) (omega (arith, length-drop at piece)))
    in
    subst P same (moves_run old new (take n rest) is o)

pub step_escape :
    (old middle new : Reading) (piece rest : List ℕ) (at n : ℕ) → rest ≡ drop at piece → n < length rest → get_or rest n 0 ≡ ESCAPE →
    IsOrdinary (take n rest) → middle ≡ after_run old (take n rest) → new ≡ after_escape middle →
    Moves old new (slice_range piece at (at + n + 1)) []
step_escape old middle new piece rest at n e below escape o first second =
    let P : List ℕ → Type 0 = λ l. Moves old new l [] in
    subst P (sym (part_with piece rest at n ESCAPE e below escape))
    (moves_then old middle new (take n rest) (ESCAPE ∷ []) [] (moves_run old middle (take n rest) first o) (moves_escape middle new second))

pub step_flag :
    (old middle new : Reading) (piece rest : List ℕ) (at n : ℕ) (closed : Closed) → rest ≡ drop at piece → n < length rest →
    get_or rest n 0 ≡ FLAG → IsOrdinary (take n rest) → middle ≡ after_run old (take n rest) → new ≡ record middle { phase = Start } →
    closed ≡ closed_by middle.phase middle.is_long → Moves old new (slice_range piece at (at + n + 1)) (closed_found new piece closed)
step_flag old middle new piece rest at n closed e below flag o first second ends =
    let P : List ℕ → Type 0 = λ l. Moves old new l (closed_found new piece closed) in
    subst P (sym (part_with piece rest at n FLAG e below flag))
    (moves_then old middle new (take n rest) (FLAG ∷ []) (closed_found new piece closed) (moves_run old middle (take n rest) first o)
    (moves_flag middle new piece closed second ends))

some_octets : (xs : List ℕ) → 0 < length xs → has_octets xs ≡ true
some_octets [] h = absurd (omega arith)
some_octets (x ∷ xs) h = refl

pub step_whole :
    (old : Reading) (piece rest : List ℕ) (at n : ℕ) → rest ≡ drop at piece → n < length rest → 0 < n → get_or rest n 0 ≡ FLAG →
    IsOrdinary (take n rest) → old.phase ≡ Start → Moves old old (slice_range piece at (at + n + 1)) (closed_found old piece (Whole at (at + n)))
step_whole old piece rest at n e below some flag o start =
    let P : List ℕ → Type 0 = λ l. Moves old old l (closed_found old piece (Whole at (at + n))) in
    let Q : List ℕ → Type 0 = λ l. Moves old old (take n rest ++ FLAG ∷ []) (found_in_content old.limit l ∷ []) in
    let same : take n rest ≡ take (at + n - at) (drop at piece) =
    let m : n ≡ at + n - at = omega arith in ap (take n) e ∙ ap (λ m. take m (drop at piece)) m
    in
    subst P (sym (part_with piece rest at n FLAG e below flag))
    (subst Q same (moves_whole old (take n rest) start o (some_octets (take n rest) (omega (arith, length-take n rest)))))

-- one step more
pub moves_more :
    (a b c : Reading) (piece : List ℕ) (at end : ℕ) (got : List Found) → at ≤ end → Moves a b (take at piece) [] → Moves b c (slice_range piece at end) got →
    Moves a c (take end piece) got
moves_more a b c piece at end got h m1 m2 =
    let P : List ℕ → Type 0 = λ l. Moves a c l got in
    let n : at + (end - at) ≡ end = omega arith in
    subst P (sym (take-add at (end - at) piece) ∙ ap (λ m. take m piece) n) (moves_then a b c (take at piece) (slice_range piece at end) got m1 m2)

pub take_within : (n m : ℕ) (xs : List ℕ) → n ≤ m → take n (take m xs) ≡ take n xs
take_within n m xs h = elim (cases_lt m (length xs)) [
  | inl w ↦
      sym (take-append-le n (take m xs) (drop m xs) (omega (arith, length-take m xs))) ∙ ap (take n) (take-append-drop m xs)
  | inr w ↦ ap (take n) (take_all m xs w)
]

-- a stream, a piece as far as it was read, and more of its rest
pub more_taken :
    (stream piece rest : List ℕ) (at n : ℕ) → rest ≡ drop at piece → (stream ++ take at piece) ++ take n rest ≡ stream ++ take (at + n) piece
more_taken stream piece rest at n e =
    append_assoc stream (take at piece) (take n rest) ∙ ap (λ l. stream ++ (take at piece ++ take n l)) e ∙
    ap (λ l. stream ++ l) (sym (take-add at n piece))

-- a step, and the text behind it
pub step_text :
    (a b c : Reading) (piece rest : List ℕ) (at end n : ℕ) → at ≤ end → rest ≡ drop end piece → Moves a b (slice_range piece at end) [] →
    Moves b c (take n rest) [] → Moves a c (slice_range piece at (end + n)) []
step_text a b c piece rest at end n h e m1 m2 =
    let P : List ℕ → Type 0 = λ l. Moves a c l [] in
    let part = drop at piece in
    let whole : at + (end - at) ≡ end = omega arith in
    let long : end - at + n ≡ end + n - at = omega arith in
    let behind : drop (end - at) part ≡ drop end piece = drop-drop (end - at) at piece ∙ ap (λ k. drop k piece) whole in
    subst P
    (ap (λ l. take (end - at) part ++ take n l) (e ∙ sym behind) ∙ sym (take-add (end - at) n part) ∙ ap (λ k. take k part) long)
    (moves_then a b c (slice_range piece at end) (take n rest) [] m1 m2)

-- octets that were added to the content in the buffer
pub kept_in :
    (machine : Machine) (buffer later octets : List ℕ) (n : ℕ) → machine.len ≤ length buffer → n ≡ min (length octets) (length buffer - machine.len) →
    length later ≡ length buffer → take (machine.len + n) later ≡ take machine.len buffer ++ take n octets →
    let after : Machine =
    record {
      phase = machine.phase;
      is_long = machine.is_long || ltb (length buffer - machine.len) (length octets);
      len = machine.len + n;
    }
    in
    reading_at after later ≡ keeping (reading_at machine buffer) octets
kept_in machine buffer later octets n within part same added =
    let content = take machine.len buffer in
    let len : length content ≡ machine.len = length-take-le machine.len buffer within in
    let with_limit : ℕ → Reading =
    λ limit. record {
      limit = limit;
      phase = machine.phase;
      is_long = machine.is_long || ltb (length buffer - machine.len) (length octets);
      content = take (machine.len + n) later;
    }
    in
    ap with_limit same ∙
    keep_is (length buffer) machine.len n machine.phase machine.is_long content octets (take (machine.len + n) later) (omega (arith, len)) (sym len) part added

-- a length past the buffer's counts as that
pub clamped :
    (machine : Machine) (buffer : List ℕ) (len : ℕ) → len ≡ min machine.len (length buffer) →
    reading_at (record machine { len = len }) buffer ≡ reading_at machine buffer
clamped machine buffer len is =
    let with_content : List ℕ → Reading =
    λ l. record { limit = length buffer; phase = machine.phase; is_long = machine.is_long; content = l }
    in
    let same : take len buffer ≡ take machine.len buffer = elim (cases_lt machine.len (length buffer)) [
      | inl w ↦ let e : len ≡ machine.len = omega arith in ap (λ n. take n buffer) e
      | inr w ↦ let e : len ≡ length buffer = omega arith in ap (λ n. take n buffer) e ∙ take_all (length buffer) buffer (omega arith) ∙ sym (take_all machine.len buffer w)
    ]
    in
    ap with_content same
