-- A decoder reads a run of ordinary octets.
use Rattle.std.proofs.Common.{◌≡◌, ℕ, Bool, false, List, [], ◌∷◌, ◌++◌, take, refl, sym, ◌∙◌, append_assoc, subst, bit_xor}
use Rattle.std.proofs.lemmas.List.{append-nil}
use Rattle.std.proofs.lemmas.List.Elements.{All-take}
use Rattle.hdlc_frame.specs.declared.phase.Phase.{Phase}
use Rattle.hdlc_frame.specs.declared.phase.Phase.TheVariants.{Outside, Start, Plain, Escaped, Broken}
use Rattle.hdlc_frame.specs.declared.octets.TheConstants.{ESCAPE_BIT}
use Rattle.hdlc_frame.specs.Found.{found}
use Rattle.hdlc_frame.specs.Machine.{HasRead, HasReadText, Reading}
use Rattle.hdlc_frame.specs.Segments.{is_flag}
use Rattle.hdlc_frame.specs.Steps.{IsOrdinary, Moves, after_run, begun, keeping, run_in}
use Rattle.hdlc_frame.proofs.Parting.{NoFlag, found_text}
use Rattle.hdlc_frame.proofs.Texts.{first, grown, has_more, no_flag, others, read_begun, read_broken, read_kept, read_turned, still_outside}

run_in_reads :
    (limit : ℕ) (phase : Phase) (is_long : Bool) (kept : List ℕ) (x : ℕ) (xs stream : List ℕ) → IsOrdinary (x ∷ xs) →
    let before : Reading = record { limit = limit; phase = phase; is_long = is_long; content = kept } in
    HasRead before stream → HasRead (run_in phase before x xs) (stream ++ x ∷ xs)
unfolding HasRead
run_in_reads limit Outside is_long kept x xs stream o h = still_outside stream (x ∷ xs) (no_flag (x ∷ xs) o) h
run_in_reads limit Start is_long kept x xs stream o h =
    let before : Reading = record { limit = limit; phase = Start; is_long = is_long; content = kept } in
    (x ∷ xs, grown stream [] (x ∷ xs) (no_flag (x ∷ xs) o) h, refl, read_kept (begun before) [] (x ∷ xs) refl o (read_begun before))
run_in_reads limit Plain is_long kept x xs stream o h =
    let before : Reading = record { limit = limit; phase = Plain; is_long = is_long; content = kept } in
    (h.0 ++ x ∷ xs, grown stream h.0 (x ∷ xs) (no_flag (x ∷ xs) o) h.1, has_more h.0 (x ∷ xs) h.2, read_kept before h.0 (x ∷ xs) refl o h.3)
run_in_reads limit Escaped is_long kept x xs stream o h =
    let before : Reading = record { limit = limit; phase = Escaped; is_long = is_long; content = kept } in
    let turned = read_turned before h.0 x refl ((first x xs o).0) ((first x xs o).1) h.3 in
    let after : Reading = record (keeping before (bit_xor x ESCAPE_BIT ∷ [])) { phase = Plain } in
    let whole = read_kept after (h.0 ++ x ∷ []) xs refl (others x xs o) turned in
    let P : List ℕ → Type 0 = λ l. HasReadText (keeping after xs) l in
    (h.0 ++ x ∷ xs, grown stream h.0 (x ∷ xs) (no_flag (x ∷ xs) o) h.1, has_more h.0 (x ∷ xs) h.2, subst P (append_assoc h.0 (x ∷ []) xs) whole)
run_in_reads limit Broken is_long kept x xs stream o h =
    let before : Reading = record { limit = limit; phase = Broken; is_long = is_long; content = kept } in
    (h.0 ++ x ∷ xs, grown stream h.0 (x ∷ xs) (no_flag (x ∷ xs) o) h.1, has_more h.0 (x ∷ xs) h.2, read_broken before h.0 (x ∷ xs) refl h.3)

run_reads : (r : Reading) (run stream : List ℕ) → IsOrdinary run → HasRead r stream → HasRead (after_run r run) (stream ++ run)
run_reads r [] stream o h = let P : List ℕ → Type 0 = λ l. HasRead r l in subst P (sym (append-nil stream)) h
run_reads r (x ∷ xs) stream o h = run_in_reads r.limit r.phase r.is_long r.content x xs stream o h

-- bytes without a flag
pub moves_text :
    (old new : Reading) (bytes : List ℕ) → new.limit ≡ old.limit → NoFlag bytes →
    ((stream : List ℕ) → HasRead old stream → HasRead new (stream ++ bytes)) → Moves old new bytes []
moves_text old new bytes same none reads = record {
  limit = same;
  read = reads;
  gives = λ stream h. found_text old.limit stream bytes none ∙ sym (append-nil (found old.limit stream));
  late = λ stream h n below. found_text old.limit stream (take n bytes) (All-take (λ octet. is_flag octet ≡ false) n bytes none);
}

run_limit : (phase : Phase) (r : Reading) (x : ℕ) (xs : List ℕ) → (run_in phase r x xs).limit ≡ r.limit
run_limit Outside r x xs = refl
run_limit Start r x xs = refl
run_limit Plain r x xs = refl
run_limit Escaped r x xs = refl
run_limit Broken r x xs = refl

after_run_limit : (r : Reading) (run : List ℕ) → (after_run r run).limit ≡ r.limit
after_run_limit r [] = refl
after_run_limit r (x ∷ xs) = run_limit r.phase r x xs

pub moves_run : (old new : Reading) (run : List ℕ) → new ≡ after_run old run → IsOrdinary run → Moves old new run []
moves_run old new run e o =
    let P : Reading → Type 0 = λ r. Moves old r run [] in
    subst P (sym e) (moves_text old (after_run old run) run (after_run_limit old run) (no_flag run o) (λ stream h. run_reads old run stream o h))
