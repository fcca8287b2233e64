-- Ordinary octets copied, a block at a time.
use Rattle.std.proofs.Common.{◌≡◌, ◌≢◌, ℕ, ◌+◌, ◌≤◌, List, [], ◌∷◌, ◌++◌, length, take, drop, take-take, refl, sym, ap, ◌∙◌, append_assoc, subst, arith}
use Rattle.std.proofs.lemmas.List.{length-drop, length-take-le}
use Rattle.std.proofs.lemmas.List.Elements.{All-append}
use Rattle.std.proofs.lemmas.Simd.{length-chunk}
use Rattle.std.proofs.Math.Seq.{take-add, take-append-add}
use lib.Lanes.{chunk, put_chunk}
use Rattle.hdlc_frame.specs.declared.octets.TheConstants.{ESCAPE, FLAG}
use Rattle.hdlc_frame.specs.Steps.{IsOrdinary}

-- what was copied before a block, and so many octets of the block
pub copied_on :
    (from done k m : ℕ) (old buffer later octets rest block : List ℕ) → rest ≡ drop done octets → block ≡ take m rest → k ≤ m →
    from + done ≤ length buffer → take (from + done) buffer ≡ take from old ++ take done octets →
    take (from + done + m) later ≡ take (from + done) buffer ++ block → take (from + (done + k)) later ≡ take from old ++ take (done + k) octets
copied_on from done k m old buffer later octets rest block er eb short room before written =
    let head = take (from + done) buffer in
    let len : length head ≡ from + done = length-take-le (from + done) buffer room in
    let here : from + (done + k) ≡ length head + k = omega (arith, len) in
    let part : take k block ≡ take k (drop done octets) = ap (take k) eb ∙ take-take k m rest short ∙ ap (take k) er in
    sym (take-take (from + (done + k)) (from + done + m) later (omega arith)) ∙ ap (take (from + (done + k))) written ∙
    ap (λ n. take n (head ++ block)) here ∙ take-append-add head block k ∙ ap (λ l. head ++ l) part ∙
    ap (λ l. l ++ take k (drop done octets)) before ∙ append_assoc (take from old) (take done octets) (take k (drop done octets)) ∙
    ap (λ l. take from old ++ l) (sym (take-add done k octets))

pub ordinary_on :
    (done k : ℕ) (octets rest : List ℕ) → rest ≡ drop done octets → IsOrdinary (take done octets) → IsOrdinary (take k rest) → IsOrdinary (take (done + k) octets)
ordinary_on done k octets rest er before more =
    let P : List ℕ → Type 0 = λ l. IsOrdinary (take k l) in
    let Q : List ℕ → Type 0 = λ l. IsOrdinary l in
    subst Q (sym (take-add done k octets))
    (All-append (λ octet. (octet ≢ FLAG) × (octet ≢ ESCAPE)) (take done octets) (take k (drop done octets)) before (subst P er more))

-- a block that is written over as many octets
pub over_all : (xs ys : List ℕ) → length xs ≡ length ys → put_chunk 0 xs ys ≡ ys
over_all [] [] e = refl
over_all [] (y ∷ ys) e = absurd (omega arith)
over_all (x ∷ xs) [] e = absurd (omega arith)
over_all (x ∷ xs) (y ∷ ys) e = ap (λ l. y ∷ l) (over_all xs ys (omega arith))

pub block_over :
    (at done m : ℕ) (buffer octets : List ℕ) → m ≡ 32 → at + 32 ≤ length buffer → done + 32 ≤ length octets →
    put_chunk 0 (take m (drop at buffer)) (chunk done 32 octets) ≡ take 32 (drop done octets)
block_over at done m buffer octets e room has =
    over_all (take m (drop at buffer)) (chunk done 32 octets)
    (length-take-le m (drop at buffer) (omega (arith, length-drop at buffer)) ∙ e ∙ sym (length-chunk done 32 octets has))
