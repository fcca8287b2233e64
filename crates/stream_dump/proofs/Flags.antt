-- The first flag of a piece.
use Rattle.std.proofs.Common.{◌≡◌, ℕ, ◌+◌, ◌<◌, Bool, true, false, List, [], ◌∷◌, ◌++◌, get_or, take, drop, Some, None, refl, sym, ap, ◌∙◌, arith}
use Rattle.std.proofs.Math.Seq.{drop-cons, take-add}
use Rattle.std.proofs.lemmas.Bool.{eqb-true}
use Rattle.std.proofs.lemmas.List.{get_or-take, length-take}
use Rattle.std.proofs.lemmas.List.Elements.{All-from_get_or}
use Rattle.memchr.specs.Find.{IsFirstByte, is_byte}
use Rattle.hdlc_frame.specs.declared.octets.TheConstants.{FLAG}
use Rattle.hdlc_frame.specs.Segments.{is_flag}
use Rattle.hdlc_frame.proofs.Parting.{NoFlag}

false_of : (b : Bool) → (b ≡ true → ⊥) → b ≡ false
false_of true h = absurd (h refl)
false_of false h = refl

pub no_flag : (piece : List ℕ) → IsFirstByte (is_byte FLAG) piece None → NoFlag piece
no_flag piece none = All-from_get_or (λ b. is_flag b ≡ false) piece 0 (λ i below. false_of (is_flag (get_or piece i 0)) (none i (omega arith) below))

pub no_flag_before : (piece : List ℕ) (at : ℕ) → IsFirstByte (is_byte FLAG) piece (Some at) → NoFlag (take at piece)
no_flag_before piece at found =
    All-from_get_or (λ b. is_flag b ≡ false) (take at piece) 0 (λ i below.
    let near : i < at = omega (arith, length-take at piece, below) in
    ap is_flag (get_or-take at piece i 0 near) ∙ false_of (is_flag (get_or piece i 0)) (found.0.before i (omega arith) near))

first_of : (xs : List ℕ) (x : ℕ) (ys : List ℕ) → xs ≡ x ∷ ys → take 1 xs ≡ x ∷ []
first_of xs x ys is = ap (take 1) is

-- the bytes up to and with the flag
pub with_flag : (piece : List ℕ) (at : ℕ) → IsFirstByte (is_byte FLAG) piece (Some at) → take at piece ++ FLAG ∷ [] ≡ take (at + 1) piece
with_flag piece at found =
    let here : get_or piece at 0 ≡ FLAG = eqb-true (get_or piece at 0) FLAG found.1 in
    let behind : take 1 (drop at piece) ≡ get_or piece at 0 ∷ [] = first_of (drop at piece) (get_or piece at 0) _ (drop-cons piece at 0 found.0.high) in
    ap (λ l. take at piece ++ l) (ap (λ x. x ∷ []) (sym here) ∙ sym behind) ∙ sym (take-add at 1 piece)
