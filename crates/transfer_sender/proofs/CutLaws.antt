-- The pieces that are computed for a window are those that are asked, and nothing else is.
use Rattle.std.proofs.Common.{◌≡◌, ℕ, ◌+◌, ◌-◌, ◌<◌, ◌≤◌, ◌==◌, ◌⊎◌, inl, inr, List, [], ◌∷◌, length, take, drop, zero, suc, min, refl, nat_lt, Bool, true, false, arith, ◌∙◌, sym, ap, subst}
use Rattle.std.specs.List.{All}
use Rattle.std.proofs.lemmas.List.Elements.{All-nil, All-cons, All-head, All-tail}
use Rattle.std.proofs.lemmas.Bool.Decides.{nat_tests}
use Rattle.transfer_base.specs.declared.Piece.{Piece}
use Rattle.transfer_base.specs.PieceLists.{IsPartOf, AreConsecutive, end_of}
use Rattle.transfer_sender.specs.declared.cut.TheConstants.{MAX_PIECES}
use Rattle.transfer_sender.specs.Cut.{IsCut, piece_at, pieces_up_to, pieces_of_window, CutIsExact}
use Rattle.transfer_sender.proofs.CutLemmas.{pieces_up_to-zero, pieces_up_to-done, pieces_up_to-suc, length-piece_at}

-- `IsCut`, but for at most so many pieces
pub record IsCutOf (bytes : List ℕ) (chunk window_end at most : ℕ) (ps : List Piece) : Type 0 where
  pub consecutive : AreConsecutive at ps
  pub parts : All (IsPartOf bytes) ps
  pub sizes : All (λ p. length p.bytes ≡ min chunk (min (window_end - p.offset) (length bytes - p.offset))) ps
  pub not_empty : All (λ p. 0 < length p.bytes) ps
  pub count : length ps ≤ most
  pub whole : (length ps ≡ most) ⊎ (min window_end (length bytes) ≤ end_of at ps)

-- the size of the piece that is computed at an offset
abbrev size_at : List ℕ → ℕ → ℕ → ℕ → ℕ
size_at bytes chunk window_end at = min chunk (min window_end (length bytes) - at)

-- the size that is asked of a piece
abbrev IsSized : List ℕ → ℕ → ℕ → Piece → Type 0
IsSized bytes chunk window_end p = length p.bytes ≡ min chunk (min (window_end - p.offset) (length bytes - p.offset))

abbrev IsNotEmpty : Piece → Type 0
IsNotEmpty p = 0 < length p.bytes

cut_nothing : (bytes : List ℕ) (chunk window_end at most : ℕ) → min window_end (length bytes) ≤ at → IsCutOf bytes chunk window_end at most []
cut_nothing bytes chunk window_end at most h = record {
  consecutive = tt;
  parts = All-nil (IsPartOf bytes);
  sizes = All-nil (IsSized bytes chunk window_end);
  not_empty = All-nil IsNotEmpty;
  count = omega arith;
  whole = inr h;
}

cut_no_more : (bytes : List ℕ) (chunk window_end at : ℕ) → IsCutOf bytes chunk window_end at zero []
cut_no_more bytes chunk window_end at = record {
  consecutive = tt;
  parts = All-nil (IsPartOf bytes);
  sizes = All-nil (IsSized bytes chunk window_end);
  not_empty = All-nil IsNotEmpty;
  count = omega arith;
  whole = inl refl;
}

-- a piece in front
cut_one_more : (bytes : List ℕ) (chunk window_end at most : ℕ) (ps : List Piece) →
    1 ≤ chunk → at < min window_end (length bytes) →
    IsCutOf bytes chunk window_end (at + size_at bytes chunk window_end at) most ps →
    IsCutOf bytes chunk window_end at (suc most) (piece_at bytes at (size_at bytes chunk window_end at) ∷ ps)
cut_one_more bytes chunk window_end at most ps chunk_low below rest =
    let size = size_at bytes chunk window_end at in
    let p : Piece = piece_at bytes at (size_at bytes chunk window_end at) in
    let long : length (take size (drop at bytes)) ≡ size = length-piece_at bytes at size (omega arith) in
    let part : IsPartOf bytes p = record { bytes = ap (λ n. take n (drop at bytes)) (sym long); last = ap (λ n. at + n == length bytes) (sym long) } in
    let sized : IsSized bytes chunk window_end p = omega arith in
    let not_empty : IsNotEmpty p = omega arith in
    let few = rest.count in
    let P : ℕ → Type 0 = λ n. AreConsecutive (at + n) ps in
    let E : ℕ → Type 0 = λ n. min window_end (length bytes) ≤ end_of (at + n) ps in
    let W : Type 0 = (length (p ∷ ps) ≡ suc most) ⊎ (min window_end (length bytes) ≤ end_of at (p ∷ ps)) in
    record {
      consecutive = (refl, subst P (sym long) rest.consecutive);
      parts = All-cons (IsPartOf bytes) p ps part rest.parts;
      sizes = All-cons (IsSized bytes chunk window_end) p ps sized rest.sizes;
      not_empty = All-cons IsNotEmpty p ps not_empty rest.not_empty;
      count = omega arith;
      whole = elim rest.whole as (λ _. W) [ inl full ↦ inl (omega arith) | inr done ↦ inr (subst E (sym long) done) ];
    }

computed : (bytes : List ℕ) (chunk window_end at most : ℕ) → 1 ≤ chunk →
    IsCutOf bytes chunk window_end at most (pieces_up_to bytes chunk (min window_end (length bytes)) at most)
computed bytes chunk window_end at zero chunk_low =
    let P : List Piece → Type 0 = IsCutOf bytes chunk window_end at zero in
    subst P (sym (pieces_up_to-zero bytes chunk (min window_end (length bytes)) at zero refl)) (cut_no_more bytes chunk window_end at)
computed bytes chunk window_end at (suc most) chunk_low =
    by_test (λ next. computed bytes chunk window_end next most chunk_low) (nat_lt at (min window_end (length bytes))) refl
  where
    by_test : ((next : ℕ) → IsCutOf bytes chunk window_end next most (pieces_up_to bytes chunk (min window_end (length bytes)) next most)) →
        (b : Bool) → nat_lt at (min window_end (length bytes)) ≡ b →
        IsCutOf bytes chunk window_end at (suc most) (pieces_up_to bytes chunk (min window_end (length bytes)) at (suc most))
    by_test rest true e =
        let below : at < min window_end (length bytes) = grind (arith, nat_tests) in
        let next = at + size_at bytes chunk window_end at in
        let P : List Piece → Type 0 = IsCutOf bytes chunk window_end at (suc most) in
        subst P (sym (pieces_up_to-suc bytes chunk (min window_end (length bytes)) at most below))
        (cut_one_more bytes chunk window_end at most (pieces_up_to bytes chunk (min window_end (length bytes)) next most) chunk_low below (rest next))
    by_test rest false e =
        let done : min window_end (length bytes) ≤ at = grind (arith, nat_tests) in
        let P : List Piece → Type 0 = IsCutOf bytes chunk window_end at (suc most) in
        subst P (sym (pieces_up_to-done bytes chunk (min window_end (length bytes)) at (suc most) done)) (cut_nothing bytes chunk window_end at (suc most) done)

same_piece : (p : Piece) (offset : ℕ) (bytes : List ℕ) (last : Bool) → p.offset ≡ offset → p.bytes ≡ bytes → p.last ≡ last →
    p ≡ record { offset = offset; bytes = bytes; last = last }
same_piece p offset bytes last is_offset is_bytes is_last =
    let P1 : ℕ → Piece = λ o. record { offset = o; bytes = p.bytes; last = p.last } in
    let P2 : List ℕ → Piece = λ b. record { offset = offset; bytes = b; last = p.last } in
    let P3 : Bool → Piece = λ l. record { offset = offset; bytes = bytes; last = l } in
    ap P1 is_offset ∙ (ap P2 is_bytes ∙ ap P3 is_last)

-- a part of the resource is the piece that is computed at its place
part_is : (bytes : List ℕ) (p : Piece) (at size : ℕ) → IsPartOf bytes p → p.offset ≡ at → length p.bytes ≡ size → p ≡ piece_at bytes at size
part_is bytes p at size part is_offset is_size =
    let P : ℕ → ℕ → List ℕ = λ o n. take n (drop o bytes) in
    let Q : ℕ → ℕ → Bool = λ o n. o + n == length bytes in
    same_piece p at (take size (drop at bytes)) (at + size == length bytes) is_offset
    (part.bytes ∙ (ap (λ n. P p.offset n) is_size ∙ ap (λ o. P o size) is_offset))
    (part.last ∙ (ap (λ n. Q p.offset n) is_size ∙ ap (λ o. Q o size) is_offset))

unique : (bytes : List ℕ) (chunk window_end at most : ℕ) (ps : List Piece) →
    IsCutOf bytes chunk window_end at most ps → ps ≡ pieces_up_to bytes chunk (min window_end (length bytes)) at most
unique bytes chunk window_end at zero [] cut = sym (pieces_up_to-zero bytes chunk (min window_end (length bytes)) at zero refl)
unique bytes chunk window_end at zero (p ∷ ps) cut = let few = cut.count in absurd (omega arith)
unique bytes chunk window_end at (suc most) [] cut =
    elim cut.whole [ inl full ↦ absurd (omega arith) | inr done ↦ sym (pieces_up_to-done bytes chunk (min window_end (length bytes)) at (suc most) done) ]
unique bytes chunk window_end at (suc most) (p ∷ ps) cut =
    let is_offset = cut.consecutive.0 in
    let is_size : length p.bytes ≡ min chunk (min (window_end - p.offset) (length bytes - p.offset)) = All-head (IsSized bytes chunk window_end) p ps cut.sizes in
    let not_empty : 0 < length p.bytes = All-head IsNotEmpty p ps cut.not_empty in
    let below : at < min window_end (length bytes) = omega arith in
    let long : length p.bytes ≡ size_at bytes chunk window_end at = omega arith in
    let few = cut.count in
    let P : ℕ → Type 0 = λ n. AreConsecutive (at + n) ps in
    let E : ℕ → Type 0 = λ n. min window_end (length bytes) ≤ end_of (at + n) ps in
    let W : Type 0 = (length ps ≡ most) ⊎ (min window_end (length bytes) ≤ end_of (at + size_at bytes chunk window_end at) ps) in
    let rest : IsCutOf bytes chunk window_end (at + size_at bytes chunk window_end at) most ps = record {
      consecutive = subst P long cut.consecutive.1;
      parts = All-tail (IsPartOf bytes) p ps cut.parts;
      sizes = All-tail (IsSized bytes chunk window_end) p ps cut.sizes;
      not_empty = All-tail IsNotEmpty p ps cut.not_empty;
      count = omega arith;
      whole = elim cut.whole as (λ _. W) [ inl full ↦ inl (omega arith) | inr done ↦ inr (subst E long done) ];
    } in
    ap (λ q. q ∷ ps) (part_is bytes p at (size_at bytes chunk window_end at) (All-head (IsPartOf bytes) p ps cut.parts) is_offset long)
    ∙ (ap (λ qs. piece_at bytes at (size_at bytes chunk window_end at) ∷ qs) (unique bytes chunk window_end (at + size_at bytes chunk window_end at) most ps rest)
    ∙ sym (pieces_up_to-suc bytes chunk (min window_end (length bytes)) at most below))

pub cut_of_window : (resource : List ℕ) (chunk window_end position : ℕ) → 1 ≤ chunk →
    IsCut resource chunk window_end position (pieces_of_window resource chunk window_end position)
cut_of_window resource chunk window_end position chunk_low =
    let cut = computed resource chunk window_end position MAX_PIECES chunk_low in
    record { consecutive = cut.consecutive; parts = cut.parts; sizes = cut.sizes; not_empty = cut.not_empty; count = cut.count; whole = cut.whole }

pub cut_is_exact : CutIsExact
cut_is_exact resource chunk window_end position pieces chunk_low = (
  (λ e. (let P : List Piece → Type 0 = IsCut resource chunk window_end position in subst P (sym e) (cut_of_window resource chunk window_end position chunk_low))),
  (λ cut. unique resource chunk window_end position MAX_PIECES pieces
      (record { consecutive = cut.consecutive; parts = cut.parts; sizes = cut.sizes; not_empty = cut.not_empty; count = cut.count; whole = cut.whole })),
)
