-- The pieces up to a stop, one at a time.
use Rattle.std.proofs.Common.{◌≡◌, ℕ, ◌+◌, ◌-◌, ◌<◌, ◌≤◌, List, [], ◌∷◌, ◌++◌, length, take, drop, zero, suc, min, refl, nat_lt, true, false, arith, append_assoc, append-nil, ◌∙◌, sym, ap}
use Rattle.transfer_base.specs.declared.Piece.{Piece}
use Rattle.transfer_base.specs.PieceLists.{end_of}
use Rattle.transfer_sender.specs.Cut.{piece_at, pieces_up_to, pieces_of_window}
use Rattle.transfer_sender.specs.declared.cut.TheConstants.{MAX_PIECES}
use Rattle.std.proofs.lemmas.Bool.Decides.{nat_tests}
use Rattle.std.proofs.lemmas.List.{length-take, length-drop}

-- there is nothing to send from the stop on
pub pieces_up_to-done : (bytes : List ℕ) (chunk stop at most : ℕ) → stop ≤ at → pieces_up_to bytes chunk stop at most ≡ []
unfolding pieces_up_to
pieces_up_to-done bytes chunk stop at zero h = refl
pieces_up_to-done bytes chunk stop at (suc most) h = let e : nat_lt at stop ≡ false = grind (arith, nat_tests) in rw e refl

pub pieces_up_to-zero : (bytes : List ℕ) (chunk stop at most : ℕ) → most ≡ 0 → pieces_up_to bytes chunk stop at most ≡ []
unfolding pieces_up_to
pieces_up_to-zero bytes chunk stop at most none = rw none refl

-- before the stop there is one piece, and then the rest
pub pieces_up_to-suc : (bytes : List ℕ) (chunk stop at most : ℕ) → at < stop →
    pieces_up_to bytes chunk stop at (suc most)
    ≡ piece_at bytes at (min chunk (stop - at)) ∷ pieces_up_to bytes chunk stop (at + min chunk (stop - at)) most
unfolding pieces_up_to
pieces_up_to-suc bytes chunk stop at most h = let e : nat_lt at stop ≡ true = grind (arith, nat_tests) in rw e refl

pub end_of-append : (at : ℕ) (ps : List Piece) (p : Piece) → end_of at (ps ++ p ∷ []) ≡ end_of at ps + length p.bytes
end_of-append at [] p = refl
end_of-append at (q ∷ ps) p = end_of-append (at + length q.bytes) ps p

pub length-piece_at : (bytes : List ℕ) (at size : ℕ) → at + size ≤ length bytes → length (take size (drop at bytes)) ≡ size
length-piece_at bytes at size h = omega (arith, length-take size (drop at bytes), length-drop at bytes)

-- the pieces so far and those that are left are all, and none are left
pub cut-done : (bytes : List ℕ) (chunk stop window_end position at most : ℕ) (ps : List Piece) →
    stop ≡ min window_end (length bytes) →
    pieces_up_to bytes chunk stop at most ≡ [] →
    ps ++ pieces_up_to bytes chunk stop at most ≡ pieces_up_to bytes chunk stop position MAX_PIECES →
    ps ≡ pieces_of_window bytes chunk window_end position
cut-done bytes chunk stop window_end position at most ps is_stop none rest =
    let here : ps ≡ pieces_up_to bytes chunk stop position MAX_PIECES = sym (append-nil ps) ∙ (sym (ap (λ qs. ps ++ qs) none) ∙ rest) in
    here ∙ ap (λ s. pieces_up_to bytes chunk s position MAX_PIECES) is_stop

-- one more piece
pub cut-more : (bytes : List ℕ) (chunk stop at size left : ℕ) (ps qs all : List Piece) (p : Piece) →
    at < stop → size ≡ min chunk (stop - at) → p ≡ piece_at bytes at size → qs ≡ ps ++ p ∷ [] →
    ps ++ pieces_up_to bytes chunk stop at (suc left) ≡ all →
    qs ++ pieces_up_to bytes chunk stop (at + size) left ≡ all
cut-more bytes chunk stop at size left ps qs all p below is_size is_piece is_pushed rest =
    rw (is_pushed, is_piece, is_size) (
    append_assoc ps (piece_at bytes at (min chunk (stop - at)) ∷ []) (pieces_up_to bytes chunk stop (at + min chunk (stop - at)) left)
    ∙ (sym (ap (λ rs. ps ++ rs) (pieces_up_to-suc bytes chunk stop at left below)) ∙ rest))

-- where one more piece ends
pub end-more : (bytes : List ℕ) (position at size : ℕ) (ps qs : List Piece) (p : Piece) →
    p ≡ piece_at bytes at size → qs ≡ ps ++ p ∷ [] → at + size ≤ length bytes → end_of position ps ≡ at →
    end_of position qs ≡ at + size
end-more bytes position at size ps qs p is_piece is_pushed within end =
    rw (is_pushed) (end_of-append position ps p ∙ (ap (λ n. n + length p.bytes) end ∙ ap (λ n. at + n) (ap (λ (q : Piece). length q.bytes) is_piece ∙ length-piece_at bytes at size within)))
