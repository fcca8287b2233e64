-- What a sender answers, by the kinds of ask.
use Rattle.std.proofs.Common.{◌≡◌, ℕ, ◌<◌, ◌≤◌, ◌==◌, List, [], ◌∷◌, length, true, false, arith, sym, ◌⊎◌, inl, inr}
use Rattle.std.proofs.lemmas.Bool.Decides.{nat_tests}
use Rattle.std.proofs.lemmas.Bool.{eq-eqb}
use Rattle.transfer_base.specs.PieceLists.{BeginsAt}
use Rattle.transfer_base.specs.declared.Ask.{Ask}
use Rattle.transfer_base.specs.declared.Piece.{Piece}
use Rattle.transfer_sender.specs.Cut.{IsCut}
use Rattle.transfer_sender.specs.Answer.{chunk_size, pieces_for}
use Rattle.transfer_sender.specs.Sender.{Sender}
use Rattle.transfer_sender.proofs.CutLaws.{cut_of_window}

pub chunk_size-low : (asked : ℕ) → 1 ≤ chunk_size asked
chunk_size-low asked = grind (arith, nat_tests)

pub pieces_for-again : (s : Sender) (ask : Ask) → ask.again ≡ true → ask.offset < length s.bytes →
    IsCut s.bytes (chunk_size ask.max_chunk) ask.window_end ask.offset (pieces_for s ask)
pieces_for-again s ask again below =
    let other : (ask.offset == length s.bytes) ≡ false = grind (arith, nat_tests) in
    rw (again, other) (cut_of_window s.bytes (chunk_size ask.max_chunk) ask.window_end ask.offset (chunk_size-low ask.max_chunk))

pub pieces_for-on : (s : Sender) (ask : Ask) → ask.again ≡ false →
    IsCut s.bytes (chunk_size ask.max_chunk) ask.window_end s.position (pieces_for s ask)
pieces_for-on s ask on = rw on (cut_of_window s.bytes (chunk_size ask.max_chunk) ask.window_end s.position (chunk_size-low ask.max_chunk))

cut_begins : (resource : List ℕ) (chunk window_end position : ℕ) (ps : List Piece) → IsCut resource chunk window_end position ps →
    position < length resource → position < window_end → BeginsAt position ps
cut_begins resource chunk window_end position [] cut below inside =
    elim cut.whole [ inl full ↦ absurd (omega arith) | inr done ↦ absurd (omega arith) ]
cut_begins resource chunk window_end position (p ∷ ps) cut below inside = cut.consecutive.0

-- a retransmission begins with the piece at its offset, if there is anything to send from there
pub pieces_for-first : (s : Sender) (ask : Ask) → ask.again ≡ true →
    (ask.offset ≡ length s.bytes) ⊎ ((ask.offset < length s.bytes) × (ask.offset < ask.window_end)) → BeginsAt ask.offset (pieces_for s ask)
pieces_for-first s ask again (inl at_end) =
    let same : (ask.offset == length s.bytes) ≡ true = eq-eqb ask.offset (length s.bytes) at_end in rw (again, same) (sym at_end)
pieces_for-first s ask again (inr inside) =
    cut_begins s.bytes (chunk_size ask.max_chunk) ask.window_end ask.offset (pieces_for s ask) (pieces_for-again s ask again inside.0) inside.0 inside.1
