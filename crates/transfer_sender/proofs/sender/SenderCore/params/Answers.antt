use Rattle.std.proofs.Common.{List, sym, subst}
use Rattle.transfer_base.specs.declared.Piece.{Piece}
use Rattle.transfer_base.specs.PieceLists.{BeginsAt}
use Rattle.transfer_sender.specs.Answer.{chunk_size}
use Rattle.transfer_sender.specs.Cut.{IsCut}
use Rattle.transfer_sender.proofs.AnswerLemmas.{pieces_for-again, pieces_for-on, pieces_for-first}
use Rattle.transfer_sender.proofs.sender.SenderCore.params.Goals as goal

pub returns-clause-again : goal.returns-clause-again
returns-clause-again c again below =
    let P : List Piece → Type 0 = IsCut c.args.self.now.bytes (chunk_size c.args.ask.max_chunk) c.args.ask.window_end c.args.ask.offset in
    subst P (sym c.in_ok-cut.ensures.pieces) (pieces_for-again c.args.self.now c.args.ask again below)

pub returns-clause-go_on : goal.returns-clause-go_on
returns-clause-go_on c on =
    let P : List Piece → Type 0 = IsCut c.args.self.now.bytes (chunk_size c.args.ask.max_chunk) c.args.ask.window_end c.args.self.now.position in
    subst P (sym c.in_ok-cut.ensures.pieces) (pieces_for-on c.args.self.now c.args.ask on)

pub returns-clause-again_first : goal.returns-clause-again_first
returns-clause-again_first c again inside =
    let P : List Piece → Type 0 = BeginsAt c.args.ask.offset in
    subst P (sym c.in_ok-cut.ensures.pieces) (pieces_for-first c.args.self.now c.args.ask again inside)
