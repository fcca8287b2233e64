use Rattle.std.proofs.Common.{◌≡◌, ◌++◌, drop}
use Rattle.transfer_words.specs.CoreAnswers.{said_pieces}
use Rattle.transfer_words.specs.Saying.{outs_of}
use Rattle.transfer_words.proofs.core_answers.say_pieces.Given as goal

-- what is said so far, with the pieces to come, is the whole
abbrev pub invariant-loop-piece : goal.invariant-loop-piece
invariant-loop-piece l =
    l.outs ++ outs_of l.session (said_pieces (drop l.piece-index l.pieces)) ≡ l.initial.outs ++ outs_of l.session (said_pieces l.pieces)
