use Rattle.std.proofs.Common.{◌∙◌, ◌++◌, length, ap, sym, subst, arith}
use Rattle.std.proofs.lemmas.List.{length-take-le}
use Rattle.hdlc_frame.specs.Found.{found}
use Rattle.hdlc_frame.specs.Machine.{HasRead, Reading}
use Rattle.hdlc_frame.proofs.Machines.{clamped, take_within}
use Rattle.hdlc_frame.proofs.machine.Machine.push.Goals as goal

pub returns-clause-first : goal.returns-clause-first
returns-clause-first c = λ stream h n below.
    let piece = c.args.piece.now in
    let buffer = c.args.buffer.now in
    let limit = length buffer in
    let taken = c.feed-taken.result.0 in
    let moves = c.feed-taken.ensures.moves in
    let P : Reading → Type 0 = λ r. HasRead r stream in
    let read = subst P (sym (clamped c.args.self.now buffer c.min-self.result c.min-self.ensures)) h in
    ap (λ l. found limit (stream ++ l)) (sym (take_within n taken piece (omega arith))) ∙
    moves.late stream read n (omega (arith, below, length-take-le taken piece c.feed-taken.ensures.taken))
