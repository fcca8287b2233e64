use Rattle.std.proofs.Common.{ℕ, arith, length-take, length-drop}
use Rattle.link_io.proofs.PieceLemmas.{Appends-piece}
use Rattle.link_io.proofs.writing.write_whole.Goals as goal

pub pieces-preserved : goal.pieces-preserved
pieces-preserved g c =
    let written = g.K.Sink.written in
    let later = c.in_ok-done.ensures.cause.later in (
      omega (arith, c.in_ok-done.ensures.bound, length-take {A = ℕ}, length-drop {A = ℕ}),
      Appends-piece (written c.args.sink.now) (written c.pieces.sink) (written c.write.new.self) c.args.bytes.now c.pieces.done c.in_ok-done.field-0 c.pieces.invariant.1 c.in_ok-done.ensures.bytes,
      omega arith,
      c.in_ok-done.ensures.open,
    )
