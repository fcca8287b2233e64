use Rattle.std.proofs.Common.{ℕ, arith, length-take, length-drop}
use Rattle.link_io.proofs.PieceLemmas.{Appends-piece}
use Rattle.frame_router.proofs.pumping.write_batch.Goals as goal

pub writes-preserved : goal.writes-preserved
writes-preserved g c =
    let written = g.O.Sink.written in
    let bytes = c.bytes-bytes.result.now in
    let later = c.in-Ok.ensures.cause.later in
    record {
      within = omega (arith, c.in-Ok.ensures.bound, length-take {A = ℕ}, length-drop {A = ℕ});
      wrote = Appends-piece (written c.args.link_out.now) (written c.writes.link_out) (written c.write.new.self) bytes c.writes.done c.in-Ok.count c.writes.invariant.wrote c.in-Ok.ensures.bytes;
      later = omega arith;
      open_still = c.in-Ok.ensures.open;
    }
