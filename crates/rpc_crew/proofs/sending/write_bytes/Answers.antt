use Rattle.std.proofs.Common.{ℕ, arith, length-take, length-drop}
use Rattle.link_io.proofs.PieceLemmas.{Appends-piece}
use Rattle.rpc_crew.proofs.sending.write_bytes.Goals as goal

pub writes-preserved : goal.writes-preserved
writes-preserved g c =
    let written = g.O.Sink.written in
    let later = c.in-Ok.ensures.cause.later in
    record {
      within = omega (arith, c.in-Ok.ensures.bound, length-take {A = ℕ}, length-drop {A = ℕ});
      wrote = Appends-piece (written c.args.output.now) (written c.writes.output) (written c.write.new.self) c.args.bytes.now c.writes.done c.in-Ok.count c.writes.invariant.wrote c.in-Ok.ensures.bytes;
      later = omega arith;
      open_still = c.in-Ok.ensures.open;
    }
