use Rattle.std.proofs.Common.{ℕ, arith, length-take, length-drop}
use Rattle.stream_dump.specs.Names.{names_of}
use Rattle.stream_dump.proofs.DumpLemmas.{on_more}
use Rattle.stream_dump.proofs.dumping.dump_piece.Goals as goal

pub texts-preserved : goal.texts-preserved
texts-preserved g c =
    let before = c.texts.invariant in
    let taken = c.in_ok-done.ensures.taken in
    let place = c.in_ok-done.ensures.place in
    record {
      within = omega (arith, taken, length-take {A = ℕ}, length-drop {A = ℕ});
      open_still = c.in_ok-done.ensures.open;
      later = omega (arith, before.later, c.in_ok-done.ensures.cause.later);
      place = omega (arith, before.place, place);
      on =
          on_more (names_of c.args.names.now) _ (record { dumper = c.texts.dumper; written = g.O.Sink.written c.texts.output }) _ c.args.piece.now
          c.texts.done c.in_ok-done.field-0 before.on c.in_ok-done.ensures.on;
    }
