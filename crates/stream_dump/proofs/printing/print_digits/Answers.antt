use Rattle.std.proofs.Common.{arith, sym, subst}
use Rattle.std.specs.Io.KnownBytes.{Appends}
use Rattle.std.proofs.KnownBytes.{Appends-nil}
use Rattle.stream_dump.proofs.PrintLemmas.{digits_more, digits_some, encode_none}
use Rattle.stream_dump.proofs.printing.print_digits.Goals as goal

pub pieces-init : goal.pieces-init
pieces-init g c = record {
  within = omega arith;
  open_still = c.requires;
  later = omega arith;
  wrote = subst (Appends (g.O.Sink.written c.args.output.now) (g.O.Sink.written c.args.output.now)) (sym (encode_none c.args.bytes.now)) (Appends-nil (g.O.Sink.written c.args.output.now));
}

pub pieces-preserved : goal.pieces-preserved
pieces-preserved g c = record {
  within = omega (arith, c.min-count.ensures, c.pieces.invariant.within);
  open_still = c.in_ok-print_few_digits.ensures.open;
  later = omega (arith, c.pieces.invariant.later, c.in_ok-print_few_digits.ensures.cause.later);
  wrote =
      digits_more (g.O.Sink.written c.args.output.now) (g.O.Sink.written c.pieces.output) (g.O.Sink.written c.print_few_digits.new.output)
      c.args.bytes.now c.pieces.done c.min-count.result c.pieces.invariant.wrote c.in_ok-print_few_digits.ensures.whole;
}

pub returns-in_err-print_few_digits-clause-begun : goal.returns-in_err-print_few_digits-clause-begun
returns-in_err-print_few_digits-clause-begun g c =
    digits_some (g.O.Sink.written c.args.output.now) (g.O.Sink.written c.pieces.output) (g.O.Sink.written c.print_few_digits.new.output)
    c.args.bytes.now c.pieces.done c.min-count.result c.pieces.invariant.wrote c.in_err-print_few_digits.ensures.begun
