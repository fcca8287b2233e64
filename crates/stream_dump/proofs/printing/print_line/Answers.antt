use Rattle.std.proofs.Common.{sym, subst}
use Rattle.link_io.specs.Device.{AppendsSome}
use Rattle.stream_dump.specs.Lines.{line, line_behind}
use Rattle.stream_dump.specs.Words.{texts, word_text}
use Rattle.stream_dump.proofs.PrintLemmas.{some_then}
use Rattle.stream_dump.proofs.printing.print_line.Goals as goal

pub returns-clause-begun : goal.returns-clause-begun
returns-clause-begun g c =
    let written = g.O.Sink.written in
    subst (λ ws. AppendsSome (written c.args.output.now) (written c.print_rest.new.output) (line (texts ws))) (sym c.in-Some.ensures.cases.0)
    (some_then (written c.args.output.now) (written c.print_word.new.output) (written c.print_rest.new.output) (word_text c.in-Some.first.now)
    (line_behind (texts c.in-Some.rest.now)) c.in_ok-print_word.ensures.whole c.print_rest.ensures.begun)
