use Rattle.stream_dump.proofs.PrintLemmas.{newline_some, rest_some}
use Rattle.stream_dump.proofs.printing.print_rest.Goals as goal

pub returns-in_err-print_behind_blank-clause-begun : goal.returns-in_err-print_behind_blank-clause-begun
returns-in_err-print_behind_blank-clause-begun g c =
    rest_some (g.O.Sink.written c.args.output.now) (g.O.Sink.written c.loop-word.output) (g.O.Sink.written c.print_behind_blank.new.output)
    c.args.words.now c.loop-word.word-index _ c.loop-word-test.true c.loop-word.invariant.wrote c.in_err-print_behind_blank.ensures.begun

pub returns-clause-begun : goal.returns-clause-begun
returns-clause-begun g c =
    newline_some (g.O.Sink.written c.args.output.now) (g.O.Sink.written c.loop-word.output) (g.O.Sink.written c.write_whole.new.sink)
    c.args.words.now c.loop-word.word-index c.loop-word-test.false c.loop-word.invariant.wrote c.write_whole.ensures.begun
