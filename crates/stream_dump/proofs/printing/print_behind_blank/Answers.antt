use Rattle.std.proofs.Common.{[], ◌∷◌}
use Rattle.stream_dump.specs.Words.{word_text}
use Rattle.stream_dump.proofs.PrintLemmas.{some_then}
use Rattle.stream_dump.proofs.printing.print_behind_blank.Goals as goal

pub returns-clause-begun : goal.returns-clause-begun
returns-clause-begun g c =
    some_then (g.O.Sink.written c.args.output.now) (g.O.Sink.written c.write_whole.new.sink) (g.O.Sink.written c.print_word.new.output) (32 ∷ []) (word_text c.args.word)
    c.in_ok-write_whole.ensures.whole c.print_word.ensures.begun
