use Rattle.std.proofs.Common.{◌++◌}
use Rattle.std.proofs.KnownBytes.{Appends-kept, Appends-trans}
use Rattle.stream_dump.specs.Dump.{counts_line}
use Rattle.stream_dump.specs.Steps.{apart_text}
use Rattle.stream_dump.proofs.PrintLemmas.{some_all, some_then}
use Rattle.stream_dump.proofs.WordLemmas.{on_ok}
use Rattle.stream_dump.proofs.dumper.Dumper.finish.Goals as goal

pub returns-in_err-print_counts-clause-begun : goal.returns-in_err-print_counts-clause-begun
returns-in_err-print_counts-clause-begun g c =
    let written = g.O.Sink.written in
    let inside = c.self.inside in
    rw (← c.self.view_is, ← c.last_word-word.ensures) (
    some_then (written c.args.output.now) (written c.print_apart.new.output) (written c.print_counts.new.output)
    (apart_text c.last_word-word.result.now inside.start inside.len) (counts_line inside.counts) c.in_ok-print_apart.ensures.whole c.in_err-print_counts.ensures.begun
    )

pub returns-clause-whole : goal.returns-clause-whole
returns-clause-whole g c =
    let written = g.O.Sink.written in
    let inside = c.self.inside in
    let apart = apart_text c.last_word-word.result.now inside.start inside.len in
    rw (← c.self.view_is, ← c.last_word-word.ensures) (
    on_ok c.flush.result _ (
    Appends-kept (written c.args.output.now) (written c.print_counts.new.output) (written c.flush.new.self) (apart ++ counts_line inside.counts)
    (Appends-trans (written c.args.output.now) (written c.print_apart.new.output) (written c.print_counts.new.output) apart (counts_line inside.counts)
    c.in_ok-print_apart.ensures.whole c.in_ok-print_counts.ensures.whole) c.flush.ensures.bytes
    )
    )

pub returns-clause-begun : goal.returns-clause-begun
returns-clause-begun g c =
    let written = g.O.Sink.written in
    let inside = c.self.inside in
    let apart = apart_text c.last_word-word.result.now inside.start inside.len in
    rw (← c.self.view_is, ← c.last_word-word.ensures) (
    some_all (written c.args.output.now) (written c.flush.new.self) (apart ++ counts_line inside.counts) (
    Appends-kept (written c.args.output.now) (written c.print_counts.new.output) (written c.flush.new.self) (apart ++ counts_line inside.counts)
    (Appends-trans (written c.args.output.now) (written c.print_apart.new.output) (written c.print_counts.new.output) apart (counts_line inside.counts)
    c.in_ok-print_apart.ensures.whole c.in_ok-print_counts.ensures.whole) c.flush.ensures.bytes
    )
    )
