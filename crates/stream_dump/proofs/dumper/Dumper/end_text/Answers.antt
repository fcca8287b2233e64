use Rattle.hdlc_frame.specs.Lent.{found_in_got}
use Rattle.hdlc_frame.specs.Machine.{reading_at}
use Rattle.stream_dump.specs.Names.{names_of}
use Rattle.stream_dump.specs.Progress.{Progress}
use Rattle.stream_dump.proofs.DumpLemmas.{flag_finds, flag_on, flag_read, flag_stops}
use Rattle.stream_dump.proofs.WordLemmas.{on_err}
use Rattle.stream_dump.proofs.dumper.Dumper.end_text.Goals as goal

pub returns-clause-on : goal.returns-clause-on
returns-clause-on g c =
    let inside = c.self.inside in
    let push = c.push-told in
    let old : Progress = record { reading = reading_at inside.machine inside.buffer; start = inside.start; len = inside.len; flagged = inside.has_flag; counts = inside.counts } in
    rw (← c.self.view_is) (
    flag_on (names_of c.args.names.now) old _ (g.O.Sink.written c.args.output.now) (g.O.Sink.written c.print_ended.new.output) (found_in_got c.lent_segment-got.result)
    (flag_read old (reading_at push.new.self push.new.buffer) push.result.taken push.result.segment push.new.buffer (found_in_got c.lent_segment-got.result) c.counted-self-inside.result
    push.auto.buffer push.ensures.taken push.ensures.progress push.ensures.read push.ensures.gives c.lent_segment-got.ensures c.counted-self-inside.ensures)
    c.in_ok-print_ended.ensures.whole
    )

pub returns-in_err-print_ended-clause-stops : goal.returns-in_err-print_ended-clause-stops
returns-in_err-print_ended-clause-stops g c =
    let inside = c.self.inside in
    let push = c.push-told in
    let old : Progress = record { reading = reading_at inside.machine inside.buffer; start = inside.start; len = inside.len; flagged = inside.has_flag; counts = inside.counts } in
    rw (← c.self.view_is) (
    on_err c.from_residual.result _ (
    flag_stops (names_of c.args.names.now) old (g.O.Sink.written c.args.output.now) (g.O.Sink.written c.print_ended.new.output) (found_in_got c.lent_segment-got.result)
    (flag_finds old push.result.taken push.result.segment push.new.buffer (found_in_got c.lent_segment-got.result) push.ensures.taken push.ensures.progress push.ensures.gives c.lent_segment-got.ensures)
    c.in_err-print_ended.ensures.begun
    )
    )
