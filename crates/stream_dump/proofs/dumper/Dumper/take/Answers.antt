use Rattle.std.proofs.Common.{arith, length, sym, subst, take}
use Rattle.std.proofs.lemmas.List.{take_all}
use Rattle.stream_dump.specs.Names.{names_of}
use Rattle.stream_dump.specs.Progress.{DumpsOn}
use Rattle.stream_dump.proofs.DumpLemmas.{flag_on_piece, flag_stops_piece, text_on}
use Rattle.stream_dump.proofs.Flags.{no_flag, no_flag_before, with_flag}
use Rattle.stream_dump.proofs.WordLemmas.{on_err}
use Rattle.stream_dump.proofs.dumper.Dumper.take.Goals as goal

pub returns-in_err-end_text-in-Some-clause-stops : goal.returns-in_err-end_text-in-Some-clause-stops
returns-in_err-end_text-in-Some-clause-stops g c =
    let w = g.O.Sink.written c.args.output.now in
    let piece = c.args.piece.now in
    let at = c.in-Some.at in
    let names = names_of c.args.names.now in
    on_err c.from_residual.result _ (
    flag_stops_piece names (record { dumper = c.args.self.now; written = w }) (record { dumper = c.read_text-in-Some.new.self; written = w }) (g.O.Sink.written c.end_text.new.output) piece at
    (with_flag piece at c.in-Some.ensures)
    (λ first stream d. text_on names c.args.self.now c.read_text-in-Some.new.self w first stream (take at piece) (no_flag_before piece at c.in-Some.ensures) c.read_text-in-Some.ensures d)
    c.in_err-end_text-in-Some.ensures.stops
    )

pub returns-in-None-clause-on : goal.returns-in-None-clause-on
returns-in-None-clause-on g c =
    let w = g.O.Sink.written c.args.output.now in
    let piece = c.args.piece.now in
    let names = names_of c.args.names.now in
    subst (DumpsOn names (record { dumper = c.args.self.now; written = w }) (record { dumper = c.read_text.new.self; written = w })) (sym (take_all (length piece) piece (omega arith)))
    (λ first stream d. text_on names c.args.self.now c.read_text.new.self w first stream piece (no_flag piece c.in-None.ensures) c.read_text.ensures d)

pub returns-in_ok-end_text-in-Some-clause-on : goal.returns-in_ok-end_text-in-Some-clause-on
returns-in_ok-end_text-in-Some-clause-on g c =
    let w = g.O.Sink.written c.args.output.now in
    let piece = c.args.piece.now in
    let at = c.in-Some.at in
    let names = names_of c.args.names.now in
    flag_on_piece names (record { dumper = c.args.self.now; written = w }) (record { dumper = c.read_text-in-Some.new.self; written = w })
    (record { dumper = c.end_text.new.self; written = g.O.Sink.written c.end_text.new.output }) piece at (with_flag piece at c.in-Some.ensures)
    (λ first stream d. text_on names c.args.self.now c.read_text-in-Some.new.self w first stream (take at piece) (no_flag_before piece at c.in-Some.ensures) c.read_text-in-Some.ensures d)
    c.in_ok-end_text-in-Some.ensures.on
