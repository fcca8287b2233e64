use Rattle.std.proofs.Common.{◌≡◌, ◌<◌, ◌≤◌, [], ◌++◌, ◌∙◌, ap, subst, length, take, drop, inr, refl, arith, length-take}
use Rattle.std.proofs.lemmas.List.{take-append-le, length-take-le}
use Rattle.link_io.specs.declared.why.Why.TheVariants as why
use Rattle.stream_dump.specs.Names.{names_of}
use Rattle.stream_dump.specs.Progress.{DumpsOn, StopsIn}
use Rattle.stream_dump.proofs.Ends.{dumps_to_end, dumps_to_stop, kept_taken, none_taken, not_whole, take_none, taken_more}
use Rattle.stream_dump.proofs.dumping.dump_stream.Goals as goal

pub pieces-preserved : goal.pieces-preserved
pieces-preserved g c =
    let left = g.I.Source.left in
    let written = g.O.Sink.written in
    let count = c.in-Ok.count in
    let room : length c.read.new.buf ≡ length (take c.min-room.result c.pieces.buffer) = c.read.auto.buf in
    let bound : count ≤ length c.read.new.buf = c.in-Ok.ensures.bound.0 in
    let rest = drop c.min-room.result c.pieces.buffer in
    let piece : take count (c.read.new.buf ++ rest) ≡ take count c.read.new.buf = take-append-le count c.read.new.buf rest bound in
    let size : length (take count c.read.new.buf) ≡ count = length-take-le count c.read.new.buf bound in
    let names = names_of c.args.names.now in
    record {
      within = omega (arith, room, length-take c.min-room.result c.pieces.buffer);
      open_still = c.in-Ok-dump_piece.ensures.open;
      later_in = omega arith;
      later_out = omega (arith, c.in-Ok-dump_piece.ensures.cause.later);
      place = omega (arith, c.pieces.invariant.place, c.in-Ok-dump_piece.ensures.place, ap length piece, size);
      read =
          taken_more names c.pieces.dumper c.dump_piece.new.dumper (left c.args.input.now) (left c.pieces.input) (left c.read.new.self)
          (written c.args.output.now) (written c.pieces.output) (written c.dump_piece.new.output) c.pieces.total count (take count c.read.new.buf)
          c.pieces.invariant.read c.in-Ok.ensures.bytes.0 size
          (subst (DumpsOn names (record { dumper = c.pieces.dumper; written = written c.pieces.output }) (record { dumper = c.dump_piece.new.dumper; written = written c.dump_piece.new.output })) piece c.in-Ok-dump_piece.ensures.on);
    }

pub returns-in-Ok-eq0-clause-dumps : goal.returns-in-Ok-eq0-clause-dumps
returns-in-Ok-eq0-clause-dumps g c =
    let left = g.I.Source.left in
    let written = g.O.Sink.written in
    let room : length c.read.new.buf ≡ length (take c.min-room.result c.pieces.buffer) = c.read.auto.buf in
    let some : 0 < length c.read.new.buf = omega (arith, room, length-take c.min-room.result c.pieces.buffer) in
    let none : take c.in-Ok-eq0.field-0 c.read.new.buf ≡ [] = ap (λ n. take n c.read.new.buf) c.in-Ok-eq0.field-0-test ∙ take_none c.read.new.buf in
    let below : c.pieces.total < 67108864 = c.pieces-test.true in
    dumps_to_end (names_of c.args.names.now) c.pieces.dumper (left c.args.input.now) (left c.read.new.self) (written c.args.output.now) (written c.pieces.output) (written c.finish.new.output)
    c.pieces.total why.Settled c.finish.result
    (none_taken (names_of c.args.names.now) c.pieces.dumper (left c.args.input.now) (left c.pieces.input) (left c.read.new.self) (written c.args.output.now) (written c.pieces.output) c.pieces.total
    (take c.in-Ok-eq0.field-0 c.read.new.buf) c.pieces.invariant.read c.in-Ok-eq0.ensures.bytes.0 none)
    (omega arith) (λ e. absurd (cc)) (λ e. below) (λ e. c.in-Ok-eq0.ensures.bytes.1 c.in-Ok-eq0.field-0-test some)
    (λ e. absurd (cc)) (λ e. absurd (cc)) (λ e. absurd (cc)) (λ e. absurd (cc))
    c.finish.ensures.why c.finish.ensures.whole c.finish.ensures.begun

pub returns-in-Err-clause-dumps : goal.returns-in-Err-clause-dumps
returns-in-Err-clause-dumps g c =
    let left = g.I.Source.left in
    let written = g.O.Sink.written in
    let below : c.pieces.total < 67108864 = c.pieces-test.true in
    dumps_to_end (names_of c.args.names.now) c.pieces.dumper (left c.args.input.now) (left c.read.new.self) (written c.args.output.now) (written c.pieces.output) (written c.finish-in-Err.new.output)
    c.pieces.total why.Source c.finish-in-Err.result
    (kept_taken (names_of c.args.names.now) c.pieces.dumper (left c.args.input.now) (left c.pieces.input) (left c.read.new.self) (written c.args.output.now) (written c.pieces.output) c.pieces.total
    c.pieces.invariant.read c.in-Err.ensures.bytes)
    (omega arith) (λ e. absurd (cc)) (λ e. below) (λ e. absurd (cc))
    (λ e. absurd (cc)) (λ e. absurd (cc)) (λ e. absurd (cc)) (λ e. absurd (cc))
    c.finish-in-Err.ensures.why c.finish-in-Err.ensures.whole c.finish-in-Err.ensures.begun

pub returns-clause-dumps : goal.returns-clause-dumps
returns-clause-dumps g c =
    let left = g.I.Source.left in
    let written = g.O.Sink.written in
    let most : 67108864 ≤ c.pieces.total = c.pieces-test.false in
    let within = c.pieces.invariant.within in
    dumps_to_end (names_of c.args.names.now) c.pieces.dumper (left c.args.input.now) (left c.pieces.input) (written c.args.output.now) (written c.pieces.output) (written c.finish-2.new.output)
    c.pieces.total why.InputLimit c.finish-2.result c.pieces.invariant.read
    (omega arith) (λ e. most) (λ e. absurd (not_whole why.InputLimit (inr refl) e)) (λ e. absurd (cc))
    (λ e. absurd (cc)) (λ e. absurd (cc)) (λ e. absurd (cc)) (λ e. absurd (cc))
    c.finish-2.ensures.why c.finish-2.ensures.whole c.finish-2.ensures.begun

pub returns-in-Err-dump_piece-clause-dumps : goal.returns-in-Err-dump_piece-clause-dumps
returns-in-Err-dump_piece-clause-dumps g c =
    let left = g.I.Source.left in
    let written = g.O.Sink.written in
    let count = c.in-Ok.count in
    let room : length c.read.new.buf ≡ length (take c.min-room.result c.pieces.buffer) = c.read.auto.buf in
    let bound : count ≤ length c.read.new.buf = c.in-Ok.ensures.bound.0 in
    let rest = drop c.min-room.result c.pieces.buffer in
    let piece : take count (c.read.new.buf ++ rest) ≡ take count c.read.new.buf = take-append-le count c.read.new.buf rest bound in
    let names = names_of c.args.names.now in
    dumps_to_stop names c.pieces.dumper (left c.args.input.now) (left c.pieces.input) (left c.read.new.self)
    (written c.args.output.now) (written c.pieces.output) (written c.dump_piece.new.output) c.pieces.total count (take count c.read.new.buf)
    c.pieces.invariant.read c.in-Ok.ensures.bytes.0 (length-take-le count c.read.new.buf bound) (omega (arith, room, length-take c.min-room.result c.pieces.buffer))
    (subst (StopsIn names (record { dumper = c.pieces.dumper; written = written c.pieces.output }) (written c.dump_piece.new.output)) piece c.in-Err-dump_piece.ensures.stops)
