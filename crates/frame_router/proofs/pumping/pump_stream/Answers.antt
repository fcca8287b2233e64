use Rattle.std.proofs.Common.{◌≡◌, ◌<◌, ◌≤◌, [], ◌++◌, ◌∙◌, ap, sym, subst, length, take, drop, arith, length-take}
use Rattle.std.proofs.lemmas.List.{take-append-le, length-take-le}
use Rattle.frame_router.specs.Pumped.{Pumps}
use Rattle.frame_router.specs.Steps.{PumpsOn, StopsIn}
use Rattle.frame_router.specs.Steps.{tally_in}
use Rattle.frame_router.proofs.PumpEnds.{pumps_to_end, pumps_to_stop, take_none, taken_more}
use Rattle.frame_router.proofs.pumping.pump_stream.Goals as goal

pub pieces-preserved : goal.pieces-preserved
pieces-preserved g c =
    let left = g.I.Source.left in
    let written = g.O.Sink.written in
    let count = c.in-Ok.count in
    let room : length c.read.new.buf ≡ length (take c.min-room.result c.pieces.buffer) = c.read.auto.buf in
    let bound : count ≤ length c.read.new.buf = c.in-Ok.ensures.bound.0 in
    let rest = drop c.min-room.result c.pieces.buffer in
    let piece : take count (c.read.new.buf ++ rest) ≡ take count c.read.new.buf = take-append-le count c.read.new.buf rest bound in
    record {
      empty = c.in-Ok-pump_piece.ensures.empty;
      within = omega (arith, room, length-take c.min-room.result c.pieces.buffer);
      open_still = c.in-Ok-pump_piece.ensures.open;
      later_in = omega arith;
      later_out = omega arith;
      read =
          taken_more c.args.routes.now c.args.from c.pieces.intake c.pump_piece.new.intake (left c.args.link_in.now) (left c.pieces.link_in) (left c.read.new.self)
          (written c.args.link_out.now) (written c.pieces.link_out) (written c.pump_piece.new.link_out) c.pieces.total count (take count c.read.new.buf)
          c.pieces.invariant.read c.in-Ok.ensures.bytes.0 (length-take-le count c.read.new.buf bound)
          (subst (PumpsOn c.args.routes.now c.args.from (record { intake = c.pieces.intake; written = written c.pieces.link_out }) (record { intake = c.pump_piece.new.intake; written = written c.pump_piece.new.link_out })) piece c.in-Ok-pump_piece.ensures.on);
    }

pub returns-in-Ok-eq0-clause-pumps : goal.returns-in-Ok-eq0-clause-pumps
returns-in-Ok-eq0-clause-pumps g c =
    let left = g.I.Source.left in
    let written = g.O.Sink.written in
    let room : length c.read.new.buf ≡ length (take c.min-room.result c.pieces.buffer) = c.read.auto.buf in
    let some : 0 < length c.read.new.buf = omega (arith, room, length-take c.min-room.result c.pieces.buffer) in
    let none : take c.in-Ok-eq0.field-0 c.read.new.buf ≡ [] = ap (λ n. take n c.read.new.buf) c.in-Ok-eq0.field-0-test ∙ take_none c.read.new.buf in
    subst (Pumps c.args.routes.now c.args.from (left c.args.link_in.now) (left c.read.new.self) (written c.args.link_out.now) (written c.finish.new.link_out))
    (sym (c.finish.ensures.pumped ∙ ap (λ t. record { why = c.finish.result.why; tally = t; read = c.pieces.total }) c.tally.ensures))
    (pumps_to_end c.args.routes.now c.args.from c.pieces.intake (left c.args.link_in.now) (left c.pieces.link_in) (left c.read.new.self)
    (written c.args.link_out.now) (written c.pieces.link_out) (written c.finish.new.link_out) c.pieces.total c.finish.result.why (take c.in-Ok-eq0.field-0 c.read.new.buf)
    c.pieces.invariant.read c.in-Ok-eq0.ensures.bytes.0 none (c.in-Ok-eq0.ensures.bytes.1 c.in-Ok-eq0.field-0-test some) c.finish.ensures.kept
    c.finish.ensures.why c.pieces-test.true)

pub returns-in-Err-pump_piece-clause-pumps : goal.returns-in-Err-pump_piece-clause-pumps
returns-in-Err-pump_piece-clause-pumps g c =
    let left = g.I.Source.left in
    let written = g.O.Sink.written in
    let count = c.in-Ok.count in
    let room : length c.read.new.buf ≡ length (take c.min-room.result c.pieces.buffer) = c.read.auto.buf in
    let bound : count ≤ length c.read.new.buf = c.in-Ok.ensures.bound.0 in
    let rest = drop c.min-room.result c.pieces.buffer in
    let piece : take count (c.read.new.buf ++ rest) ≡ take count c.read.new.buf = take-append-le count c.read.new.buf rest bound in
    subst (Pumps c.args.routes.now c.args.from (left c.args.link_in.now) (left c.read.new.self) (written c.args.link_out.now) (written c.pump_piece.new.link_out))
    (sym c.pumped.ensures)
    (pumps_to_stop c.args.routes.now c.args.from c.pieces.intake (left c.args.link_in.now) (left c.pieces.link_in) (left c.read.new.self)
    (written c.args.link_out.now) (written c.pieces.link_out) (written c.pump_piece.new.link_out) c.pieces.total count (take count c.read.new.buf) c.in-Err-pump_piece.stopped
    c.pieces.invariant.read c.in-Ok.ensures.bytes.0 (length-take-le count c.read.new.buf bound)
    (omega (arith, room, length-take c.min-room.result c.pieces.buffer)) (omega (arith, room, length-take c.min-room.result c.pieces.buffer))
    (subst (λ xs. StopsIn c.args.routes.now c.args.from (record { intake = c.pieces.intake; written = written c.pieces.link_out }) (written c.pump_piece.new.link_out) xs (tally_in c.in-Err-pump_piece.stopped)) piece c.in-Err-pump_piece.ensures.stops))
