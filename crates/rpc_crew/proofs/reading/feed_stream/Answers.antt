use Rattle.std.proofs.Common.{◌≡◌, ◌<◌, ◌++◌, length, take, drop, sym, ◌∙◌, subst, arith, le_refl, length-take}
use Rattle.std.proofs.lemmas.List.{take-append-le}
use Rattle.std.specs.Io.KnownBytes.{Consumes}
use Rattle.turn_cell.proofs.Calls.{same_self, same_trans}
use Rattle.rpc_shared.specs.session.Crew.{Cut, Fed}
use Rattle.rpc_shared.proofs.session.ReaderLemmas.{has_fed_more, has_fed_none, has_read_cut, of_err, of_ok, read_ended, read_failed, read_limit}
use Rattle.rpc_crew.proofs.reading.feed_stream.Goals as goal

pub pieces-init : goal.pieces-init
pieces-init g c = record {
  reader = c.requires.reader;
  same = same_self c.args.pass.now;
  fed = has_fed_none (g.I.Source.left c.args.input.now) c.args.listener.now c.args.pass.now c.requires.fed;
  later = le_refl (g.I.Source.faults c.args.input.now);
}

pub feed_all-fed-requires-clause-role : goal.feed_all-fed-requires-clause-role
feed_all-fed-requires-clause-role g c = c.pieces.invariant.fed.fed.role

pub pieces-preserved : goal.pieces-preserved
pieces-preserved g c =
    let left = g.I.Source.left in
    let count = c.in-Ok.count in
    let room : length c.read.new.buf ≡ length (take c.min-room.result c.pieces.buffer) = c.read.auto.buf in
    let bound = c.in-Ok.ensures.bound.0 in
    let rest = drop c.min-room.result c.pieces.buffer in
    let piece : take count (c.read.new.buf ++ rest) ≡ take count c.read.new.buf = take-append-le count c.read.new.buf rest bound in
    let feeds = of_ok c.feed_all-fed.result (sym c.is_err.ensures.value ∙ c.if-is_err.false) c.feed_all-fed.ensures.fed in
    record {
      reader = c.feed_all-fed.ensures.reader;
      same = same_trans c.args.pass.now c.pieces.pass c.feed_all-fed.new.pass c.pieces.invariant.same c.feed_all-fed.ensures.same;
      fed =
          has_fed_more (left c.args.input.now) (left c.pieces.input) (left c.read.new.self) c.pieces.total c.min-room.result count c.read.new.buf
          c.pieces.listener c.feed_all-fed.new.listener c.pieces.pass c.feed_all-fed.new.pass c.pieces.invariant.fed c.in-Ok.ensures.bytes.0 bound
          (omega (arith, room, length-take c.min-room.result c.pieces.buffer)) (omega arith)
          (λ bytes fed. subst (λ part. Fed c.feed_all-fed.new.listener c.feed_all-fed.new.pass (bytes ++ part)) piece (feeds bytes fed));
      later = omega arith;
    }

pub returns-then-is_err-clause-read : goal.returns-then-is_err-clause-read
returns-then-is_err-clause-read g c =
    let left = g.I.Source.left in
    let count = c.in-Ok.count in
    let room : length c.read.new.buf ≡ length (take c.min-room.result c.pieces.buffer) = c.read.auto.buf in
    let bound = c.in-Ok.ensures.bound.0 in
    let rest = drop c.min-room.result c.pieces.buffer in
    let piece : take count (c.read.new.buf ++ rest) ≡ take count c.read.new.buf = take-append-le count c.read.new.buf rest bound in
    let failed = sym c.is_err.ensures.value ∙ c.if-is_err.true in
    let cuts = of_err c.feed_all-fed.result failed c.feed_all-fed.ensures.cut in
    has_read_cut (left c.args.input.now) (left c.pieces.input) (left c.read.new.self) c.pieces.total c.min-room.result count c.read.new.buf
    c.pieces.listener c.feed_all-fed.new.listener c.pieces.pass c.feed_all-fed.new.pass c.args.shared.now.base c.pieces.invariant.fed c.in-Ok.ensures.bytes.0 bound
    (omega (arith, room, length-take c.min-room.result c.pieces.buffer)) (omega arith)
    (λ bytes fed. subst (λ part. Cut c.feed_all-fed.new.listener c.feed_all-fed.new.pass (bytes ++ part)) piece (cuts bytes fed))
    (of_err c.feed_all-fed.result failed c.feed_all-fed.ensures.halted)

pub returns-then-is_err-clause-same : goal.returns-then-is_err-clause-same
returns-then-is_err-clause-same g c = same_trans c.args.pass.now c.pieces.pass c.feed_all-fed.new.pass c.pieces.invariant.same c.feed_all-fed.ensures.same

pub returns-in-Err-clause-read : goal.returns-in-Err-clause-read
returns-in-Err-clause-read g c =
    read_failed c.args.shared.now.base (g.I.Source.left c.args.input.now) (g.I.Source.left c.pieces.input) (g.I.Source.left c.read.new.self) c.pieces.total
    c.pieces.listener c.pieces.pass c.pieces.invariant.fed (omega (arith, c.pieces-test.true)) c.in-Err.ensures.bytes

pub returns-in-Ok-eq0-clause-read : goal.returns-in-Ok-eq0-clause-read
returns-in-Ok-eq0-clause-read g c =
    let left = g.I.Source.left in
    let room : length c.read.new.buf ≡ length (take c.min-room.result c.pieces.buffer) = c.read.auto.buf in
    let filled : 0 < length c.read.new.buf = omega (arith, room, length-take c.min-room.result c.pieces.buffer, c.min-room.ensures, c.pieces-test.true) in
    read_ended c.args.shared.now.base (left c.args.input.now) (left c.pieces.input) (left c.read.new.self) c.pieces.total c.pieces.listener c.pieces.pass c.pieces.invariant.fed
    (omega (arith, c.pieces-test.true))
    (subst (λ n. Consumes (left c.pieces.input) (left c.read.new.self) (take n c.read.new.buf)) c.in-Ok-eq0.field-0-test c.in-Ok-eq0.ensures.bytes.0)
    (c.in-Ok-eq0.ensures.bytes.1 c.in-Ok-eq0.field-0-test filled)

pub returns-clause-read : goal.returns-clause-read
returns-clause-read g c =
    read_limit c.args.shared.now.base (g.I.Source.left c.args.input.now) (g.I.Source.left c.pieces.input) c.pieces.total c.pieces.listener c.pieces.pass c.pieces.invariant.fed
    (omega arith)
