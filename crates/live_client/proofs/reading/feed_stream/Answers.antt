use Rattle.std.proofs.Common.{◌≡◌, ◌<◌, ◌++◌, length, take, drop, refl, sym, ◌∙◌, subst, arith, le_refl, length-take}
use Rattle.std.proofs.lemmas.List.{take-append-le}
use Rattle.std.specs.Io.KnownBytes.{Consumes}
use Rattle.turn_cell.proofs.Calls.{same_self, same_trans}
use Rattle.live_client.specs.Feeding.{Cut, Fed}
use Rattle.live_client.proofs.FeedLemmas.{has_fed_more, has_fed_none, has_read_cut, of_err, of_ok, read_ended, read_failed, read_limit}
use Rattle.live_client.proofs.WakeLemmas.{rang_more, rang_none}
use Rattle.live_client.proofs.reading.feed_stream.Goals as goal

pub pieces-init : goal.pieces-init
pieces-init g c = record {
  reader = c.requires.reader;
  same = same_self c.args.pass.now;
  fed = has_fed_none (g.I.Source.left c.args.input.now) c.args.listener.now c.args.pass.now c.requires.fed;
  later = le_refl (g.I.Source.faults c.args.input.now);
  bell = refl;
  rung = rang_none c.args.bell.now c.args.pass.now c.args.pass.now refl;
}

pub feed_all-fed-requires-clause-role : goal.feed_all-fed-requires-clause-role
feed_all-fed-requires-clause-role g c = c.pieces.invariant.fed.fed.role

pub pieces-preserved : goal.pieces-preserved
pieces-preserved g c =
    let left = g.I.Source.left in
    let count = c.in-Ok.count in
    let room : length c.read.new.buf ≡ length (take c.min-room.result c.pieces.buffer) = c.read.auto.buf in
    let bound = c.in-Ok.ensures.bound.0 in
    let rest = drop c.min-room.result c.pieces.buffer in
    let piece : take count (c.read.new.buf ++ rest) ≡ take count c.read.new.buf = take-append-le count c.read.new.buf rest bound in
    let feeds = of_ok c.feed_all-fed.result (sym c.is_err.ensures.value ∙ c.if-is_err.false) c.feed_all-fed.ensures.fed in
    record {
      reader = c.feed_all-fed.ensures.reader;
      same = same_trans c.args.pass.now c.pieces.pass c.feed_all-fed.new.pass c.pieces.invariant.same c.feed_all-fed.ensures.same;
      fed =
          has_fed_more (left c.args.input.now) (left c.pieces.input) (left c.read.new.self) c.pieces.total c.min-room.result count c.read.new.buf
          c.pieces.listener c.feed_all-fed.new.listener c.pieces.pass c.feed_all-fed.new.pass c.pieces.invariant.fed c.in-Ok.ensures.bytes.0 bound
          (omega (arith, room, length-take c.min-room.result c.pieces.buffer)) (omega arith)
          (λ bytes fed. subst (λ part. Fed c.feed_all-fed.new.listener c.feed_all-fed.new.pass (bytes ++ part)) piece (feeds bytes fed));
      later = omega arith;
      bell = c.feed_all-fed.ensures.bell ∙ c.pieces.invariant.bell;
      rung = rang_more 0 c.args.bell.now c.pieces.bell c.feed_all-fed.new.bell c.args.pass.now c.pieces.pass c.feed_all-fed.new.pass c.pieces.invariant.rung c.feed_all-fed.ensures.rung;
    }

pub returns-then-is_err-clause-read : goal.returns-then-is_err-clause-read
returns-then-is_err-clause-read g c =
    let left = g.I.Source.left in
    let count = c.in-Ok.count in
    let room : length c.read.new.buf ≡ length (take c.min-room.result c.pieces.buffer) = c.read.auto.buf in
    let bound = c.in-Ok.ensures.bound.0 in
    let rest = drop c.min-room.result c.pieces.buffer in
    let piece : take count (c.read.new.buf ++ rest) ≡ take count c.read.new.buf = take-append-le count c.read.new.buf rest bound in
    let failed = sym c.is_err.ensures.value ∙ c.if-is_err.true in
    let cuts = of_err c.feed_all-fed.result failed c.feed_all-fed.ensures.cut in
    has_read_cut (left c.args.input.now) (left c.pieces.input) (left c.read.new.self) c.pieces.total c.min-room.result count c.read.new.buf
    c.pieces.listener c.feed_all-fed.new.listener c.pieces.pass c.feed_all-fed.new.pass c.args.table.now.base c.pieces.invariant.fed c.in-Ok.ensures.bytes.0 bound
    (omega (arith, room, length-take c.min-room.result c.pieces.buffer)) (omega arith)
    (λ bytes fed. subst (λ part. Cut c.feed_all-fed.new.listener c.feed_all-fed.new.pass (bytes ++ part)) piece (cuts bytes fed))
    (of_err c.feed_all-fed.result failed c.feed_all-fed.ensures.halted)

pub returns-then-is_err-clause-same : goal.returns-then-is_err-clause-same
returns-then-is_err-clause-same g c = same_trans c.args.pass.now c.pieces.pass c.feed_all-fed.new.pass c.pieces.invariant.same c.feed_all-fed.ensures.same

pub returns-in-Err-clause-read : goal.returns-in-Err-clause-read
returns-in-Err-clause-read g c =
    read_failed c.args.table.now.base (g.I.Source.left c.args.input.now) (g.I.Source.left c.pieces.input) (g.I.Source.left c.read.new.self) c.pieces.total
    c.pieces.listener c.pieces.pass c.pieces.invariant.fed (omega (arith, c.pieces-test.true)) c.in-Err.ensures.bytes

pub returns-in-Ok-eq0-clause-read : goal.returns-in-Ok-eq0-clause-read
returns-in-Ok-eq0-clause-read g c =
    let left = g.I.Source.left in
    let room : length c.read.new.buf ≡ length (take c.min-room.result c.pieces.buffer) = c.read.auto.buf in
    let filled : 0 < length c.read.new.buf = omega (arith, room, length-take c.min-room.result c.pieces.buffer, c.min-room.ensures, c.pieces-test.true) in
    read_ended c.args.table.now.base (left c.args.input.now) (left c.pieces.input) (left c.read.new.self) c.pieces.total c.pieces.listener c.pieces.pass c.pieces.invariant.fed
    (omega (arith, c.pieces-test.true))
    (subst (λ n. Consumes (left c.pieces.input) (left c.read.new.self) (take n c.read.new.buf)) c.in-Ok-eq0.field-0-test c.in-Ok-eq0.ensures.bytes.0)
    (c.in-Ok-eq0.ensures.bytes.1 c.in-Ok-eq0.field-0-test filled)

pub returns-clause-read : goal.returns-clause-read
returns-clause-read g c =
    read_limit c.args.table.now.base (g.I.Source.left c.args.input.now) (g.I.Source.left c.pieces.input) c.pieces.total c.pieces.listener c.pieces.pass c.pieces.invariant.fed
    (omega arith)

pub feed_all-fed-requires-clause-bell : goal.feed_all-fed-requires-clause-bell
feed_all-fed-requires-clause-bell g c = record { own = c.pieces.invariant.bell ∙ c.requires.bell.own; some = c.requires.bell.some }

pub returns-in-Ok-eq0-clause-bell : goal.returns-in-Ok-eq0-clause-bell
returns-in-Ok-eq0-clause-bell g c = c.pieces.invariant.bell

pub returns-then-is_err-clause-bell : goal.returns-then-is_err-clause-bell
returns-then-is_err-clause-bell g c = c.feed_all-fed.ensures.bell ∙ c.pieces.invariant.bell

pub returns-in-Err-clause-bell : goal.returns-in-Err-clause-bell
returns-in-Err-clause-bell g c = c.pieces.invariant.bell

pub returns-clause-bell : goal.returns-clause-bell
returns-clause-bell g c = c.pieces.invariant.bell

pub returns-then-is_err-clause-rung : goal.returns-then-is_err-clause-rung
returns-then-is_err-clause-rung g c =
    rang_more 0 c.args.bell.now c.pieces.bell c.feed_all-fed.new.bell c.args.pass.now c.pieces.pass c.feed_all-fed.new.pass c.pieces.invariant.rung c.feed_all-fed.ensures.rung

pub returns-in-Ok-eq0-clause-rung : goal.returns-in-Ok-eq0-clause-rung
returns-in-Ok-eq0-clause-rung g c = c.pieces.invariant.rung

pub returns-in-Err-clause-rung : goal.returns-in-Err-clause-rung
returns-in-Err-clause-rung g c = c.pieces.invariant.rung

pub returns-clause-rung : goal.returns-clause-rung
returns-clause-rung g c = c.pieces.invariant.rung
