use Rattle.std.proofs.Common.{◌≡◌, ◌≤◌, ◌++◌, Err, ◌∙◌, subst, length, take, drop, arith, length-append, length-take}
use Rattle.std.proofs.lemmas.List.{take-append-le, length-take-le}
use Rattle.std.proofs.KnownBytes.{Consumes-trans}
use Rattle.rpc_schedule.specs.declared.stop.Stop.TheVariants as stop
use Rattle.rpc_schedule.specs.declared.stream.TheConstants.{INPUT_LIMIT}
use Rattle.rpc_schedule.proofs.BreakLemmas.{breaks_behind}
use Rattle.rpc_schedule.proofs.StreamLemmas.{full_there, handed_on, reads_more, stops_behind_piece, store_there}
use Rattle.rpc_schedule.proofs.ends.FedLemmas.{on_err}
use Rattle.rpc_schedule.proofs.stream.feed_stream.Goals as goal

pub returns-in_err-feed_all-in-Ok-clause-read : goal.returns-in_err-feed_all-in-Ok-clause-read
returns-in_err-feed_all-in-Ok-clause-read g c =
    let left = g.I.Source.left in
    let room : length c.read.new.buf ≡ length (take c.min-room.result c.pieces.buffer) = c.read.auto.buf in
    let before = c.pieces.invariant.read in
    reads_more INPUT_LIMIT (left c.args.input.now) (left c.pieces.input) (left c.read.new.self) before.0 c.read.new.buf
    c.pieces.total c.min-room.result c.in-Ok.count before.1 before.2 c.in-Ok.ensures.bytes.0
    (omega (arith, room, length-take c.min-room.result c.pieces.buffer)) (omega arith)

pub returns-in_err-feed_all-in-Ok-clause-full : goal.returns-in_err-feed_all-in-Ok-clause-full
returns-in_err-feed_all-in-Ok-clause-full g c = λ stopped.
    let left = g.I.Source.left in
    let seen = g.T.Serves.seen in
    let count = c.in-Ok.count in
    let room : length c.read.new.buf ≡ length (take c.min-room.result c.pieces.buffer) = c.read.auto.buf in
    let bound : count ≤ length c.read.new.buf = c.in-Ok.ensures.bound.0 in
    let rest = drop c.min-room.result c.pieces.buffer in
    let before = c.pieces.invariant.read in
    let there : c.feed_all.result ≡ Err stop.Journal =
    handed_on c.from_residual.result c.feed_all.result c.in_err-feed_all-in-Ok.field-0.0 stop.Journal c.in_err-feed_all-in-Ok.was c.from_residual.ensures stopped in
    let within = c.feed_all.ensures.full there in
    let arrived = g.met.T.Serves.arrived c.feed_all.new.server in
    let found = stops_behind_piece g.T.Serves.heard (g.T.Serves.stands c.pieces.server) (g.T.Serves.stands c.feed_all.new.server)
    (left c.args.input.now) (left c.pieces.input) (left c.read.new.self) before.0 c.read.new.buf (take count (c.read.new.buf ++ rest))
    c.pieces.total c.min-room.result count (seen c.feed_all.new.server) _
    before.3 before.1 before.2 (take-append-le count c.read.new.buf rest bound) c.in-Ok.ensures.bytes.0
    (omega (arith, room, length-take c.min-room.result c.pieces.buffer)) (omega arith) within.part
    (full_there g.T.Serves.rule g.T.Serves.heard (g.T.Serves.stands c.feed_all.new.server) (seen c.feed_all.new.server) arrived within.full) in
    record { read = found.0; beginning = found.1; items_are = within.items_are }

pub returns-in_err-feed_all-in-Ok-clause-fails : goal.returns-in_err-feed_all-in-Ok-clause-fails
returns-in_err-feed_all-in-Ok-clause-fails g c = λ stopped.
    let left = g.I.Source.left in
    let seen = g.T.Serves.seen in
    let count = c.in-Ok.count in
    let room : length c.read.new.buf ≡ length (take c.min-room.result c.pieces.buffer) = c.read.auto.buf in
    let bound : count ≤ length c.read.new.buf = c.in-Ok.ensures.bound.0 in
    let rest = drop c.min-room.result c.pieces.buffer in
    let before = c.pieces.invariant.read in
    let there : c.feed_all.result ≡ Err stop.Store =
    handed_on c.from_residual.result c.feed_all.result c.in_err-feed_all-in-Ok.field-0.0 stop.Store c.in_err-feed_all-in-Ok.was c.from_residual.ensures stopped in
    let within = c.feed_all.ensures.fails there in
    let arrived = g.met.T.Serves.arrived c.feed_all.new.server in
    let found = stops_behind_piece g.T.Serves.heard (g.T.Serves.stands c.pieces.server) (g.T.Serves.stands c.feed_all.new.server)
    (left c.args.input.now) (left c.pieces.input) (left c.read.new.self) before.0 c.read.new.buf (take count (c.read.new.buf ++ rest))
    c.pieces.total c.min-room.result count (seen c.feed_all.new.server) _
    before.3 before.1 before.2 (take-append-le count c.read.new.buf rest bound) c.in-Ok.ensures.bytes.0
    (omega (arith, room, length-take c.min-room.result c.pieces.buffer)) (omega arith) within.part
    (store_there g.T.Serves.rule g.T.Serves.heard (g.T.Serves.stands c.feed_all.new.server) (seen c.feed_all.new.server) c.feed_all.new.items.items arrived within.stop) in
    record { read = found.0; stop = found.1 }

pub pieces-preserved : goal.pieces-preserved
pieces-preserved g c =
    let left = g.I.Source.left in
    let count = c.in-Ok.count in
    let before = c.pieces.invariant.read in
    let fed = c.in_ok-feed_all-in-Ok.ensures in
    let room : length c.read.new.buf ≡ length (take c.min-room.result c.pieces.buffer) = c.read.auto.buf in
    let bound : count ≤ length c.read.new.buf = c.in-Ok.ensures.bound.0 in
    let rest = drop c.min-room.result c.pieces.buffer in
    let piece : take count (c.read.new.buf ++ rest) ≡ take count c.read.new.buf = take-append-le count c.read.new.buf rest bound in
    record {
      within = omega (arith, room, length-take c.min-room.result c.pieces.buffer);
      calm = fed.calm;
      items = fed.items;
      setting = fed.setting ∙ c.pieces.invariant.setting;
      later = omega arith;
      store_later = omega (arith, fed.store_later, c.pieces.invariant.store_later);
      holds = λ st stood. fed.holds st (c.pieces.invariant.holds st stood);
      read = (
        before.0 ++ take count c.read.new.buf,
        Consumes-trans (left c.args.input.now) (left c.pieces.input) (left c.read.new.self) before.0 (take count c.read.new.buf) before.1 c.in-Ok.ensures.bytes.0,
        length-append before.0 (take count c.read.new.buf) ∙ omega (arith, length-take-le count c.read.new.buf bound),
        subst (λ part. g.T.Serves.stands c.feed_all.new.server (before.0 ++ part)) piece (fed.fed before.0 before.3),
      );
    }

pub returns-in_err-feed_all-in-Ok-clause-broken : goal.returns-in_err-feed_all-in-Ok-clause-broken
returns-in_err-feed_all-in-Ok-clause-broken g c =
    let left = g.I.Source.left in
    let seen = g.T.Serves.seen in
    let count = c.in-Ok.count in
    let room : length c.read.new.buf ≡ length (take c.min-room.result c.pieces.buffer) = c.read.auto.buf in
    let bound : count ≤ length c.read.new.buf = c.in-Ok.ensures.bound.0 in
    let rest = drop c.min-room.result c.pieces.buffer in
    let before = c.pieces.invariant.read in
    on_err _ c.from_residual.result
    (breaks_behind g.T.Serves.heard (g.T.Serves.stands c.pieces.server) (g.T.Serves.stands c.feed_all.new.server)
    (left c.args.input.now) (left c.pieces.input) (left c.read.new.self) before.0 c.read.new.buf (take count (c.read.new.buf ++ rest))
    c.pieces.total c.min-room.result count (seen c.feed_all.new.server) c.feed_all.new.items.items
    before.3 before.1 before.2 (take-append-le count c.read.new.buf rest bound) c.in-Ok.ensures.bytes.0
    (omega (arith, room, length-take c.min-room.result c.pieces.buffer)) (omega arith) c.in_err-feed_all-in-Ok.ensures.broken
    (g.met.T.Serves.arrived c.feed_all.new.server))
