use Rattle.std.proofs.Common.{sym, ◌∙◌}
use Rattle.rpc_frames.proofs.Listens.{on_err}
use Rattle.rpc_frames.proofs.Pieces.{hears_on, heard_none_on, loses_first, none_heard, stops_at_packet}
use Rattle.rpc_frames.proofs.listener.Listener.listen_for_packet.Goals as goal

pub returns-in_err-listened-clause-lost : goal.returns-in_err-listened-clause-lost
returns-in_err-listened-clause-lost c =
    on_err c.from_residual.result
    (loses_first c.args.self.now c.segments.self c.listen.new.self c.args.piece.now c.segments.taken c.segments.invariant c.in_err-listened.ensures.lost)

pub returns-then-is_some-clause-hears : goal.returns-then-is_some-clause-hears
returns-then-is_some-clause-hears c =
    let its = c.in_ok-listened.ensures in
    let listened = c.in_ok-listened.listened in
    hears_on c.args.self.now c.segments.self c.listen.new.self c.args.piece.now c.segments.taken listened.taken c.segments.invariant its.taken.1 listened.packet its.hears

pub returns-then-is_some-clause-stops : goal.returns-then-is_some-clause-stops
returns-then-is_some-clause-stops c =
    let its = c.in_ok-listened.ensures in
    let listened = c.in_ok-listened.listened in
    stops_at_packet c.args.self.now c.segments.self c.listen.new.self c.args.piece.now c.segments.taken listened.taken c.segments.invariant its.taken.1 its.stops
    listened.packet (λ part. sym c.is_some.ensures ∙ c.if-is_some.true)

pub segments-preserved : goal.segments-preserved
segments-preserved c =
    let its = c.in_ok-listened.ensures in
    let listened = c.in_ok-listened.listened in
    heard_none_on c.args.self.now c.segments.self c.listen.new.self c.args.piece.now c.segments.taken listened.taken c.segments.invariant its.taken.1 its.stops
    (none_heard c.segments.self c.listen.new.self _ listened.packet (sym c.is_some.ensures ∙ c.if-is_some.false) its.hears)
