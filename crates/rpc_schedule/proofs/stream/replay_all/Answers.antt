use Rattle.std.proofs.Common.{◌≡◌, Err}
use Rattle.rpc_schedule.specs.declared.stop.Stop.TheVariants as stop
use Rattle.rpc_schedule.proofs.BreakLemmas.{breaks_at_end}
use Rattle.rpc_schedule.proofs.StreamLemmas.{full_there, handed_on, stops_behind_all, store_there}
use Rattle.rpc_schedule.proofs.ends.FedLemmas.{on_err}
use Rattle.rpc_schedule.proofs.stream.replay_all.Goals as goal

pub returns-in_err-ending-clause-full : goal.returns-in_err-ending-clause-full
returns-in_err-ending-clause-full g c = λ stopped.
    c.feed_stream.ensures.full
    (handed_on c.from_residual.result c.feed_stream.result c.in_err-ending.field-0.0 stop.Journal c.in_err-ending.was c.from_residual.ensures stopped)

pub returns-in_err-close-clause-full : goal.returns-in_err-close-clause-full
returns-in_err-close-clause-full g c = λ stopped.
    let left = g.I.Source.left in
    let heard = g.T.Serves.heard in
    let stands = g.T.Serves.stands in
    let seen = g.T.Serves.seen in
    let there : c.close.result ≡ Err stop.Journal =
    handed_on c.from_residual-in_err-close.result c.close.result c.in_err-close.field-0.0 stop.Journal c.in_err-close.was c.from_residual-in_err-close.ensures stopped in
    let found = stops_behind_all heard (stands c.feed_stream.new.server) (stands c.close.new.server) (left c.args.input.now) (left c.feed_stream.new.input)
    c.in_ok-ending.ending (seen c.close.new.server) _ c.in_ok-ending.ensures.reads c.close.ensures.fed (c.close.ensures.full_ended there)
    (full_there g.T.Serves.rule heard (stands c.close.new.server) (seen c.close.new.server) (g.met.T.Serves.arrived c.close.new.server) (c.close.ensures.full there)) in
    record { read = found.0; beginning = found.1; items_are = c.close.ensures.full_items there }

pub returns-in_err-ending-clause-fails : goal.returns-in_err-ending-clause-fails
returns-in_err-ending-clause-fails g c = λ stopped.
    c.feed_stream.ensures.fails
    (handed_on c.from_residual.result c.feed_stream.result c.in_err-ending.field-0.0 stop.Store c.in_err-ending.was c.from_residual.ensures stopped)

pub returns-in_err-close-clause-fails : goal.returns-in_err-close-clause-fails
returns-in_err-close-clause-fails g c = λ stopped.
    let left = g.I.Source.left in
    let heard = g.T.Serves.heard in
    let stands = g.T.Serves.stands in
    let seen = g.T.Serves.seen in
    let there : c.close.result ≡ Err stop.Store =
    handed_on c.from_residual-in_err-close.result c.close.result c.in_err-close.field-0.0 stop.Store c.in_err-close.was c.from_residual-in_err-close.ensures stopped in
    let found = stops_behind_all heard (stands c.feed_stream.new.server) (stands c.close.new.server) (left c.args.input.now) (left c.feed_stream.new.input)
    c.in_ok-ending.ending (seen c.close.new.server) _ c.in_ok-ending.ensures.reads c.close.ensures.fed (c.close.ensures.fails_ended there)
    (store_there g.T.Serves.rule heard (stands c.close.new.server) (seen c.close.new.server) c.close.new.items.items (g.met.T.Serves.arrived c.close.new.server) (c.close.ensures.fails there)) in
    record { read = found.0; stop = found.1 }

pub returns-in_err-close-clause-broken : goal.returns-in_err-close-clause-broken
returns-in_err-close-clause-broken g c =
    let left = g.I.Source.left in
    let stands = g.T.Serves.stands in
    let seen = g.T.Serves.seen in
    on_err _ c.from_residual-in_err-close.result
    (breaks_at_end g.T.Serves.heard (stands c.feed_stream.new.server) (stands c.close.new.server) (left c.args.input.now) (left c.feed_stream.new.input)
    c.in_ok-ending.ending (seen c.close.new.server) c.close.new.items.items c.in_ok-ending.ensures.reads c.close.ensures.fed c.in_err-close.ensures.sent
    (g.met.T.Serves.arrived c.close.new.server))
