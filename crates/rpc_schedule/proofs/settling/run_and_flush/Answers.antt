use Rattle.std.proofs.Common.{◌≡◌, Err, ◌∙◌, ap}
use Rattle.link_io.specs.declared.store.StoreRefused.TheVariants.{Failed}
use Rattle.rpc_schedule.proofs.LoopLemmas.{run_stops, run_then_flush}
use Rattle.rpc_schedule.proofs.SentLemmas.{sent_since}
use Rattle.rpc_schedule.proofs.StreamLemmas.{store_failed}
use Rattle.rpc_schedule.proofs.ends.FedLemmas.{on_err}
use Rattle.rpc_schedule.proofs.settling.run_and_flush.Goals as goal

pub returns-clause-ok : goal.returns-clause-ok
returns-clause-ok g c =
    let seen = g.T.Serves.seen in
    run_then_flush g.T.Serves.rule (seen c.args.server.now) (seen c.run_all.new.server) (seen c.flush_all.new.server) c.in_ok-run_all.ensures.ok c.in_ok-flush_all.ensures.ok

pub returns-in_err-flush_all-clause-fails : goal.returns-in_err-flush_all-clause-fails
returns-in_err-flush_all-clause-fails g c = λ failed.
    let seen = g.T.Serves.seen in
    let stopped : c.flush_all.result ≡ Err Failed =
    c.in_err-flush_all.was ∙ ap Err (store_failed c.from_residual-in_err-flush_all.result c.in_err-flush_all.field-0.0 c.from_residual-in_err-flush_all.ensures failed) in
    run_stops g.T.Serves.rule (seen c.args.server.now) (seen c.run_all.new.server) (seen c.flush_all.new.server) c.flush_all.new.items.items
    c.in_ok-run_all.ensures.ok (c.flush_all.ensures.fails stopped)

pub returns-in_err-run_all-clause-sent : goal.returns-in_err-run_all-clause-sent
returns-in_err-run_all-clause-sent g c =
    let seen = g.T.Serves.seen in
    on_err _ c.from_residual.result
    (sent_since (seen c.args.server.now) (seen c.run_all.new.server) c.args.items.now.items c.requires.items c.in_err-run_all.ensures.sent)
