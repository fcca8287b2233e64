use Rattle.std.proofs.Common.{◌≡◌, Err, rules, sym, ◌∙◌, arith}
use Rattle.rpc_journal.specs.Choice.{SomeReady}
use Rattle.rpc_schedule.specs.declared.stop.Stop.TheVariants as stop
use Rattle.rpc_schedule.specs.Serving.{deeds}
use Rattle.rpc_schedule.specs.Settling.{StopsFull}
use Rattle.rpc_schedule.proofs.LoopLemmas.{round_full, round_more, round_stops, settles_all}
use Rattle.rpc_schedule.proofs.StreamLemmas.{handed_on}
use Rattle.rpc_schedule.proofs.settling.settle.Goals as goal

pub rounds-preserved : goal.rounds-preserved
rounds-preserved g c =
    let rule = g.T.Serves.rule in
    let seen = g.T.Serves.seen in
    let some : SomeReady (deeds (seen c.rounds.server)) = c.idle.ensures.ready c.rounds-test.true c.rounds.invariant.on.orderly.unkept c.rounds.invariant.on.none_waits in
    record {
      on = round_more rule (seen c.args.server.now) (seen c.rounds.server) (seen c.run_and_flush-in-rounds.new.server) c.rounds.invariant.on some c.in_ok-run_and_flush-2.ensures.ok;
      items = c.in_ok-run_and_flush-2.ensures.items;
      later = omega (arith, c.in_ok-run_and_flush-2.ensures.later, c.rounds.invariant.later);
      holds = λ st before. c.in_ok-run_and_flush-2.ensures.holds st (c.rounds.invariant.holds st before);
      fed = λ s stands. c.in_ok-run_and_flush-2.ensures.fed s (c.rounds.invariant.fed s stands);
    }

pub returns-in_err-run_and_flush-2-clause-full : goal.returns-in_err-run_and_flush-2-clause-full
returns-in_err-run_and_flush-2-clause-full g c = λ journal.
    let rule = g.T.Serves.rule in
    let seen = g.T.Serves.seen in
    let some : SomeReady (deeds (seen c.rounds.server)) = c.idle.ensures.ready c.rounds-test.true c.rounds.invariant.on.orderly.unkept c.rounds.invariant.on.none_waits in
    let stops : StopsFull rule (seen c.rounds.server) (seen c.run_and_flush-in-rounds.new.server) = search rules in
    round_full rule (seen c.args.server.now) (seen c.rounds.server) (seen c.run_and_flush-in-rounds.new.server) c.rounds.invariant.on some stops

pub returns-clause-ok : goal.returns-clause-ok
returns-clause-ok g c =
    settles_all g.T.Serves.rule (g.T.Serves.seen c.args.server.now) (g.T.Serves.seen c.rounds.server) c.rounds.invariant.on (sym c.idle.ensures.is ∙ c.rounds-test.false)

pub returns-in_err-run_and_flush-2-clause-fails : goal.returns-in_err-run_and_flush-2-clause-fails
returns-in_err-run_and_flush-2-clause-fails g c = λ failed.
    let seen = g.T.Serves.seen in
    let some : SomeReady (deeds (seen c.rounds.server)) = c.idle.ensures.ready c.rounds-test.true c.rounds.invariant.on.orderly.unkept c.rounds.invariant.on.none_waits in
    let stopped : c.run_and_flush-in-rounds.result ≡ Err stop.Store =
    handed_on c.from_residual-in_err-run_and_flush-2.result c.run_and_flush-in-rounds.result c.in_err-run_and_flush-2.field-0.0 stop.Store c.in_err-run_and_flush-2.was
    c.from_residual-in_err-run_and_flush-2.ensures failed in
    round_stops g.T.Serves.rule (seen c.args.server.now) (seen c.rounds.server) (seen c.run_and_flush-in-rounds.new.server) c.run_and_flush-in-rounds.new.items.items
    c.rounds.invariant.on some (c.run_and_flush-in-rounds.ensures.fails stopped)
