use Rattle.std.proofs.Common.{sym, ◌∙◌}
use Rattle.rpc_ids.specs.declared.method.Role.TheVariants.{Server as server_role}
use Rattle.rpc_journal.specs.Choice.{SomeReady}
use Rattle.rpc_schedule.specs.Serving.{deeds}
use Rattle.rpc_schedule.proofs.LoopLemmas.{round_full, round_more, settles_all}
use Rattle.link_world.proofs.server.OutLemmas.{goes_out_then}
use Rattle.link_world.proofs.server.serving.settle.Goals as goal

pub rounds-preserved : goal.rounds-preserved
rounds-preserved g c =
    let rule = g.T.Serves.rule in
    let seen = g.T.Serves.seen in
    let some : SomeReady (deeds (seen c.rounds.server)) = c.idle.ensures.ready c.rounds-test.true c.rounds.invariant.on.orderly.unkept c.rounds.invariant.on.none_waits in
    record {
      on = round_more rule (seen c.args.server.now) (seen c.rounds.server) (seen c.run_and_flush-in-rounds.new.server) c.rounds.invariant.on some c.in-Ok-run_and_flush.ensures.ok;
      items = c.in-Ok-run_and_flush.ensures.items;
      out = goes_out_then server_role c.args.items.now.items c.rounds.items.items c.run_and_flush-in-rounds.new.items.items c.args.wires.now c.rounds.wires c.run_and_flush-in-rounds.new.wires
          c.rounds.invariant.out c.in-Ok-run_and_flush.ensures.out;
      holds = λ st before. c.in-Ok-run_and_flush.ensures.holds st (c.rounds.invariant.holds st before);
      fed = λ s stands. c.in-Ok-run_and_flush.ensures.fed s (c.rounds.invariant.fed s stands);
    }

pub returns-clause-ok : goal.returns-clause-ok
returns-clause-ok g c =
    settles_all g.T.Serves.rule (g.T.Serves.seen c.args.server.now) (g.T.Serves.seen c.rounds.server) c.rounds.invariant.on (sym c.idle.ensures.is ∙ c.rounds-test.false)

pub returns-in-Err-run_and_flush-clause-full : goal.returns-in-Err-run_and_flush-clause-full
returns-in-Err-run_and_flush-clause-full g c = λ is.
    let rule = g.T.Serves.rule in
    let seen = g.T.Serves.seen in
    let some : SomeReady (deeds (seen c.rounds.server)) = c.idle.ensures.ready c.rounds-test.true c.rounds.invariant.on.orderly.unkept c.rounds.invariant.on.none_waits in
    round_full rule (seen c.args.server.now) (seen c.rounds.server) (seen c.run_and_flush-in-rounds.new.server) c.rounds.invariant.on some (c.in-Err-run_and_flush.ensures.full is)
