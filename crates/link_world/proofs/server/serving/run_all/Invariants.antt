use Rattle.std.proofs.Common.{ℕ, ◌-◌, List, length}
use Rattle.rpc_journal.specs.declared.entry.TheConstants.{MAX_ENTRIES}
use Rattle.rpc_schedule.proofs.LoopLemmas.{RunsOn}
use Rattle.link_world.proofs.server.serving.run_all.Given as goal

abbrev pub invariant-runs : goal.invariant-runs
invariant-runs g l = record {
  on : RunsOn g.T.Serves.rule (g.T.Serves.seen l.fn.server) (g.T.Serves.seen l.server);
  fed : (s : List ℕ) → g.T.Serves.stands l.fn.server s → g.T.Serves.stands l.server s;
}

abbrev pub decreases-runs : goal.decreases-runs
decreases-runs g l = MAX_ENTRIES - length (g.T.Serves.seen l.server).table.entries
