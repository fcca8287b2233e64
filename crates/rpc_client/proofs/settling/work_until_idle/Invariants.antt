use Rattle.std.proofs.Common.{◌≡◌, ℕ, List}
use Rattle.rpc_ids.specs.declared.method.Role.TheVariants.{Client}
use Rattle.rpc_schedule.specs.ends.EndState.{WasFed}
use Rattle.rpc_client.proofs.SettlingLemmas.{HandedSo, runs_left}
use Rattle.rpc_client.proofs.settling.work_until_idle.Given as goal

abbrev pub invariant-runs : goal.invariant-runs
invariant-runs g l = record {
  so : HandedSo g.H.Handler.rule l.fn.client.serving l.fn.handed.items l.client.serving l.handed.items;
  listener : l.client.listener ≡ l.fn.client.listener;
  fed : (bytes : List ℕ) → WasFed Client l.fn.client bytes → WasFed Client l.client bytes;
}

abbrev pub decreases-runs : goal.decreases-runs
decreases-runs g l = runs_left l.client.serving
