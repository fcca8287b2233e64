use Rattle.std.proofs.Common.{◌≡◌, ◌≤◌, List, ◌++◌}
use Rattle.link_io.specs.declared.store.StoreKey.{StoreKey}
use Rattle.rpc_schedule.specs.Kept.{Holds}
use Rattle.pw_run.specs.UnderWay.{leaves}
use Rattle.pw_run.proofs.under_way.leave_each.Given as goal

abbrev pub invariant-uploads : goal.invariant-uploads
invariant-uploads g l = record {
  left : (front : List StoreKey) × (front ++ l.key-iterator ≡ l.uploads.keys) × Holds (leaves front) (g.S.Store.holds l.fn.store) (g.S.Store.holds l.store);
  later : g.S.Store.faults l.fn.store ≤ g.S.Store.faults l.store;
}
