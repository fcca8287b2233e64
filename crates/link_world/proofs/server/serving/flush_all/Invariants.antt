use Rattle.std.proofs.Common.{◌≡◌, ℕ, List, Option, Some}
use Rattle.link_io.specs.Stored.{Stored}
use Rattle.rpc_ids.specs.declared.method.Role.TheVariants.{Server as server_role}
use Rattle.rpc_schedule.specs.Kept.{Holds}
use Rattle.rpc_journal.specs.Items.{items_flushed, items_waiting}
use Rattle.rpc_schedule.specs.Serving.{deeds}
use Rattle.rpc_schedule.proofs.LoopLemmas.{FlushesOn}
use Rattle.link_world.specs.server.GoesOut.{GoesOut}
use Rattle.link_world.proofs.server.serving.flush_all.Given as goal

abbrev pub invariant-items : goal.invariant-items
invariant-items g l = record {
  on : FlushesOn g.T.Serves.rule (g.T.Serves.seen l.fn.server) (g.T.Serves.seen l.server);
  items : l.items.items ≡ items_flushed (deeds (g.T.Serves.seen l.server));
  out : GoesOut server_role l.fn.items.items l.fn.wires l.items.items l.wires;
  holds : (st : Option Stored) → Holds l.fn.items.items st (Some l.fn.store) → Holds l.items.items st (Some l.store);
  fed : (s : List ℕ) → g.T.Serves.stands l.fn.server s → g.T.Serves.stands l.server s;
}

abbrev pub decreases-items : goal.decreases-items
decreases-items g l = items_waiting (deeds (g.T.Serves.seen l.server))
