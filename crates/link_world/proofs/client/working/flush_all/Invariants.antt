use Rattle.std.proofs.Common.{◌≡◌, ℕ, List, Option, Some}
use Rattle.link_io.specs.Stored.{Stored}
use Rattle.rpc_ids.specs.declared.method.Role.TheVariants.{Client as client_role}
use Rattle.rpc_schedule.specs.Kept.{Holds}
use Rattle.rpc_journal.specs.Items.{items_flushed, items_waiting}
use Rattle.rpc_schedule.specs.Serving.{deeds}
use Rattle.rpc_schedule.specs.ends.EndState.{WasFed}
use Rattle.link_world.specs.server.GoesOut.{GoesOut}
use Rattle.link_world.proofs.client.PassLemmas.{FlushesSo}
use Rattle.link_world.proofs.client.working.flush_all.Given as goal

abbrev pub invariant-items : goal.invariant-items
invariant-items l = record {
  so : FlushesSo l.fn.desk.client.serving l.desk.client.serving;
  items : l.desk.items.items ≡ items_flushed (deeds l.desk.client.serving);
  same : l.desk.events.items ≡ l.fn.desk.events.items;
  out : GoesOut client_role l.fn.desk.items.items l.fn.wires l.desk.items.items l.wires;
  holds : (st : Option Stored) → Holds l.fn.desk.items.items st (Some l.fn.desk.store) → Holds l.desk.items.items st (Some l.desk.store);
  fed : (bytes : List ℕ) → WasFed client_role l.fn.desk.client bytes → WasFed client_role l.desk.client bytes;
}

abbrev pub decreases-items : goal.decreases-items
decreases-items l = items_waiting (deeds l.desk.client.serving)
