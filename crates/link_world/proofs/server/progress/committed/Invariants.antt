use Rattle.std.proofs.Common.{◌≡◌, take}
use Rattle.rpc_journal.specs.StoreSteps.{store_after}
use Rattle.link_laws.specs.world.Committed.{no_progress, progress_steps}
use Rattle.link_world.proofs.server.progress.committed.Given as goal

abbrev pub invariant-items : goal.invariant-items
invariant-items l = l.progress ≡ store_after (progress_steps l.call l.session) no_progress (take l.item-index l.items)
