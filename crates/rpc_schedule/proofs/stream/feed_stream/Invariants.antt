use Rattle.std.proofs.Common.{◌≡◌, ℕ, ◌-◌, ◌≤◌, List, length, Option}
use Rattle.std.specs.Io.KnownBytes.{Consumes}
use Rattle.link_io.specs.Stored.{Stored}
use Rattle.rpc_schedule.specs.Kept.{Holds}
use Rattle.rpc_journal.specs.Items.{items_flushed}
use Rattle.rpc_schedule.specs.declared.stream.TheConstants.{INPUT_LIMIT}
use Rattle.rpc_schedule.specs.Serving.{deeds}
use Rattle.rpc_schedule.specs.Settling.{IsCalm}
use Rattle.rpc_schedule.proofs.stream.feed_stream.Given as goal

abbrev pub invariant-pieces : goal.invariant-pieces
invariant-pieces g l = record {
  within : l.total ≤ INPUT_LIMIT;
  calm : IsCalm g.T.Serves.rule (g.T.Serves.seen l.server);
  items : l.items.items ≡ items_flushed (deeds (g.T.Serves.seen l.server));
  setting : (g.T.Serves.seen l.server).table.setting ≡ (g.T.Serves.seen l.fn.server).table.setting;
  later : g.I.Source.faults l.fn.input ≤ g.I.Source.faults l.input;
  store_later : g.S.Store.faults l.fn.store ≤ g.S.Store.faults l.store;
  holds : (st : Option Stored) → Holds l.fn.items.items st (g.S.Store.holds l.fn.store) → Holds l.items.items st (g.S.Store.holds l.store);
  read : (s : List ℕ) × Consumes (g.I.Source.left l.fn.input) (g.I.Source.left l.input) s × (length s ≡ l.total) × g.T.Serves.stands l.server s;
}

abbrev pub decreases-pieces : goal.decreases-pieces
decreases-pieces g l = INPUT_LIMIT - l.total
