use Rattle.std.proofs.Common.{◌≡◌, ℕ, ◌-◌, ◌≤◌, List, ◌++◌, length, take, Option}
use Rattle.link_io.specs.Stored.{Stored}
use Rattle.rpc_schedule.specs.Kept.{Holds}
use Rattle.rpc_journal.specs.Items.{items_flushed}
use Rattle.rpc_schedule.specs.Serving.{deeds}
use Rattle.rpc_schedule.specs.Settling.{IsCalm}
use Rattle.rpc_schedule.proofs.stream.feed_all.Given as goal

abbrev pub invariant-frames : goal.invariant-frames
invariant-frames g l = record {
  within : l.done ≤ length l.piece;
  calm : IsCalm g.T.Serves.rule (g.T.Serves.seen l.server);
  items : l.items.items ≡ items_flushed (deeds (g.T.Serves.seen l.server));
  setting : (g.T.Serves.seen l.server).table.setting ≡ (g.T.Serves.seen l.fn.server).table.setting;
  fed : (s : List ℕ) → g.T.Serves.stands l.fn.server s → g.T.Serves.stands l.server (s ++ take l.done l.piece);
  later : g.S.Store.faults l.fn.store ≤ g.S.Store.faults l.store;
  holds : (st : Option Stored) → Holds l.fn.items.items st (g.S.Store.holds l.fn.store) → Holds l.items.items st (g.S.Store.holds l.store);
}

abbrev pub decreases-frames : goal.decreases-frames
decreases-frames g l = length l.piece - l.done
