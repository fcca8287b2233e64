-- The account of a history: what its entries, and what waits, come to, against what its packets bring.
use Rattle.std.proofs.Common.{◌≡◌, ℕ, ◌+◌, ◌≤◌, false, List, [], length, refl, arith}
use Rattle.rpc_handlers.specs.declared.event.Event.{Event}
use Rattle.rpc_journal.specs.Calls.{calls, is_cancelled}
use Rattle.rpc_journal.specs.Effect.{Deed, Opening}
use Rattle.rpc_journal.specs.Items.{flush_count, items_sent}
use Rattle.history_laws.proofs.sizes.CostLemmas.{cost}
use Rattle.rpc_schedule.proofs.PendingLemmas.{Pending, no_deed}

-- The entries so far, those of the runs whose events wait, a Flush for each item that waits, and what is owed to the
-- calls there are, come to no more than `budget`. No call is cancelled.
pub record Books (most : Event → ℕ) (owed : List Opening → ℕ) (budget : ℕ) (ds : List Deed) : Type 0 where
  pub waiting : List (ℕ × Event)
  pub tells : Pending ds waiting
  pub uncancelled : (c : ℕ) → is_cancelled ds c ≡ false
  pub flushed : flush_count ds ≤ length (items_sent ds)
  pub within : length ds + (cost most waiting + (length (items_sent ds) + owed (calls ds))) ≤ budget + flush_count ds

-- before the first entry
pub fresh : (most : Event → ℕ) (owed : List Opening → ℕ) → owed [] ≡ 0 → Books most owed 0 []
fresh most owed none = record {
  waiting = [];
  tells = no_deed;
  uncancelled = λ c. refl;
  flushed = omega arith;
  within = omega (arith, none);
}

-- so there are no more entries than that
pub entries_at_most : (most : Event → ℕ) (owed : List Opening → ℕ) (budget : ℕ) (ds : List Deed) → Books most owed budget ds → length ds ≤ budget
entries_at_most most owed budget ds books = omega (arith, books.within, books.flushed)

-- what is owed once the input has ended
abbrev pub nothing_owed : List Opening → ℕ
nothing_owed os = 0
