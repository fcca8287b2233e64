-- The bell by which the reader wakes the one task.
use Rattle.std.specs.Prelude.{◌≡◌, ℕ, ◌+◌, ◌<◌, length}
use Rattle.rpc_shared.specs.session.Crew.{Seat}
use Rattle.rpc_journal.specs.Items.{arrivals}
use Rattle.task_core.specs.bells.Bells.{Rung, Tower}
use Rattle.task_core.specs.bells.Rings.{times}

pub record CanRing (tower : Tower) (bell : Rung) : Type 0 where
  pub own : bell.table ≡ tower.table
  pub some : 0 < tower.table.words

-- THE BELL RINGS FOR EACH PACKET: between two moments of the reader's pass so many packets arrived, and the bell rang the one task's
-- word once for each of them, and so often besides
pub record RangForEach (besides : ℕ) (before after : Rung) (p q : Seat) : Type 0 where
  pub packets : ℕ
  pub arrived : length (arrivals q.view.known.mine) ≡ length (arrivals p.view.known.mine) + packets
  pub rung : times 0 after.rings ≡ times 0 before.rings + packets + besides
