-- How many chunks a receiver lacks at most, and how many turns of time may pass until it has them.
use Rattle.std.proofs.Common.{◌≡◌, ℕ, zero, suc, ◌+◌, ◌-◌, ◌*◌, ◌<◌, ◌≤◌, length, arith}
use Rattle.transfer_receiver.specs.Receiver.{Receiver}
use Rattle.transfer_laws.proofs.losses.Grid.{Setup}
use Rattle.transfer_laws.proofs.losses.DataPhase.{Moves, moves, stays}

module _ (x : Setup) where
  -- so many chunks at most are left, and one at least
  pub record Left (r : Receiver) (left : ℕ) : Type 0 where
    pub some : 1 ≤ left
    pub reach : length x.bytes ≤ r.next + left * x.chunk
    pub few : r.resends ≤ 3

  -- three turns for each of them, and four for the end
  abbrev pub rank : Receiver → ℕ → ℕ
  rank r left = 3 * left + 4 - r.resends

  -- behind a chunk they aren't more
  pub record StillLeft (most : ℕ) (r : Receiver) : Type 0 where
    pub left : ℕ
    pub is : Left r left
    pub less : rank r left ≤ most

  pub left_behind : (r r' : Receiver) (left : ℕ) → Left r left → Moves x r r' → StillLeft (rank r left) r'
  left_behind r r' left l (stays next resends) =
      record { left = left; is = record { some = l.some; reach = omega (arith, l.reach, next); few = omega (arith, l.few, resends) }; less = omega (arith, resends) }
  left_behind r r' zero l (moves next inside resends) = absurd (omega (arith, l.some))
  left_behind r r' (suc left) l (moves next inside resends) =
      let reach : length x.bytes ≤ r.next + x.chunk + left * x.chunk = omega (arith, l.reach, wide left) in
      record { left = left; is = record { some = some left (omega (arith, reach, inside)); reach = omega (arith, reach, next); few = omega (arith, resends) }; less = omega (arith, resends, l.few) }
    where
      wide : (i : ℕ) → suc i * x.chunk ≡ i * x.chunk + x.chunk
      wide i = omega arith

      some : (i : ℕ) → 0 < i * x.chunk → 1 ≤ i
      some zero less = absurd (omega (arith, less))
      some (suc i) less = omega arith
