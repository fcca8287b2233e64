-- What the runs of the events that wait cost, in entries.
use Rattle.std.proofs.Common.{◌≡◌, ℕ, ◌+◌, ◌≤◌, Bool, true, false, ◌==◌, List, [], ◌∷◌, ◌++◌, slice_get, Some, if◌then◌else◌, arith}
use Rattle.std.specs.List.{list_any}
use Rattle.rpc_ids.specs.declared.status.Status.TheVariants.{Unavailable}
use Rattle.rpc_handlers.specs.declared.event.Event.{Event}
use Rattle.rpc_handlers.specs.declared.event.Event.TheVariants.{Ended}
use Rattle.rpc_journal.specs.Calls.{of_call}
use Rattle.rpc_journal.specs.Effect.{Opening}
use Rattle.rpc_journal.specs.Entries.{each_from}
use Rattle.rpc_journal.proofs.PlaceLemmas.{some_same}
use Rattle.history_laws.specs.sizes.Size.{run_entries}
use Rattle.rpc_schedule.proofs.PendingLemmas.{taking, without}

-- the entries of the runs that take these events
abbrev pub cost : (Event → ℕ) → List (ℕ × Event) → ℕ
cost most [] = 0
cost most (x ∷ xs) = run_entries most x.1 + cost most xs

-- the entries of the runs in which these calls hear that the input has ended
abbrev pub closing : (Event → ℕ) → List Opening → ℕ
closing most [] = 0
closing most (o ∷ os) = run_entries most (Ended Unavailable) + closing most os

module _ (most : Event → ℕ) where
  pub cost-append : (xs ys : List (ℕ × Event)) → cost most (xs ++ ys) ≡ cost most xs + cost most ys
  cost-append [] ys = omega arith
  cost-append (x ∷ xs) ys = omega (arith, cost-append xs ys)

  pub closing-append : (xs ys : List Opening) → closing most (xs ++ ys) ≡ closing most xs + closing most ys
  closing-append [] ys = omega arith
  closing-append (x ∷ xs) ys = omega (arith, closing-append xs ys)

  pub cost-without : (drops : List ℕ) (xs : List (ℕ × Event)) → cost most (without drops xs) ≤ cost most xs
  cost-without drops [] = omega arith
  cost-without drops (x ∷ xs) = at (list_any (λ c. c == x.0) drops) (cost-without drops xs)
    where
      at : (b : Bool) → cost most (without drops xs) ≤ cost most xs
          → cost most (if b then without drops xs else x ∷ without drops xs) ≤ run_entries most x.1 + cost most xs
      at true rest = omega (arith, rest)
      at false rest = omega (arith, rest)

  -- the oldest event of c is taken
  pub cost-taking : (c : ℕ) (event : Event) (xs : List (ℕ × Event)) → slice_get (of_call c xs) 0 ≡ Some event
      → cost most (taking c xs) + run_entries most event ≡ cost most xs
  cost-taking c event [] first = absurd cc
  cost-taking c event (x ∷ xs) first = at (x.0 == c) first (cost-taking c event xs)
    where
      at : (b : Bool) → slice_get (if b then x.1 ∷ of_call c xs else of_call c xs) 0 ≡ Some event
          → (slice_get (of_call c xs) 0 ≡ Some event → cost most (taking c xs) + run_entries most event ≡ cost most xs)
          → cost most (if b then xs else x ∷ taking c xs) + run_entries most event ≡ run_entries most x.1 + cost most xs
      at true is rest = rw (some_same x.1 event is) (omega arith)
      at false is rest = omega (arith, rest is)

  -- the end of the input puts no more than the calls were promised
  pub cost-ended : (n : ℕ) (test : ℕ → Opening → Bool) (os : List Opening) → cost most (each_from n test (Ended Unavailable) os) ≤ closing most os
  cost-ended n test [] = omega arith
  cost-ended n test (o ∷ os) = at (test n o) (cost-ended (n + 1) test os)
    where
      at : (b : Bool) → cost most (each_from (n + 1) test (Ended Unavailable) os) ≤ closing most os
          → cost most (if b then (n, Ended Unavailable) ∷ each_from (n + 1) test (Ended Unavailable) os else each_from (n + 1) test (Ended Unavailable) os)
          ≤ run_entries most (Ended Unavailable) + closing most os
      at true rest = omega (arith, rest)
      at false rest = omega (arith, rest)
