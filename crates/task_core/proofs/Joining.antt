-- The number heard at a task's last poll is that of a load, or 0.
use Rattle.std.proofs.Common.{◌≡◌, ◌≢◌, ◌==◌, ◌⊎◌, ℕ, suc, ◌<◌, ◌≤◌, List, [], ◌∷◌, Some, refl, ap, inl, inr, arith}
use Rattle.std.proofs.lemmas.Bool.{cond_both, eqb-true}
use Rattle.std.specs.Prelude.{slice_get}
use Rattle.task_core.specs.declared.bells.view.Look.{Look}
use Rattle.task_core.specs.bells.Bells.{Rung, rung_by, NoneLost}
use Rattle.task_core.specs.Log.{Step, added, posted, woken, advanced, heard, polled, took, last_heard, poll_heard, looks_of}

abbrev IsFound : List Look → ℕ → ℕ → Type 0
IsFound looks k n = (n ≡ 0) ⊎ ((i : ℕ) × (slice_get looks i ≡ Some (record { key = k; total = n })))

further : (look : Look) (looks : List Look) (k n : ℕ) → IsFound looks k n → IsFound (look ∷ looks) k n
further look looks k n (inl none) = inl none
further look looks k n (inr found) = inr (suc found.0, found.1)

within : (looks : List Look) (bells : List Rung) (words : List ℕ) (k n : ℕ) → NoneLost looks bells words → IsFound looks k n → n ≤ rung_by k bells
within looks bells words k n lost (inl none) = omega arith
within looks bells words k n lost (inr found) = (lost found.0 (record { key = k; total = n }) found.1).0

module _ {T : Type 0} where
  pub last_found : (log : List (Step T)) (k : ℕ) → IsFound (looks_of log) k (last_heard log k)
  last_found [] k = inl refl
  last_found (added key task ∷ log) k = cond_both (key == k) 0 (last_heard log k) (λ n. IsFound (looks_of log) k n) (λ _. inl refl) (λ _. last_found log k)
  last_found (posted key mail ∷ log) k = last_found log k
  last_found (woken key ∷ log) k = last_found log k
  last_found (advanced moment ∷ log) k = last_found log k
  last_found (heard key total ∷ log) k =
      cond_both (key == k) total (last_heard log k) (λ n. IsFound (record { key = key; total = total } ∷ looks_of log) k n)
      (λ same. inr (0, ap (λ j. Some (record { key = j; total = total })) (eqb-true key k same)))
      (λ _. further _ (looks_of log) k (last_heard log k) (last_found log k))
  last_found (polled key visit short task ∷ log) k = last_found log k
  last_found (took ∷ log) k = last_found log k

  pub poll_found : (log : List (Step T)) (k : ℕ) → IsFound (looks_of log) k (poll_heard log k)
  poll_found [] k = inl refl
  poll_found (added key task ∷ log) k = cond_both (key == k) 0 (poll_heard log k) (λ n. IsFound (looks_of log) k n) (λ _. inl refl) (λ _. poll_found log k)
  poll_found (posted key mail ∷ log) k = poll_found log k
  poll_found (woken key ∷ log) k = poll_found log k
  poll_found (advanced moment ∷ log) k = poll_found log k
  poll_found (heard key total ∷ log) k = further _ (looks_of log) k (poll_heard log k) (poll_found log k)
  poll_found (polled key visit short task ∷ log) k = cond_both (key == k) (last_heard log k) (poll_heard log k) (λ n. IsFound (looks_of log) k n) (λ _. last_found log k) (λ _. poll_found log k)
  poll_found (took ∷ log) k = poll_found log k

  -- where the bells rang another number of times than was heard at the last poll, they rang more
  pub rung_since : (log : List (Step T)) (bells : List Rung) (words : List ℕ) (k : ℕ) → NoneLost (looks_of log) bells words → poll_heard log k ≢ rung_by k bells → poll_heard log k < rung_by k bells
  rung_since log bells words k lost differs = let most = within (looks_of log) bells words k (poll_heard log k) lost (poll_found log k) in omega (arith, most, differs)
