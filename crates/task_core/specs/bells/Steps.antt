-- What each atomic step on a word tells the seat that makes it: of the step, the seat before, the word found, and the seat
-- after.
use Rattle.std.specs.Prelude.{◌≡◌, ℕ, ◌≤◌, ◌%◌, ◌^◌, Some}
use Rattle.atomic_table.specs.Table.{Me, Step}
use Rattle.task_core.specs.declared.bells.view.View.{View}
use Rattle.task_core.specs.bells.Rings.{last_total}
use Rattle.task_core.specs.bells.Views.{rung_view, heard_view}

-- a ring: one is added to the word
abbrev pub rang : Step ℕ → Me ℕ View → ℕ → Me ℕ View → Type 0
rang step before found after = (after.0 ≡ rung_view step.word before.0) × (after.1 ≡ before.1)

-- a load: the word is the total modulo 2^64, and the total is no less than at the last load
abbrev pub heard : Step ℕ → Me ℕ View → ℕ → Me ℕ View → Type 0
heard step before found after =
    (total : ℕ) × (found ≡ total % 2 ^ 64) × (after.0 ≡ heard_view step.word total before.0) × (after.1 ≡ before.1)
    × ((t : ℕ) → last_total step.word before.0.looks ≡ Some t → t ≤ total)
