-- What the functions that make and end a lock say of several passes.
use Rattle.std.specs.Prelude.{◌≡◌, ℕ, ◌+◌, false, List}
use mathlib.Core.Option.{some}
use lib.ListN.{get_elem?}
use Rattle.atomic_table.specs.Seated.{TableId}
use Rattle.turn_cell.specs.declared.view.Known.{Known}
use Rattle.turn_cell.specs.Views.{newcomer}
use Rattle.turn_cell.specs.Passes.{PassView}

module _ {E B : Type 0} where
  -- the passes that pass 0 gave numbers to, in order from 1
  abbrev pub AreNewcomers : PassView E B → List (PassView E B) → Type 0
  AreNewcomers first ps = (i : ℕ) (p : PassView E B) → get_elem? ps i ≡ some p → (p.table ≡ first.table) × (p.view ≡ newcomer (i + 1) first.view.base)

  -- passes of one table that don't hold
  abbrev pub AreFree : TableId → List (PassView E B) → Type 0
  AreFree table ps = (i : ℕ) (p : PassView E B) → get_elem? ps i ≡ some p → (p.table ≡ table) × (p.view.holds ≡ false)

  -- what each of the passes knew is kept
  abbrev pub AreEnded : List (Known E) → List (PassView E B) → Type 0
  AreEnded ended ps = (i : ℕ) (p : PassView E B) → get_elem? ps i ≡ some p → (j : ℕ) × (get_elem? ended j ≡ some p.view.known)
