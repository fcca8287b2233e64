-- What each atomic step on the word tells the seat that makes it: of the step, the seat before, the word found, and the seat after.
use Rattle.std.specs.Prelude.{◌≡◌, ◌≢◌, ℕ, ◌*◌, ◌≤◌, List, [], ◌∷◌, length, Option, Some}
use mathlib.Core.List.{IsPrefix}
use Rattle.atomic_table.specs.Table.{Me, Step}
use Rattle.entry_lists.specs.Entries.{made_by}
use Rattle.turn_cell.specs.declared.view.View.{View}
use Rattle.turn_cell.specs.Views.{looked_view, lost_view, holding_view, giving_view}

abbrev pub At : Type 0 → Type 0 → Type 0 → Type 0
At X E B = Me (Option X) (View E B)

-- a load: the word is at least twice the length of what was seen
abbrev pub looked : {X E B : Type 0} → Step (Option X) → At X E B → ℕ → At X E B → Type 0
looked step before found after = (after.0 ≡ looked_view found before.0) × (after.1 ≡ before.1) × (2 * length before.0.known.seen ≤ found)

module _ {X E B : Type 0} (log : X → List E) (maker : E → ℕ) (base : X → B) where
  -- the value that is taken: its log begins with what was seen, in which all entries of this number stand
  pub record Took (v : View E B) (x : X) : Type 0 where
    pub begins : IsPrefix v.known.seen (log x)
    pub own : made_by maker v.known.number (log x) ≡ v.known.mine
    pub shown : made_by maker v.known.number v.known.seen ≡ v.known.mine
    pub based : Some (base x) ≡ v.base

  -- an exchange of the word, which takes the slot where it finds the word that was loaded
  abbrev pub grabbed : Step (Option X) → At X E B → ℕ → At X E B → Type 0
  grabbed step before found after =
      (found ≡ step.first → (x : X) × Took before.0 x × (after.0 ≡ holding_view (log x) before.0) × (after.1 ≡ (0, Some x) ∷ before.1))
      × (found ≢ step.first → (after.0 ≡ lost_view found before.0) × (after.1 ≡ before.1))

  -- a store of the word, which gives the slot back
  abbrev pub gave : Step (Option X) → At X E B → ℕ → At X E B → Type 0
  gave step before stored after =
      (x : X) → before.1 ≡ (0, Some x) ∷ []
      → (after.0 ≡ giving_view maker (log x) before.0) × (after.1 ≡ []) × (made_by maker before.0.known.number before.0.known.seen ≡ before.0.known.mine)
