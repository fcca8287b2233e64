-- What holds between any two steps: each word is how often its key was rung, modulo 2^64.
use Rattle.std.specs.Prelude.{◌≡◌, ℕ, ◌+◌, ◌%◌, ◌^◌, true, false, List, [], ◌∷◌, length, slice_index}
use Rattle.atomic_table.specs.Table.{State}
use Rattle.task_core.specs.declared.bells.view.View.{View}
use Rattle.task_core.specs.bells.Rings.{rung_in, bells_in, AreWithin}

-- none of these is the ear, and what isn't a bell has no rings
abbrev pub AreBells : List View → Type 0
AreBells [] = Unit {0}
AreBells (v ∷ vs) = (v.is_ear ≡ false) × (v.is_bell ≡ false → v.rings ≡ []) × AreBells vs

-- The first seat is the ear's. It counts the bells that it made and took back, and none of its loads found more than was
-- rung.
pub record RuledBy (tasks : ℕ) (s : State ℕ View) (ear : View) (others : List View) : Type 0 where
  pub count : length s.words ≡ tasks
  pub views : s.views ≡ ear ∷ others
  pub is_ear : ear.is_ear ≡ true
  pub out : ear.back + bells_in others ≡ ear.made
  pub bells : AreBells others
  pub words : (key : ℕ) → slice_index s.words key ≡ rung_in key (ear ∷ others) % 2 ^ 64
  pub looks : AreWithin (λ key. rung_in key (ear ∷ others)) ear.looks

pub record Ruled (tasks : ℕ) (s : State ℕ View) : Type 0 where
  pub ear : View
  pub others : List View
  pub by : RuledBy tasks s ear others
