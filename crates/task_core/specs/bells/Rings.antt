-- How often keys were rung, and what loads of their words gave.
use Rattle.std.specs.Prelude.{◌==◌, ℕ, ◌+◌, ◌≤◌, Bool, true, false, List, [], ◌∷◌, Option, Some, None, if◌then◌else◌}
use Rattle.task_core.specs.declared.bells.view.Look.{Look}
use Rattle.task_core.specs.declared.bells.view.View.{View}

abbrev pub one_if : Bool → ℕ
one_if true = 1
one_if false = 0

-- how often the key stands in a list
abbrev pub times : ℕ → List ℕ → ℕ
times key [] = 0
times key (x ∷ xs) = one_if (key == x) + times key xs

-- how often all these views rang the key
abbrev pub rung_in : ℕ → List View → ℕ
rung_in key [] = 0
rung_in key (v ∷ vs) = times key v.rings + rung_in key vs

-- how many of the views are bells
abbrev pub bells_in : List View → ℕ
bells_in [] = 0
bells_in (v ∷ vs) = one_if v.is_bell + bells_in vs

-- the total that the last load of this key's word found
abbrev pub last_total : ℕ → List Look → Option ℕ
last_total key [] = None
last_total key (look ∷ looks) = if key == look.key then Some look.total else last_total key looks

-- no load found more than this
abbrev pub AreWithin : (ℕ → ℕ) → List Look → Type 0
AreWithin most [] = Unit {0}
AreWithin most (look ∷ looks) = (look.total ≤ most look.key) × AreWithin most looks
