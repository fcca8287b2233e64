-- What a seat knows, at its beginning and after each kind of step.
use Rattle.std.specs.Prelude.{ℕ, ◌+◌, true, false, [], ◌∷◌, ◌++◌}
use Rattle.task_core.specs.declared.bells.view.View.{View}

-- what is left of a seat that another has taken in
abbrev pub gone : View
gone = record { is_ear = false; is_bell = false; rings = []; looks = []; made = 0; back = 0 }

abbrev pub new_ear : View
new_ear = record gone { is_ear = true }

abbrev pub new_bell : View
new_bell = record gone { is_bell = true }

-- the ear gives out one bell more, and takes one back with what it rang
abbrev pub making : View → View
making v = record v { made = v.made + 1 }

abbrev pub taking : View → View → View
taking v w = record v { rings = w.rings ++ v.rings; back = v.back + 1 }

-- a ring of this key, and a load of its word that found this total
abbrev pub rung_view : ℕ → View → View
rung_view key v = record v { rings = key ∷ v.rings }

abbrev pub heard_view : ℕ → ℕ → View → View
heard_view key total v = record v { looks = record { key = key; total = total } ∷ v.looks }
