-- The definitions at one short list, whose entries are a maker's number and a text's place.
use Rattle.std.specs.Prelude.{◌≡◌, ℕ, [], ◌∷◌}
use Rattle.entry_lists.specs.Entries.{made_by, AllBy, GoesOn}

abbrev pub maker_of : ℕ × ℕ → ℕ
maker_of e = e.0

abbrev pub Chosen : Type 0
Chosen = made_by maker_of 1 ((1, 50) ∷ (2, 60) ∷ (1, 70) ∷ []) ≡ (1, 50) ∷ (1, 70) ∷ []

abbrev pub NoneChosen : Type 0
NoneChosen = made_by maker_of 3 ((1, 50) ∷ (2, 60) ∷ (1, 70) ∷ []) ≡ []

abbrev pub WentOn : Type 0
WentOn = GoesOn maker_of 2 ((1, 50) ∷ []) ((1, 50) ∷ (2, 60) ∷ (2, 70) ∷ [])

abbrev pub OfAnother : Type 0
OfAnother = ¬ (AllBy maker_of 2 ((2, 60) ∷ (1, 70) ∷ []))
