-- What holds between any two steps, of the word, of the slot and of the views of all seats.
-- The word is twice the log's length, and one more while the lock is held. While it is even the value is at home, in the slot; while it is odd the value is with one seat.
use Rattle.std.specs.Prelude.{◌≡◌, ◌≢◌, ◌⊎◌, ℕ, ◌+◌, ◌*◌, ◌≤◌, true, false, List, [], ◌∷◌, length, Option, Some}
use mathlib.Core.Option.{some}
use mathlib.Core.Option as maybe
use lib.ListN.{get_elem?}
use Rattle.atomic_table.specs.Table.{State}
use Rattle.entry_lists.specs.Entries.{made_by}
use Rattle.turn_cell.specs.declared.view.Known.{Known}
use Rattle.turn_cell.specs.declared.view.View.{View}
use Rattle.turn_cell.specs.Views.{Fits}

module _ {E B : Type 0} where
  -- the first seat has number 0, counts the numbers that were given out, and keeps what the ended ones knew
  pub record IsFirstPass (given : ℕ) (ended : List (Known E)) (v : View E B) : Type 0 where
    pub lives : v.spent ≡ false
    pub zero : v.known.number ≡ 0
    pub counts : v.given ≡ given
    pub keeps : v.ended ≡ ended

-- T's values, entries and bases; and the base that is fixed when the lock is made
module _ {X E B : Type 0} (log : X → List E) (maker : E → ℕ) (base : X → B) (fixed : B) where
  -- the lock is free: the value lies in the slot, its log is the whole log, and no view holds
  pub record IsFree (whole : List E) (word : ℕ) (home : maybe.Option (Option X)) (views : List (View E B)) : Type 0 where
    pub value : X
    pub here : home ≡ some (Some value)
    pub logged : log value ≡ whole
    pub based : base value ≡ fixed
    pub even : word ≡ 2 * length whole
    pub free : (seat : ℕ) (v : View E B) → get_elem? views seat ≡ some v → v.holds ≡ false

  -- the lock is held: one view alone holds, and it has seen the whole log
  pub record IsHeld (whole : List E) (word : ℕ) (views : List (View E B)) : Type 0 where
    pub seat : ℕ
    pub holder : View E B
    pub sits : get_elem? views seat ≡ some holder
    pub holds : holder.holds ≡ true
    pub lives : holder.spent ≡ false
    pub knows : holder.known.seen ≡ whole
    pub odd : word ≡ 2 * length whole + 1
    pub only : (j : ℕ) (v : View E B) → get_elem? views j ≡ some v → v.holds ≡ true → j ≡ seat

  -- there is one log
  pub record KeepsOneLog (word : ℕ) (home : maybe.Option (Option X)) (views : List (View E B)) : Type 0 where
    pub whole : List E
    pub given : ℕ
    pub ended : List (Known E)
    pub first_pass : View E B
    pub first : get_elem? views 0 ≡ some first_pass
    pub first_pass_is : IsFirstPass given ended first_pass
    -- each view has the base and fits the log, and no two have one number
    pub based : (seat : ℕ) (v : View E B) → get_elem? views seat ≡ some v → v.spent ≡ false → v.base ≡ Some fixed
    pub fits : (seat : ℕ) (v : View E B) → get_elem? views seat ≡ some v → v.spent ≡ false → Fits maker whole given v.known
    pub numbers_differ : (i j : ℕ) (u v : View E B) → get_elem? views i ≡ some u → get_elem? views j ≡ some v → u.spent ≡ false → v.spent ≡ false → u.known.number ≡ v.known.number → i ≡ j
    -- what the ended numbers knew fits too, and no view has their numbers
    pub ended_fit : (i : ℕ) (p : Known E) → get_elem? ended i ≡ some p → Fits maker whole given p
    pub ended_differ : (seat : ℕ) (v : View E B) → get_elem? views seat ≡ some v → v.spent ≡ false → (i : ℕ) (p : Known E) → get_elem? ended i ≡ some p → v.known.number ≢ p.number
    -- a number that isn't given out has no entry
    pub ungiven_have_none : (number : ℕ) → given ≤ number → made_by maker number whole ≡ []
    pub place : IsFree whole word home views ⊎ IsHeld whole word views

  -- a table of one word and one slot
  pub record Ruled (s : State (Option X) (View E B)) : Type 0 where
    pub word : ℕ
    pub home : maybe.Option (Option X)
    pub words : s.words ≡ word ∷ []
    pub homes : s.homes ≡ home ∷ []
    pub kept : KeepsOneLog word home s.views
