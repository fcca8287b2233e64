-- What a pass knows, at its beginning and after each kind of step.
use Rattle.std.specs.Prelude.{◌≡◌, ℕ, ◌+◌, ◌<◌, true, false, List, [], ◌∷◌, ◌++◌, Option, Some, None}
use mathlib.Core.List.{IsPrefix}
use Rattle.entry_lists.specs.Entries.{made_by}
use Rattle.turn_cell.specs.declared.view.Known.{Known}
use Rattle.turn_cell.specs.declared.view.View.{View}

-- what is known of a number fits the log: the log begins with what was seen, and has just these entries of the number, which were all seen
module _ {E : Type 0} (maker : E → ℕ) (log : List E) (given : ℕ) where
  pub record Fits (p : Known E) : Type 0 where
    pub below : p.number < given
    pub begins : IsPrefix p.seen log
    pub own : made_by maker p.number log ≡ p.mine
    pub shown : made_by maker p.number p.seen ≡ p.mine

module _ {E B : Type 0} where
  -- a pass that has seen nothing
  abbrev pub newcomer : ℕ → Option B → View E B
  newcomer number base = record { known = record { number = number; seen = []; mine = [] }; base = base; holds = false; spent = false; looks = 0; loaded = 0; saw = 0; given = 0; ended = [] }

  -- the first pass, which counts the numbers that are given out
  abbrev pub starting : B → View E B
  starting base = record (newcomer 0 (Some base)) { given = 1 }

  -- what is left of a pass that another has taken in
  abbrev pub gone_view : View E B
  gone_view = record (newcomer 0 None) { spent = true }

  -- pass 0 gives out the next number, to a pass that has seen nothing
  abbrev pub giving : View E B → View E B
  giving v = record v { given = v.given + 1 }

  abbrev pub given_out : View E B → View E B
  given_out v = newcomer v.given v.base

  -- pass 0 takes in another pass, and keeps what it knew
  abbrev pub keeping : View E B → View E B → View E B
  keeping v w = record v { ended = v.ended ++ w.known ∷ [] }

  -- after a load that gave this word, and after a lost exchange that found it
  abbrev pub looked_view : ℕ → View E B → View E B
  looked_view word v = record v { looks = v.looks + 1; loaded = word; saw = word }

  abbrev pub lost_view : ℕ → View E B → View E B
  lost_view word v = record v { saw = word }

  -- a pass that took the value with this log, and one that gave it back
  abbrev pub holding_view : List E → View E B → View E B
  holding_view log v = record v { holds = true; known = record v.known { seen = log } }

  abbrev pub giving_view : (E → ℕ) → List E → View E B → View E B
  giving_view maker log v = record v { holds = false; known = record { number = v.known.number; seen = log; mine = made_by maker v.known.number log } }
