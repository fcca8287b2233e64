-- What the contracts of the lock say: a lock, a pass, and what each call does to the pass.
use Rattle.std.specs.Prelude.{◌≡◌, ◌≢◌, ◌⊎◌, ℕ, ◌+◌, ◌%◌, ◌<◌, ◌≤◌, Bool, true, false, List, [], ◌∷◌, ◌++◌, length, Option, Some, None}
use Rattle.std.specs.List.{AllByRecursion}
use mathlib.Core.List.{IsPrefix}
use mathlib.Core.Option.{some}
use lib.ListN.{get_elem?}
use Rattle.atomic_table.specs.Seated.{TableId}
use Rattle.atomic_table.specs.declared.shared.Seat.{Seat}
use Rattle.entry_lists.specs.Entries.{made_by}
use Rattle.turn_cell.specs.declared.view.View.{View}

-- a lock: which it is, the base of its value, and how many passes it has
pub record LockView (B : Type 0) : Type 0 where
  pub table : TableId
  pub base : B
  pub count : ℕ

-- a pass: of which lock it is, and what it knows
pub record PassView (E B : Type 0) : Type 0 where
  pub table : TableId
  pub seat : ℕ
  pub view : View E B

-- the slots that a seat has: the one of the table while it holds
abbrev pub carried : {X : Type 0} → Bool → List (ℕ × Option X)
carried true = (0, None) ∷ []
carried false = []

module _ {X E B : Type 0} where
  abbrev pub pass_view : Seat (Option X) (View E B) → PassView E B
  pass_view s = record { table = s.table_id; seat = s.id; view = s.me.0 }

  -- the fields of a pass agree with what it knows
  pub record IsPassView (number : ℕ) (holding : Bool) (s : Seat (Option X) (View E B)) : Type 0 where
    pub number_is : s.me.0.known.number ≡ number
    pub holding_is : s.me.0.holds ≡ holding
    pub lives : s.me.0.spent ≡ false
    pub slots : s.me.1 ≡ carried holding

module _ {E B : Type 0} where
  -- the same pass, which may have looked further
  pub record IsSame (p q : PassView E B) : Type 0 where
    pub table : q.table ≡ p.table
    pub seat : q.seat ≡ p.seat
    pub number : q.view.known.number ≡ p.view.known.number
    pub base : q.view.base ≡ p.view.base
    pub given : q.view.given ≡ p.view.given
    pub ended : q.view.ended ≡ p.view.ended
    pub looks : p.view.looks ≤ q.view.looks

  -- the lock wasn't taken: one load found a word, and at most one exchange found another, which is the load's where there was no exchange
  pub record TurnedAway (p q : PassView E B) (found other : ℕ) : Type 0 where
    pub same : IsSame p q
    pub known : q.view.known ≡ p.view.known
    pub idle : q.view.holds ≡ false
    pub looked : q.view.looks ≡ p.view.looks + 1
    pub loaded : q.view.loaded ≡ found
    pub saw : q.view.saw ≡ other
    pub cause : (found % 2 ≡ 1) ⊎ (other ≢ found)

  -- a pass of the lock, with this number. Pass 0 knows how many there are
  pub record IsPass (r : LockView B) (k : ℕ) (p : PassView E B) : Type 0 where
    pub table : p.table ≡ r.table
    pub number : p.view.known.number ≡ k
    pub base : p.view.base ≡ Some r.base
    pub rights : k ≡ 0 → (p.view.given ≡ r.count) × (p.view.ended ≡ [])

  -- such a pass as the lock is made with, which has seen nothing
  pub record IsNew (r : LockView B) (k : ℕ) (p : PassView E B) : Type 0 where
    pub pass : IsPass r k p
    pub seen : p.view.known.seen ≡ []
    pub mine : p.view.known.mine ≡ []
    pub looks : p.view.looks ≡ 0
    pub idle : p.view.holds ≡ false

  -- such a pass as it may come back, which doesn't hold
  pub record IsIdle (r : LockView B) (k : ℕ) (p : PassView E B) : Type 0 where
    pub pass : IsPass r k p
    pub idle : p.view.holds ≡ false

  -- all passes of the lock, in the order of their numbers
  pub record AreAll (r : LockView B) (Ok : ℕ → PassView E B → Type 0) (ps : List (PassView E B)) : Type 0 where
    pub count : length ps ≡ r.count
    pub each : (k : ℕ) (p : PassView E B) → get_elem? ps k ≡ some p → Ok k p

  -- the passes are back in their order, each the same as before, and none holds
  pub record AreBack (ps qs : List (PassView E B)) : Type 0 where
    pub count : length qs ≡ length ps
    pub each : (k : ℕ) (p : PassView E B) → get_elem? ps k ≡ some p → (q : PassView E B) × (get_elem? qs k ≡ some q) × IsSame p q × (q.view.holds ≡ false)

module _ {X E B : Type 0} (log : X → List E) (maker : E → ℕ) where
  -- the value was given back. The pass has seen its log, and what was added since is the pass's own
  pub record HasGiven (p q : PassView E B) (x : X) : Type 0 where
    pub same : IsSame p q
    pub begins : IsPrefix p.view.known.seen (log x)
    pub seen : q.view.known.seen ≡ log x
    pub mine : (added : List E) → log x ≡ p.view.known.seen ++ added → q.view.known.mine ≡ p.view.known.mine ++ added
    pub no_look : q.view.looks ≡ p.view.looks
    pub idle : q.view.holds ≡ false

module _ {X E B : Type 0} (log : X → List E) (maker : E → ℕ) (base : X → B) where
  -- the lock was taken. The value's log begins with what the pass had seen, and has no entry of its number behind that
  pub record HasTaken (p q : PassView E B) (x : X) : Type 0 where
    pub same : IsSame p q
    pub begins : IsPrefix p.view.known.seen (log x)
    pub own : made_by maker p.view.known.number (log x) ≡ p.view.known.mine
    pub shown : made_by maker p.view.known.number p.view.known.seen ≡ p.view.known.mine
    pub based : Some (base x) ≡ p.view.base
    pub seen : q.view.known.seen ≡ log x
    pub mine : q.view.known.mine ≡ p.view.known.mine
    pub holds : q.view.holds ≡ true

  -- the lock was taken with the value x and given back with y
  pub record HasChanged (p q : PassView E B) (x y : X) : Type 0 where
    pub same : IsSame p q
    pub begins : IsPrefix p.view.known.seen (log x)
    pub own : made_by maker p.view.known.number (log x) ≡ p.view.known.mine
    pub shown : made_by maker p.view.known.number p.view.known.seen ≡ p.view.known.mine
    pub based : Some (base x) ≡ p.view.base
    pub seen : q.view.known.seen ≡ log y
    pub mine : (added : List E) → log y ≡ log x ++ added → q.view.known.mine ≡ p.view.known.mine ++ added
    pub idle : q.view.holds ≡ false

  -- a pass fits the value: its log begins with what the pass saw, and the pass has just the entries of its number, all of which it saw
  pub record FitsValue (k : ℕ) (p : PassView E B) (x : X) : Type 0 where
    pub begins : IsPrefix p.view.known.seen (log x)
    pub own : made_by maker k (log x) ≡ p.view.known.mine
    pub shown : made_by maker k p.view.known.seen ≡ p.view.known.mine
    pub based : p.view.base ≡ Some (base x)

  -- all passes fit the value, and each entry of its log is one of theirs
  pub record AllFit (ps : List (PassView E B)) (x : X) : Type 0 where
    pub each : (k : ℕ) (p : PassView E B) → get_elem? ps k ≡ some p → FitsValue k p x
    pub makers : AllByRecursion (λ e. maker e < length ps) (log x)
    pub no_others : (k : ℕ) → length ps ≤ k → made_by maker k (log x) ≡ []
