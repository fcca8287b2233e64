-- What contracts see of the bells, of one bell and of the ear, and what the calls say.
use Rattle.std.specs.Prelude.{◌≡◌, ◌≢◌, ℕ, ◌+◌, ◌%◌, ◌^◌, ◌<◌, ◌≤◌, true, false, List, [], ◌∷◌, length, Some, slice_get}
use Rattle.atomic_table.specs.Seated.{TableId}
use Rattle.atomic_table.specs.declared.shared.Seat.{Seat}
use Rattle.task_core.specs.declared.bells.view.Look.{Look}
use Rattle.task_core.specs.declared.bells.view.View.{View}
use Rattle.task_core.specs.bells.Rings.{times, last_total}

-- which table of words it is, with a word for each task, and how many bells were made for it
pub record Tower : Type 0 where
  pub table : TableId
  pub bells : ℕ

-- a bell: whose it is, and the keys that it rang, the newest first
pub record Rung : Type 0 where
  pub table : TableId
  pub rings : List ℕ

-- the ear: whose it is, its loads, the newest first, and how many bells were made with it
pub record Heard : Type 0 where
  pub table : TableId
  pub looks : List Look
  pub bells : ℕ

abbrev pub IsBellSeat : Seat ℕ View → Type 0
IsBellSeat s = (s.me.0.is_ear ≡ false) × (s.me.0.is_bell ≡ true) × (s.me.1 ≡ [])

abbrev pub IsEarSeat : Seat ℕ View → Type 0
IsEarSeat s = (s.me.0.is_ear ≡ true) × (s.me.0.rings ≡ []) × (s.me.0.back ≡ 0) × (s.me.1 ≡ [])

-- how often all these bells rang the key
abbrev pub rung_by : ℕ → List Rung → ℕ
rung_by key [] = 0
rung_by key (b ∷ bs) = times key b.rings + rung_by key bs

-- all are bells of this table
abbrev pub AreOf : TableId → List Rung → Type 0
AreOf table [] = Unit {0}
AreOf table (b ∷ bs) = (b.table ≡ table) × AreOf table bs

-- the same, and they have not rung
abbrev pub AreNew : TableId → List Rung → Type 0
AreNew table [] = Unit {0}
AreNew table (b ∷ bs) = (b.table ≡ table) × (b.rings ≡ []) × AreNew table bs

-- A load of this key's word by the ear. The word is the total modulo 2^64, and no later load finds less.
pub record GivesTotal (key : ℕ) (old : Heard) (word : ℕ) (new : Heard) : Type 0 where
  pub total : ℕ
  pub is : word ≡ total % 2 ^ 64
  pub adds : new ≡ record old { looks = record { key = key; total = total } ∷ old.looks }
  pub no_less : (t : ℕ) → last_total key old.looks ≡ Some t → t ≤ total

-- each word is how often its key was rung by all bells, modulo 2^64
abbrev pub HasSums : List Rung → List ℕ → Type 0
HasSums bells words = (key word : ℕ) → slice_get words key ≡ Some word → word ≡ rung_by key bells % 2 ^ 64

-- no load found more than was rung; and where the key was rung after it, fewer than 2^64 times, the word is another
abbrev pub NoneLost : List Look → List Rung → List ℕ → Type 0
NoneLost looks bells words = (i : ℕ) (look : Look) → slice_get looks i ≡ Some look
    → (look.total ≤ rung_by look.key bells)
    × ((word : ℕ) → slice_get words look.key ≡ Some word → look.total < rung_by look.key bells → rung_by look.key bells < look.total + 2 ^ 64 → word ≢ look.total % 2 ^ 64)

-- the ear has taken in all these bells
pub record IsGathered (v : View) (bells : List Rung) (w : View) : Type 0 where
  pub is_ear : w.is_ear ≡ v.is_ear
  pub looks : w.looks ≡ v.looks
  pub made : w.made ≡ v.made
  pub back : w.back ≡ v.back + length bells
  pub rings : (key : ℕ) → times key w.rings ≡ rung_by key bells + times key v.rings
