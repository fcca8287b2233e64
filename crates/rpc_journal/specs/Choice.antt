-- The ready call that is run first.
use Rattle.std.specs.Prelude.{◌≡◌, ℕ, ◌<◌, ◌≤◌, true, false, List, [], ◌∷◌, ◌⊎◌}
use Rattle.rpc_journal.specs.declared.waiting.Waiting.{Waiting}
use Rattle.rpc_journal.specs.Effect.{Deed}
use Rattle.rpc_journal.specs.Items.{is_ready}
use Rattle.rpc_journal.specs.Queues.{waiting_of}

-- the place of the first of these; 0 where there is none
abbrev pub first_place : List Waiting → ℕ
first_place [] = 0
first_place (w ∷ ws) = w.at

-- the place of the entry that put the oldest waiting event of c
abbrev pub oldest_place : List Deed → ℕ → ℕ
oldest_place ds c = first_place (waiting_of ds c)

-- c's oldest waiting event was put before k's, or by the same entry and c is the lower number
abbrev pub GoesBefore : List Deed → ℕ → ℕ → Type 0
GoesBefore ds c k = (oldest_place ds c < oldest_place ds k) ⊎ ((oldest_place ds c ≡ oldest_place ds k) × (c ≤ k))

-- c is the ready call whose oldest waiting event was put first, the lower number at a tie
pub record IsFirstReady (ds : List Deed) (c : ℕ) : Type 0 where
  pub ready : is_ready ds c ≡ true
  pub first : (k : ℕ) → is_ready ds k ≡ true → GoesBefore ds c k

-- some call is ready
abbrev pub SomeReady : List Deed → Type 0
SomeReady ds = (c : ℕ) × (is_ready ds c ≡ true)

-- no call is ready
abbrev pub NoneReady : List Deed → Type 0
NoneReady ds = (c : ℕ) → is_ready ds c ≡ false
