-- What a user of the table keeps of its passes from call to call.
use Rattle.std.specs.Prelude.{◌≡◌, ℕ, List}
use mathlib.Core.Option.{some}
use lib.ListN.{get_elem?}
use Rattle.turn_cell.specs.Passes.{IsIdle, LockView, PassView}
use Rattle.rpc_journal.specs.declared.entry.Entry.{Entry}
use Rattle.rpc_journal.specs.declared.setting.Setting.{Setting}
use Rattle.rpc_journal.specs.Conditions.{IsInputOpen}
use Rattle.rpc_shared.specs.Steps.{IsOwn}

-- a pass that may make a call, and may come back to the table
pub record IsSeat (r : LockView Setting) (p : PassView Entry Setting) : Type 0 where
  pub own : IsOwn r p
  pub idle : IsIdle r p.view.known.number p

-- pass 0, while the input is open
pub record IsFeeder (r : LockView Setting) (p : PassView Entry Setting) : Type 0 where
  pub seat : IsSeat r p
  pub open_input : IsInputOpen r.base p.view.known.seen p.view.known.number

-- the four passes of a table
pub record AreFour (r : LockView Setting) (reader writer worker other : PassView Entry Setting) : Type 0 where
  pub reader_is : IsFeeder r reader
  pub writer_is : IsSeat r writer
  pub worker_is : IsSeat r worker
  pub other_is : IsSeat r other

-- what holds of each pass, by its place
abbrev pub AreEach : (ℕ → PassView Entry Setting → Type 0) → List (PassView Entry Setting) → Type 0
AreEach Holds ps = (k : ℕ) (p : PassView Entry Setting) → get_elem? ps k ≡ some p → Holds k p
