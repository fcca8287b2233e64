-- What the reader's pass of the table knows, and what it took from its source.
use Rattle.std.specs.Prelude.{◌≡◌, ◌⊎◌, ◌==◌, ℕ, ◌<◌, ◌≤◌, Bool, true, false, List, ◌∷◌, length, Option, Some, None}
use Rattle.std.specs.Io.KnownBytes.{Consumes, IsAtEnd}
use mathlib.Core.List.{IsPrefix}
use Rattle.link_io.specs.declared.reading.Ending.{Ending}
use Rattle.link_io.specs.declared.reading.Ending.TheVariants.{AtEnd, AtLimit, Failed}
use Rattle.rpc_ids.specs.declared.method.Role.TheVariants.{Client}
use Rattle.rpc_frames.specs.Heard.{heard_packets}
use Rattle.rpc_frames.specs.Listening.{HasHeard, Listening}
use Rattle.rpc_journal.specs.declared.entry.Entry.{Entry}
use Rattle.rpc_journal.specs.declared.entry.EntryKind.{EntryKind}
use Rattle.rpc_journal.specs.declared.entry.EntryKind.TheVariants.{Arrive, EndIn, Halt}
use Rattle.rpc_journal.specs.declared.setting.Setting.{Setting}
use Rattle.rpc_journal.specs.Items.{arrivals}
use Rattle.rpc_schedule.specs.declared.stream.TheConstants.{INPUT_LIMIT}
use Rattle.rpc_shared.specs.session.Crew.{AreOf, Lock, Seat, Stands, is_want}
use Rattle.rpc_shared.specs.session.Sessions.{is_halted}
use Rattle.live_client.specs.Silent.{silent_rule}

-- until the input ends the reader takes packets in, and halts for want
abbrev pub is_feeding : EntryKind → Bool
is_feeding (Arrive p) = true
is_feeding (Halt why) = is_want why
is_feeding _ = false

-- the same with the end of the input
abbrev pub is_readers : EntryKind → Bool
is_readers (Arrive p) = true
is_readers EndIn = true
is_readers (Halt why) = is_want why
is_readers _ = false

-- another seat's entry stands first
pub record IsBehind (h : List Entry) : Type 0 where
  pub first : Entry
  pub rest : List Entry
  pub is : h ≡ first ∷ rest
  pub other : (first.seat == 0) ≡ false

-- the pass of the reader, which stands behind another's entry
pub record Reader (test : EntryKind → Bool) (r : Lock) (p : Seat) : Type 0 where
  pub stands : Stands silent_rule r p
  pub number : p.view.known.number ≡ 0
  pub kinds : AreOf test p.view.known.mine
  pub behind : IsBehind p.view.known.seen

-- the reader's listener has heard these bytes, and the packets in them arrived
pub record Fed (l : Listening) (p : Seat) (bytes : List ℕ) : Type 0 where
  pub role : l.role ≡ Client
  pub listener : HasHeard l bytes
  pub arrived : arrivals p.view.known.mine ≡ heard_packets Client bytes

-- it has heard a beginning of these bytes, and what arrived is a beginning of the packets in that
pub record Cut (l : Listening) (p : Seat) (bytes : List ℕ) : Type 0 where
  pub fed : List ℕ
  pub within : IsPrefix fed bytes
  pub role : l.role ≡ Client
  pub listener : HasHeard l fed
  pub arrived : IsPrefix (arrivals p.view.known.mine) (heard_packets Client fed)

-- What the reader took from its source, and what became of it: all of it was fed, or the table is halted. Without an ending
-- the reader stopped at a halt.
pub record HasRead (set : Setting) (left_old left_new : Option (List ℕ)) (ending : Option Ending) (read : ℕ) (l : Listening) (p : Seat) : Type 0 where
  pub bytes : List ℕ
  pub taken : Consumes left_old left_new bytes
  pub count : length bytes ≡ read
  pub within : read ≤ INPUT_LIMIT
  pub at_end : ending ≡ Some AtEnd → IsAtEnd left_new
  pub at_limit : ending ≡ Some AtLimit → read ≡ INPUT_LIMIT
  pub below : (ending ≡ Some AtEnd) ⊎ (ending ≡ Some Failed) → read < INPUT_LIMIT
  pub cut : Cut l p bytes
  pub cause : Fed l p bytes ⊎ (is_halted set p.view.known.seen ≡ true)
  pub stopped : ending ≡ None → is_halted set p.view.known.seen ≡ true
