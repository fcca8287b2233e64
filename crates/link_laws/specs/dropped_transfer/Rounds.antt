-- The rounds of a transfer in a run: what lies between two turns of time.
use Rattle.std.specs.Prelude.{◌≡◌, ℕ, suc, ◌+◌, ◌<◌, ◌≤◌, true, List, length, slice_get, Some}
use Rattle.link_script.specs.declared.command.Command.{Command}
use Rattle.rpc_packet.specs.declared.owned.Packet.{Packet}
use Rattle.transfer_laws.specs.losses.Rounds.{LOSSY_ROUNDS}
use Rattle.link_laws.specs.world.Starts.{starts}
use Rattle.link_laws.specs.world.Turns.{MakesTurn, Turns, next_kind, starting}
use Rattle.link_laws.specs.world.World.{Setup, World, first_world}
use Rattle.link_laws.specs.lossless_transfer.Chunks.{is_chunk_of}
use Rattle.link_laws.specs.dropped_transfer.Dropped.{is_dropped, lost_numbers}

-- On the way from this world the packet at this place was numbered in a turn behind which so many turns of time had passed in all.
pub record IsNumberedAt (k : Setup) (start : World) (place times : ℕ) : Type 0 where
  pub count : ℕ
  pub before : World
  pub after : World
  pub way : Turns k count start before
  pub turn : MakesTurn k before after
  pub later : length before.numbered ≤ place
  pub there : place < length after.numbered
  pub times_are : after.times ≡ times

-- ONE OF THE FIRST FOUR ROUNDS IS CLEAN of the transfer that starts in this world: no frame is dropped in it that carries a chunk of the
-- session. Round 0 begins with the transfer, and each other one with a turn of time.
pub record HasCleanRound (k : Setup) (session : ℕ) (start now : World) : Type 0 where
  pub number : ℕ
  pub early : number ≤ LOSSY_ROUNDS
  pub clean : (place : ℕ) (p : Packet) → slice_get now.numbered place ≡ Some p → is_chunk_of session p ≡ true → is_dropped k (suc place) ≡ true
      → IsNumberedAt k start place (start.times + number) → ⊥

-- it is so, or no more chunks of the session are dropped than rounds may be lossy
pub data IsSpared (k : Setup) (session : ℕ) (start now : World) : Type 0 where
  by_round : HasCleanRound k session start now → IsSpared k session start now
  by_number : length (lost_numbers k session now) ≤ LOSSY_ROUNDS → IsSpared k session start now

-- EACH TRANSFER BEFORE THE COMMAND WITH THIS NUMBER IS SPARED SO: each command that begins a session, which is the next one, as fewer lines
-- have been told.
abbrev pub AreSparedBefore : ℕ → Setup → List Command → World → Type 0
AreSparedBefore number k commands now =
    (count : ℕ) (start : World) (command : Command) (rest : List Command) → Turns k count (first_world commands) start → next_kind start ≡ starting command rest
    → (starts k start command).sessions ≡ start.sessions + 1 → length start.lines < number → IsSpared k (start.sessions + 1) start now

-- EACH TRANSFER OF THE RUN IS
abbrev pub AreSpared : Setup → List Command → World → Type 0
AreSpared k commands now =
    (count : ℕ) (start : World) (command : Command) (rest : List Command) → Turns k count (first_world commands) start → next_kind start ≡ starting command rest
    → (starts k start command).sessions ≡ start.sessions + 1 → IsSpared k (start.sessions + 1) start now
