-- A frame comes to an end of the link: what is heard with it arrives there, or stops at an entry without room.
use Rattle.std.specs.Prelude.{◌≡◌, ℕ, List, [], ◌∷◌, ◌++◌, Option}
use Rattle.rpc_ids.specs.declared.method.Role.{Role}
use Rattle.rpc_ids.specs.declared.method.Role.TheVariants.{Server, Client}
use Rattle.rpc_packet.specs.declared.owned.Packet.{Packet}
use Rattle.rpc_frames.specs.Heard.{heard_packets}
use Rattle.rpc_handlers.specs.HandlerRule.{HandlerRule}
use Rattle.rpc_journal.specs.declared.entry.Entry.{Entry}
use Rattle.rpc_journal.specs.declared.entry.EntryKind.TheVariants.{Arrive}
use Rattle.rpc_journal.specs.declared.setting.Setting.{Setting}
use Rattle.rpc_journal.specs.History.{adding}
use Rattle.rpc_schedule.specs.Schedule.{Settles, input_seat}
use Rattle.link_laws.specs.world.Client.{ClientTakes}
use Rattle.link_laws.specs.world.Stops.{ClientTakingStops, ServerTakingStops}
use Rattle.link_laws.specs.world.World.{Tasked}

-- each of these packets arrives at the server, and all is settled behind it by the one schedule of its thread
abbrev pub ServerTakes : HandlerRule → Setting → List Packet → List Entry → List Entry → Type 0
ServerTakes rule set [] before after = after ≡ before
ServerTakes rule set (p ∷ ps) before after =
    (mid : List Entry) × Settles rule set (adding before input_seat (Arrive p)) mid × ServerTakes rule set ps mid after

-- BEHIND THESE BYTES A FRAME COMES to the end of this role, and of the packets that are heard with it this holds: of those heard in
-- all bytes so far behind those heard without the frame
pub record ComesWith (role : Role) (fed frame : List ℕ) (Holds : List Packet → Type 0) : Type 0 where
  pub packets : List Packet
  pub heard : heard_packets role (fed ++ frame) ≡ heard_packets role fed ++ packets
  pub holds : Holds packets

-- they arrive at the server
abbrev pub HeardAtServer : HandlerRule → Setting → List Entry → List Entry → List ℕ → List ℕ → Type 0
HeardAtServer rule set before after fed frame = ComesWith Server fed frame (λ packets. ServerTakes rule set packets before after)

-- they arrive at the client, at a moment, while this task speaks
abbrev pub HeardAtClient : Setting → ℕ → List Entry → Option Tasked → List Entry → Option Tasked → List ℕ → List ℕ → Type 0
HeardAtClient set now before task after next fed frame = ComesWith Client fed frame (λ packets. ClientTakes set now packets before task after next)

-- with them the server stops at an entry without room
abbrev pub ServerHearingStops : HandlerRule → Setting → List Entry → List ℕ → List ℕ → Type 0
ServerHearingStops rule set before fed frame = ComesWith Server fed frame (λ packets. ServerTakingStops rule set packets before)

-- and so does the client
abbrev pub ClientHearingStops : Setting → ℕ → List Entry → Option Tasked → List ℕ → List ℕ → Type 0
ClientHearingStops set now before task fed frame = ComesWith Client fed frame (λ packets. ClientTakingStops set now packets before task)
