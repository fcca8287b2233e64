-- Which statuses a run can end with where no device fails.
use Rattle.std.specs.Prelude.{◌≡◌, ◌≢◌, ◌⊎◌, ℕ, suc, ◌<◌, List, ◌++◌, length, take, Option, Some, Err}
use Rattle.std.specs.List.{AllByRecursion}
use mathlib.Core.List.{IsPrefix}
use Rattle.link_io.specs.declared.why.Why.TheVariants.{JournalLimit}
use Rattle.link_io.specs.Links.{Ends}
use Rattle.link_io.specs.Stored.{Stored, shelf_of}
use Rattle.rpc_ids.specs.declared.method.Role.TheVariants.{Server}
use Rattle.rpc_frames.specs.Heard.{heard_packets}
use Rattle.rpc_journal.specs.declared.entry.Entry.{Entry}
use Rattle.rpc_schedule.specs.declared.stream.TheConstants.{INPUT_LIMIT}
use Rattle.rpc_schedule.specs.OneThread.{HasRoom, IsFullBeginning, IsOneThreadHistory}
use Rattle.demo_services.specs.DemoRule.{demo_rule}
use Rattle.live_client.specs.declared.ask.LiveAsk.{LiveAsk}
use Rattle.run_report.specs.declared.live_report.LiveLine.{LiveLine}
use Rattle.pw_run.specs.declared.client_command.ClientCommand.{ClientCommand}
use Rattle.pw_run.specs.declared.client_text.Reported.TheVariants.{Line}
use Rattle.pw_run.specs.declared.command.Command.{Command}
use Rattle.pw_run.specs.declared.command.Command.TheVariants.{Replay, Text, Load, Dump}
use Rattle.pw_run.specs.declared.live_command.LiveCommand.{LiveCommand}
use Rattle.pw_run.specs.declared.live_command.LiveCommand.TheVariants.{Crew, Serve, Host, Bridge, Client}
use Rattle.pw_run.specs.declared.outcome.Outcome.TheVariants as outcome
use Rattle.pw_run.specs.declared.text_command.TextCommand.{TextCommand}
use Rattle.pw_run.specs.declared.told.Found.TheVariants.{BadLine, PastFrames, PastJournal}
use Rattle.pw_run.specs.declared.way.Way.TheVariants as way
use Rattle.pw_run.specs.Client.{RunsClient, asked}
use Rattle.pw_run.specs.Crew.{RunsCrew}
use Rattle.pw_run.specs.Devices.{Devices}
use Rattle.pw_run.specs.Live.{DidLive}
use Rattle.pw_run.specs.Outcome.{code_of}
use Rattle.pw_run.specs.Recorded.{Did, EndsWith}
use Rattle.pw_run.specs.Serve.{Listens, RunsConnection, ServesAll}
use Rattle.pw_run.specs.Tells.{Tells}
use Rattle.pw_run.specs.Texts.{limit_of}
use Rattle.run_laws.specs.statuses.CalmCrews.{setting_over}
use Rattle.run_laws.specs.statuses.ClientEnds.{Asks}

-- The status blames no device. Each that does comes only where that device counted a fault in the run.
pub record IsBlameless (status : ℕ) : Type 0 where
  pub source : status ≢ code_of outcome.SourceFault
  pub sink : status ≢ code_of outcome.SinkFault
  pub store : status ≢ code_of outcome.StoreFault
  pub linker : status ≢ code_of outcome.LinkFault

-- the run ended well, or wanted memory
abbrev pub IsWell : ℕ → Type 0
IsWell status = (status ≡ code_of outcome.Done) ⊎ (status ≡ code_of outcome.NoMemory)

-- the run that a text asks for meets none of the limits of runs
abbrev pub HasShortRun : TextCommand → List ℕ → Type 0
HasShortRun command input = (told : List ℕ) → (Tells command input told PastFrames → ⊥) × (Tells command input told PastJournal → ⊥)

-- Of a known stream, over a known store, the bytes are fewer than the limit, and of no beginning of them the packets fill the journal.
pub record IsShortStream (left : Option (List ℕ)) (held : Option Stored) : Type 0 where
  pub input : List ℕ
  pub left_is : left ≡ Some input
  pub st : Stored
  pub held_is : held ≡ Some st
  pub short : length input < INPUT_LIMIT
  pub room : (bytes : List ℕ) (h : List Entry) → IsPrefix bytes input → IsFullBeginning demo_rule (setting_over st) (heard_packets Server bytes) h → ⊥

-- A known text is shorter than the limit, and the run that it asks for meets none.
pub record IsShortText (command : TextCommand) (left : Option (List ℕ)) : Type 0 where
  pub input : List ℕ
  pub left_is : left ≡ Some input
  pub short : length input < limit_of command
  pub runs : HasShortRun command input

-- No limit is met by a recorded command over what is left of this input, and over this store. A text and a dump ask for no store, and a
-- load for neither.
abbrev pub IsWithinLimits : Command → Option (List ℕ) → Option Stored → Type 0
IsWithinLimits (Replay form) left held = IsShortStream left held
IsWithinLimits (Text command) left held = IsShortText command left
IsWithinLimits (Load calls seed) left held = Unit {0}
IsWithinLimits (Dump names) left held = (input : List ℕ) × (left ≡ Some input) × (length input < INPUT_LIMIT)

-- no line of a text is bad
abbrev pub HasGoodLines : Command → Option (List ℕ) → Type 0
HasGoodLines (Text command) left = (input told : List ℕ) → left ≡ Some input → Tells command input told BadLine → ⊥
HasGoodLines _ left = Unit {0}

-- Where no line is bad, no limit is met and no device fails, a recorded command ends well, or wants memory.
abbrev pub RecordedEndWell : Type 0
RecordedEndWell =
    (command : Command) (status : ℕ) (left_old left_new written_old written_new : Option (List ℕ)) (store_old store_new : Option Stored)
    → EndsWith status (Did command left_old left_new written_old written_new store_old store_new)
    → IsBlameless status → IsWithinLimits command left_old store_old → HasGoodLines command left_old → IsWell status

-- what was left of the input, where that is known, is shorter than this
abbrev pub IsShorter : ℕ → Option (List ℕ) → Type 0
IsShorter limit left = (input : List ℕ) → left ≡ Some input → length input < limit

-- over a known store, of the history of one thread that hears the packets of a known stream each Arrive and each Start has room
abbrev pub HasRoomIn : Option (List ℕ) → Option Stored → Type 0
HasRoomIn left held =
    (input : List ℕ) (st : Stored) (h : List Entry) → left ≡ Some input → held ≡ Some st
    → IsOneThreadHistory demo_rule (setting_over st) (heard_packets Server input) h → HasRoom h

-- What ended well met no limit.
abbrev pub HadRoom : Command → Option (List ℕ) → Option Stored → Type 0
HadRoom (Replay form) left held = IsShorter INPUT_LIMIT left × HasRoomIn left held
HadRoom (Text command) left held = IsShorter (limit_of command) left
HadRoom (Load calls seed) left held = Unit {0}
HadRoom (Dump names) left held = IsShorter INPUT_LIMIT left

abbrev pub RecordedHadRoom : Type 0
RecordedHadRoom =
    (command : Command) (status : ℕ) (left_old left_new written_old written_new : Option (List ℕ)) (store_old store_new : Option Stored)
    → EndsWith status (Did command left_old left_new written_old written_new store_old store_new)
    → status ≡ code_of outcome.Done → HadRoom command left_old store_old

-- The session of a run of `crew` was halted, since its journal was full.
pub record CrewFills (workers : ℕ) (before after : Devices) : Type 0 where
  pub run : RunsCrew workers before after outcome.JournalLimit
  pub full : run.why ≡ JournalLimit

-- So was the session of the last connection of a run of `serve`.
pub record ServeFills (workers connections : ℕ) (before after : Devices) : Type 0 where
  pub listening : Devices
  pub listened : Listens before listening
  pub served : ℕ
  pub few : served < connections
  pub between : Devices
  pub first : ServesAll way.Serve workers served listening between
  pub run : RunsConnection way.Serve workers (suc served) between after outcome.JournalLimit
  pub full : run.why ≡ JournalLimit

-- So was a client.
pub record ClientFills (command : ClientCommand) (before after : Devices) : Type 0 where
  pub asks : LiveAsk
  pub by : Asks command before asks
  pub run : RunsClient (Line command) asks before after outcome.JournalLimit
  pub full : run.did.why ≡ JournalLimit

-- a run whose journal was full has its own status
abbrev pub IsFull : ℕ → Type 0
IsFull status = status ≡ code_of outcome.JournalLimit

-- How a command on threads ends where no device fails and no input is too long. A limit of a connection doesn't end `host`. What a client was asked may also end with another
-- status than OK.
abbrev pub EndsLive : LiveCommand → Devices → Devices → ℕ → Type 0
EndsLive (Crew workers) before after status = IsWell status ⊎ (IsFull status × CrewFills workers before after)
EndsLive (Serve workers connections) before after status = IsWell status ⊎ (IsFull status × ServeFills workers connections before after)
EndsLive (Host workers) before after status = IsWell status
EndsLive (Bridge at_right at_left) before after status = IsWell status
EndsLive (Client command) before after status =
    (IsWell status ⊎ (status ≡ code_of outcome.NotOkay)) ⊎ (IsFull status × ClientFills command before after)

-- each of these ends of links gives fewer bytes than an input may have
abbrev pub AreShort : List Ends → Type 0
AreShort links = AllByRecursion (λ pair. length pair.0 < INPUT_LIMIT) links

-- the links to come are known, and each of the first so many gives fewer
abbrev pub HasShortLinks : ℕ → Devices → Type 0
HasShortLinks count before = (links : List Ends) × (before.links.coming ≡ Some links) × AreShort (take count links)

-- over a known store a client is asked nothing, so that it makes no link
pub record AsksNothing (command : ClientCommand) (before : Devices) : Type 0 where
  pub st : Stored
  pub held_is : before.held ≡ Some st
  pub line : LiveLine
  pub unfit : asked command (shelf_of st) ≡ Err line

-- the inputs that a command on threads may read are known, and shorter than the limit; those of `host` need not be
abbrev pub HasShortInputs : LiveCommand → Devices → Type 0
HasShortInputs (Crew workers) before = (input : List ℕ) × (before.left ≡ Some input) × (length input < INPUT_LIMIT)
HasShortInputs (Serve workers connections) before = HasShortLinks connections before
HasShortInputs (Host workers) before = Unit {0}
HasShortInputs (Bridge at_right at_left) before = HasShortLinks 2 before
HasShortInputs (Client command) before = HasShortLinks 1 before ⊎ AsksNothing command before

abbrev pub LiveEndWell : Type 0
LiveEndWell =
    (command : LiveCommand) (status : ℕ) (before after : Devices) → EndsWith status (DidLive command before after)
    → IsBlameless status → HasShortInputs command before → EndsLive command before after status

-- a crew that ended well met no limit
abbrev pub CrewHadRoom : Type 0
CrewHadRoom =
    (workers status : ℕ) (before after : Devices) (input : List ℕ) → EndsWith status (DidLive (Crew workers) before after)
    → status ≡ code_of outcome.Done → before.left ≡ Some input → length input < INPUT_LIMIT

-- so many links came first, and each of them gave fewer bytes than an input may have
pub record AreShortUpTo (count : ℕ) (links : List Ends) : Type 0 where
  pub first : List Ends
  pub others : List Ends
  pub split : links ≡ first ++ others
  pub many : length first ≡ count
  pub short : AreShort first

-- and so is each connection of a run of `serve` that ended well
abbrev pub ServeHadRoom : Type 0
ServeHadRoom =
    (workers connections status : ℕ) (before after : Devices) (links : List Ends) → EndsWith status (DidLive (Serve workers connections) before after)
    → status ≡ code_of outcome.Done → before.links.coming ≡ Some links → AreShortUpTo connections links

-- and so are both links of a bridge that ended well
abbrev pub BridgeHadRoom : Type 0
BridgeHadRoom =
    (at_right at_left status : ℕ) (before after : Devices) (links : List Ends) → EndsWith status (DidLive (Bridge at_right at_left) before after)
    → status ≡ code_of outcome.Done → before.links.coming ≡ Some links → AreShortUpTo 2 links

-- and so is the link of a client that ended well
abbrev pub ClientHadRoom : Type 0
ClientHadRoom =
    (command : ClientCommand) (status : ℕ) (before after : Devices) (links : List Ends) → EndsWith status (DidLive (Client command) before after)
    → status ≡ code_of outcome.Done → before.links.coming ≡ Some links → AreShortUpTo 1 links
