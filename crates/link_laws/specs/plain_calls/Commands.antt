-- What a command leads to that needs no transfer.
use Rattle.std.specs.Prelude.{◌≡◌, ℕ, suc, false, List, [], ◌∷◌, ◌++◌, slice_get, Some, None}
use Rattle.std.specs.List.{AllByRecursion}
use Rattle.link_io.specs.Resources.{found}
use Rattle.link_script.specs.declared.command.Command.{Command}
use Rattle.link_script.specs.declared.command.Command.TheVariants.{Read, Write, Echo, Count, Sum, Chat, Close}
use Rattle.link_script.specs.declared.report.ReportLine.{ReportLine}
use Rattle.link_script.specs.declared.report.ReportLine.TheVariants as line
use Rattle.link_script.specs.lossy.Link.{loss_of}
use Rattle.rpc_journal.specs.Lawful.{IsLawful}
use Rattle.rpc_packet.specs.declared.owned.Packet.{Packet}
use Rattle.link_laws.specs.world.Reports.{carries_chunk}
use Rattle.link_laws.specs.world.Setup.{client_setting}
use Rattle.link_laws.specs.world.Sound.{AreSendable, NoFlips}
use Rattle.link_laws.specs.world.Turns.{Turns, ending, next_kind}
use Rattle.link_laws.specs.world.World.{Setup, World, client_store}
use Rattle.transfer_resume.specs.declared.side.Side.{Side}
use Rattle.transfer_resume.specs.Book.{Book}
use Rattle.link_laws.specs.plain_calls.Between.{IsClean}

-- both histories are lawful, and each packet that went out is one that the other end hears
pub record HasGoneWell (k : Setup) (w : World) : Type 0 where
  pub server : IsLawful k.server w.server
  pub client : IsLawful k.client w.client
  pub heard : AreSendable k w

-- a run leads from this world to one in which nothing is left but the end, and has gone well there
pub record RunsOn (k : Setup) (w end : World) : Type 0 where
  pub count : ℕ
  pub turns : Turns k count w end
  pub is_last : next_kind end ≡ ending
  pub well : HasGoneWell k end

-- the line tells of the command
abbrev pub IsLineOf : Command → ReportLine → Type 0
IsLineOf (Read resource offset) (line.Read told from status size) = told ≡ resource
IsLineOf (Write resource offset) (line.Write told from status size) = told ≡ resource
IsLineOf (Echo bytes) (line.Echo status answer) = Unit {0}
IsLineOf (Count n) (line.Count status messages) = Unit {0}
IsLineOf (Sum bytes) (line.Sum status answer) = Unit {0}
IsLineOf (Chat bytes) (line.Chat status messages) = Unit {0}
IsLineOf (Close channel) (line.Close told ended) = told ≡ channel
IsLineOf _ _ = ⊥

-- The run passes through a world between two commands, in which the command's line was told, and these commands are still to
-- come.
pub record PassesOn (k : Setup) (fits : Side → Book → Type 0) (w end : World) (sessions : ℕ) (command : Command) (rest : List Command) : Type 0 where
  pub mid : World
  pub count : ℕ
  pub way : Turns k count w mid
  pub more : RunsOn k mid end
  pub clean : IsClean k fits mid
  pub sessions_are : mid.sessions ≡ sessions
  pub coming : mid.coming ≡ rest
  pub told : ReportLine
  pub lines : mid.lines ≡ w.lines ++ told ∷ []
  pub is_of : IsLineOf command told
  -- what was numbered on the way
  pub said : List Packet
  pub numbered : mid.numbered ≡ w.numbered ++ said

-- it does so without a chunk, and no time passes
pub record PassesQuietly (k : Setup) (fits : Side → Book → Type 0) (w end : World) (sessions : ℕ) (command : Command) (rest : List Command) : Type 0 where
  pub passes : PassesOn k fits w end sessions command rest
  pub quiet : AllByRecursion (λ p. carries_chunk p ≡ false) passes.said
  pub times_are : passes.mid.times ≡ w.times

-- calls of demo.Demo
abbrev pub IsPlain : Command → Type 0
IsPlain (Echo bytes) = Unit {0}
IsPlain (Count n) = Unit {0}
IsPlain (Sum bytes) = Unit {0}
IsPlain (Chat bytes) = Unit {0}
IsPlain _ = ⊥

-- the links do nothing to a frame of the run that carries no chunk: the frame of the packet at place n has number n + 1
abbrev pub SparesOthers : Setup → World → Type 0
SparesOthers k end = (n : ℕ) (p : Packet) → slice_get end.numbered n ≡ Some p → carries_chunk p ≡ false → loss_of (suc n) k.losses ≡ None

module _ (k : Setup) (fits : Side → Book → Type 0) where
  -- a plain command leads from one world between two commands to another
  abbrev pub PlainPasses : Type 0
  PlainPasses =
      (w end : World) (command : Command) (rest : List Command) → NoFlips k.losses → SparesOthers k end → k.client ≡ client_setting → IsPlain command → IsClean k fits w
      → w.coming ≡ command ∷ rest → RunsOn k w end → PassesQuietly k fits w end w.sessions command rest

  -- so does a write of a resource that the client doesn't have
  abbrev pub LackingPasses : Type 0
  LackingPasses =
      (w end : World) (resource offset : ℕ) (rest : List Command) → NoFlips k.losses → SparesOthers k end → found resource (client_store k w).full ≡ None → IsClean k fits w
      → w.coming ≡ Write resource offset ∷ rest → RunsOn k w end → PassesQuietly k fits w end w.sessions (Write resource offset) rest

-- what the server keeps of a call of either method is this
abbrev pub KeepsAs : (Side → Book) → Side → Book → Type 0
KeepsAs books side book = book ≡ books side

-- Where the links spare what carries no chunk, a plain command leads from one world between two commands to another, and no chunk
-- is sent for it, whatever the service's handlers answer. What the server keeps of transfers stays as it is.
abbrev pub PlainCommandsPass : Type 0
PlainCommandsPass = (k : Setup) (books : Side → Book) → PlainPasses k (KeepsAs books)

-- so does a write of a resource that the client doesn't have
abbrev pub LackingWritesPass : Type 0
LackingWritesPass = (k : Setup) (books : Side → Book) → LackingPasses k (KeepsAs books)
