-- What a world shows of a transfer that is under way in it, where the link loses nothing.
use Rattle.std.specs.Prelude.{◌≡◌, ◌≢◌, ℕ, ◌+◌, ◌*◌, ◌<◌, ◌≤◌, ◌==◌, ◌^◌, false, true, List, [], ◌++◌, length, map, Option, Some, None}
use Rattle.std.specs.List.{AllByRecursion}
use Rattle.link_script.specs.declared.command.Command.{Command}
use Rattle.link_script.specs.declared.report.ReportLine.{ReportLine}
use Rattle.rpc_ids.specs.declared.method.Role.TheVariants.{Server, Client}
use Rattle.rpc_packet.specs.declared.call_name.CallName.{CallName}
use Rattle.rpc_packet.specs.declared.owned.Packet.{Packet}
use Rattle.rpc_packet.specs.declared.packet_type.PacketType.{PacketType}
use Rattle.rpc_packet.specs.declared.packet_type.PacketType.TheVariants.{ClientStream, ServerStream}
use Rattle.rpc_frames.specs.Written.{IsBetweenFrames, IsSendable}
use Rattle.rpc_handlers.specs.declared.event.Memo.{Memo}
use Rattle.rpc_handlers.specs.HandlerRule.{HandlerRule}
use Rattle.rpc_journal.specs.declared.entry.Entry.{Entry}
use Rattle.rpc_journal.specs.declared.setting.Setting.{Setting}
use Rattle.rpc_journal.specs.Calls.{calls}
use Rattle.rpc_journal.specs.Effect.{Opening}
use Rattle.rpc_journal.specs.History.{history}
use Rattle.rpc_journal.specs.Items.{is_done}
use Rattle.rpc_journal.specs.Kinds.{streams_down, streams_up}
use Rattle.history_laws.specs.rounds.Streams.{HasStream, IsAtRest}
use Rattle.transfer_words.specs.Word.{Word}
use Rattle.transfer_words.specs.Spoken.{FitsChunk, text_in}
use Rattle.transfer_resume.specs.declared.side.Side.{Side}
use Rattle.transfer_resume.specs.declared.stage.Stage.{Stage}
use Rattle.transfer_resume.specs.Session.{Service}
use Rattle.transfer_resume.specs.Book.{Book, stage_of}
use Rattle.demo_services.specs.DemoRule.{demo_rule}
use Rattle.demo_services.specs.Transfer.{transfer_memo}
use Rattle.transfer_client.specs.Hearing.{IsOfSession}
use Rattle.transfer_laws.specs.pairs.Pair.{Pair}
use Rattle.link_laws.specs.rounds.Carrying.{carrying}
use Rattle.link_laws.specs.declared.world.limits.TheConstants.{TURN_OF_TIME}
use Rattle.link_laws.specs.world.Setup.{quiet_rule}
use Rattle.link_laws.specs.world.World.{Setup, Tasked, Transfer, World, transferring}

-- the demo services over a link that loses nothing
pub record IsLossless (k : Setup) : Type 0 where
  pub rule : k.rule ≡ demo_rule
  pub server : k.server.role ≡ Server
  pub client : k.client.role ≡ Client
  pub losses : k.losses ≡ []

-- WHERE A TRANSFER SPEAKS, and what stood when it had begun
pub record Places : Type 0 where
  pub session : ℕ
  -- the number of its call at each end, and how that opened
  pub at_server : ℕ
  pub server_opening : Opening
  pub at_client : ℕ
  pub client_opening : Opening
  -- what the sessions of the server's call share, and how many it had before
  pub service : Service
  pub older : ℕ
  -- how many sessions each call of the transfer service had before
  pub had : Side → ℕ
  -- both histories
  pub server : List Entry
  pub client : List Entry
  -- the calls of both ends, with this one
  pub server_calls : List Opening
  pub client_calls : List Opening
  pub coming : List Command
  pub lines : List ReportLine
  -- the packets that were numbered, with the REQUEST of the call, where that is new
  pub numbered : List Packet
  pub times : ℕ

-- the moment of all its turns
abbrev pub moment_at : Places → ℕ
moment_at x = TURN_OF_TIME * x.times

-- the session's number is one, and its call has room for it and streams both ways
pub record ArePlaces (x : Places) : Type 0 where
  pub session : x.session < 2 ^ 32
  pub some_session : (x.session == 0) ≡ false
  pub room : x.older < 256
  pub named : x.client_opening.name ≡ x.server_opening.name
  pub up : streams_up x.client_opening.method.kind ≡ true
  pub down : streams_down x.server_opening.method.kind ≡ true

-- the packets that say a word of the session
abbrev pub packet_saying : PacketType → CallName → ℕ → Word → Packet
packet_saying type name session w = record { ptype = type; name = name; payload = text_in session w; status = 0 }

abbrev pub up_packet : Places → Word → Packet
up_packet x w = packet_saying ClientStream x.client_opening.name x.session w

abbrev pub down_packet : Places → Word → Packet
down_packet x w = packet_saying ServerStream x.server_opening.name x.session w

-- a word on its way is heard by the other end as it was said
pub record GoesUp (x : Places) (w : Word) : Type 0 where
  pub fits : FitsChunk w
  pub heard : IsSendable Server (up_packet x w)

pub record GoesDown (x : Places) (w : Word) : Type 0 where
  pub fits : FitsChunk w
  pub of_session : IsOfSession w
  pub heard : IsSendable Client (down_packet x w)

abbrev pub count_of : Option Stage → ℕ
count_of None = 0
count_of (Some stage) = 1

-- The state of a call of the transfer service in which the session stands so, if it is there: it is the newest, and one of
-- so many.
pub record ServesSession (x : Places) (m : Memo) (stage : Option Stage) : Type 0 where
  pub book : Book
  pub memo : m ≡ transfer_memo book
  pub service : book.service ≡ x.service
  pub stage_is : stage_of x.session book.rows ≡ stage
  pub known : AllByRecursion (λ r. r.id ≤ x.session) book.rows
  pub many : length book.rows ≡ x.older + count_of stage

-- each other stream of an end is as it was
abbrev pub OthersStay : HandlerRule → Setting → ℕ → List Entry → List Entry → Type 0
OthersStay rule set c before after =
    (other : ℕ) (o : Opening) (m : Memo) → other ≢ c → HasStream rule set (history set before) other o m → HasStream rule set (history set after) other o m

module _ (k : Setup) (x : Places) where
  -- the server, with nothing left to do, where the session stands so
  pub record AtServer (h : List Entry) (stage : Option Stage) : Type 0 where
    pub rest : IsAtRest (history k.server h)
    pub memo : Memo
    pub stream : HasStream k.rule k.server (history k.server h) x.at_server x.server_opening memo
    pub serves : ServesSession x memo stage
    pub others : OthersStay k.rule k.server x.at_server x.server h
    pub calls_are : calls (history k.server h) ≡ x.server_calls

  -- the client, with nothing left to do
  pub record AtClient (h : List Entry) : Type 0 where
    pub rest : IsAtRest (history k.client h)
    pub memo : Memo
    pub stream : HasStream quiet_rule k.client (history k.client h) x.at_client x.client_opening memo
    pub undone : is_done (history k.client h) x.at_client ≡ false
    pub others : OthersStay quiet_rule k.client x.at_client x.client h
    pub others_undone : (c : ℕ) → c ≢ x.at_client → is_done (history k.client x.client) c ≡ false → is_done (history k.client h) c ≡ false
    pub calls_are : calls (history k.client h) ≡ x.client_calls

module _ (x : Places) where
  -- the packet says a word of the session, which fits a chunk
  pub record IsSaid (p : Packet) : Type 0 where
    pub type : PacketType
    pub word : Word
    pub is : p ≡ packet_saying type x.client_opening.name x.session word
    pub fits : FitsChunk word

  -- the packets numbered since the transfer began are so many, and each says a word of its session
  pub record HasSaid (numbered : List Packet) (n : ℕ) : Type 0 where
    pub more : List Packet
    pub numbered_are : numbered ≡ x.numbered ++ more
    pub many : length more ≡ n
    pub words : AllByRecursion IsSaid more

  -- what the transfer leaves as it is
  pub record IsKept (big : World) : Type 0 where
    pub coming : big.coming ≡ x.coming
    pub sessions : big.sessions ≡ x.session
    pub times : big.times ≡ x.times

  abbrev pub tasked_with : Transfer → Tasked
  tasked_with t = record { call = x.at_client; session = x.session; transfer = t }

-- The ends and the link: the session stands so at the server, these words are on their way, and so many were said.
pub record PairStands (k : Setup) (x : Places) (big : World) (stage : Option Stage) (ups downs : List Word) (said : ℕ) : Type 0 where
  pub server : AtServer k x big.server stage
  pub client : AtClient k x big.client
  pub to_server : big.to_server ≡ carrying (map (up_packet x) ups)
  pub to_client : big.to_client ≡ carrying (map (down_packet x) downs)
  pub up : AllByRecursion (GoesUp x) ups
  pub down : AllByRecursion (GoesDown x) downs
  pub fed_server : IsBetweenFrames big.fed_server
  pub fed_client : IsBetweenFrames big.fed_client
  pub said_are : HasSaid x big.numbered said
  pub kept : IsKept x big

-- the task is under way, and no line was told since it began
pub record IsUnderWay (x : Places) (t : Transfer) (big : World) : Type 0 where
  pub under : big.under ≡ Some (transferring (tasked_with x t))
  pub lines : big.lines ≡ x.lines

-- THE WORLD SHOWS THIS PAIR
pub record ShowsPair {A : Type 0} (wrap : A → Transfer) (k : Setup) (x : Places) (big : World) (w : Pair A) : Type 0 where
  pub stands : PairStands k x big w.server w.to_server w.to_client w.said
  pub task : IsUnderWay x (wrap w.client) big

-- What stands once its line was told: no command is under way.
pub record Left (k : Setup) (x : Places) (lines : List ReportLine) (big : World) (stage : Option Stage) (ups downs : List Word) (said : ℕ) : Type 0 where
  pub stands : PairStands k x big stage ups downs said
  pub idle : big.under ≡ None
  pub told : big.lines ≡ lines
