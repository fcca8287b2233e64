-- What a world shows of a transfer that is under way in it, where the link drops frames and keeps the others in order.
use Rattle.std.specs.Prelude.{◌≡◌, ℕ, suc, ◌*◌, ◌<◌, false, true, List, map, count_by, slice_get, Option, Some, None}
use Rattle.std.specs.List.{AllByRecursion}
use Rattle.link_script.specs.declared.report.ReportLine.{ReportLine}
use Rattle.rpc_packet.specs.declared.owned.Packet.{Packet}
use Rattle.rpc_packet.specs.declared.packet_type.PacketType.{PacketType}
use Rattle.rpc_frames.specs.Written.{IsBetweenFrames}
use Rattle.demo_services.specs.Transfer.{transfer_memo}
use Rattle.history_laws.specs.messages.Messages.{is_stream}
use Rattle.transfer_resume.specs.declared.stage.Stage.{Stage}
use Rattle.transfer_resume.specs.Session.{Row}
use Rattle.transfer_words.specs.Spoken.{FitsChunk}
use Rattle.transfer_words.specs.Word.{Word}
use Rattle.transfer_laws.specs.losses.Drops.{Lost, LossyPair}
use Rattle.link_laws.specs.declared.world.limits.TheConstants.{TURN_OF_TIME}
use Rattle.link_laws.specs.rounds.Carrying.{carrying}
use Rattle.link_laws.specs.world.World.{Setup, Transfer, World}
use Rattle.link_laws.specs.lossless_transfer.Chunks.{is_chunk_of}
use Rattle.link_laws.specs.lossless_transfer.Shows.{AtClient, AtServer, GoesUp, IsKept, IsUnderWay, Places, moment_at, packet_saying, up_packet}
use Rattle.link_laws.specs.dropped_transfer.Dropped.{is_dropped}
use Rattle.link_laws.specs.dropped_transfer.Passing.{PassDown, Passing, own_words, passing_packet}
use Rattle.link_laws.specs.dropped_transfer.Rounds.{IsNumberedAt}
use Rattle.link_laws.specs.dropped_transfer.Sessions.{book_with}

-- so many words of this session were said in these packets, and none of a later one
pub record HasNumbered (session : ℕ) (numbered : List Packet) (said : ℕ) : Type 0 where
  pub words : count_by (is_chunk_of session) numbered ≡ said
  pub none_later : AllByRecursion (λ p. (later : ℕ) → session < later → is_chunk_of later p ≡ false) numbered

-- The ends and the link: the session stands so at the server, beside these older ones of its call; these words are on their way
-- to the server, and this to the client; so many words were said.
pub record StandsDropping (k : Setup) (x : Places) (older : List Row) (big : World) (stage : Option Stage) (ups : List Word) (downs : List Passing) (said : ℕ) : Type 0 where
  pub server : AtServer k x big.server stage
  pub sessions : server.memo ≡ transfer_memo (book_with x older stage)
  pub client : AtClient k x big.client
  pub to_server : big.to_server ≡ carrying (map (up_packet x) ups)
  pub to_client : big.to_client ≡ carrying (map (passing_packet x) downs)
  pub up : AllByRecursion (GoesUp x) ups
  pub down : PassDown k x downs
  pub fed_server : IsBetweenFrames big.fed_server
  pub fed_client : IsBetweenFrames big.fed_client
  pub said_are : HasNumbered x.session big.numbered said
  pub kept : IsKept x big

-- the word was said by one of the ends in a frame that is dropped, on the way from this world, at its moment
pub record IsLostIn (k : Setup) (x : Places) (start big : World) (l : Lost) : Type 0 where
  pub place : ℕ
  pub type : PacketType
  pub message : is_stream type ≡ true
  pub there : slice_get big.numbered place ≡ Some (packet_saying type x.client_opening.name x.session l.word)
  pub dropped : is_dropped k (suc place) ≡ true
  pub fits : FitsChunk l.word
  pub times : ℕ
  pub numbered : IsNumberedAt k start place times
  pub moment : l.moment ≡ TURN_OF_TIME * times

-- THE WORLD SHOWS THIS PAIR, at its moments; what was lost in it was dropped on the way from the start
pub record ShowsLossy {A : Type 0} (wrap : A → Transfer) (k : Setup) (x : Places) (older : List Row) (downs : List Passing) (start big : World) (w : LossyPair A) : Type 0 where
  pub stands : StandsDropping k x older big w.pair.server w.pair.to_server downs w.pair.said
  pub own : own_words downs ≡ w.pair.to_client
  pub task : IsUnderWay x (wrap w.pair.client) big
  pub now : w.now ≡ moment_at x
  pub time : w.time ≡ x.service.time
  pub lost : AllByRecursion (IsLostIn k x start big) w.lost

-- what stands once its line was told: no command is under way
pub record LeftDropping (k : Setup) (x : Places) (older : List Row) (lines : List ReportLine) (big : World) (stage : Option Stage) (ups : List Word) (downs : List Passing) (said : ℕ) : Type 0 where
  pub stands : StandsDropping k x older big stage ups downs said
  pub idle : big.under ≡ None
  pub told : big.lines ≡ lines
