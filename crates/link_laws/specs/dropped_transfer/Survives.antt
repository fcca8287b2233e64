-- A transfer survives three lossy rounds in a run over a link that drops frames.
use Rattle.std.specs.Prelude.{◌≡◌, ◌⊎◌, ℕ, ◌+◌, ◌*◌, ◌<◌, ◌≤◌, ◌^◌, List, [], ◌∷◌, ◌++◌, codes, length, Option, Some, None, Err}
use Rattle.link_io.specs.Resources.{first_of}
use Rattle.link_script.specs.declared.command.Command.{Command}
use Rattle.rpc_ids.specs.Names.{name_id}
use Rattle.rpc_ids.specs.declared.Status.{Status}
use Rattle.rpc_ids.specs.declared.Status.TheVariants.{Okay}
use Rattle.rpc_handlers.specs.declared.event.Event.TheVariants.{Request as Asked}
use Rattle.rpc_journal.specs.declared.entry.Entry.{Entry}
use Rattle.transfer_base.specs.declared.limits.TheConstants.{MAX_RESOURCE, TIMEOUT}
use Rattle.transfer_resume.specs.declared.side.Side.TheVariants.{Read, Write}
use Rattle.transfer_resume.specs.declared.stage.Stage.{Stage}
use Rattle.transfer_resume.specs.Opening.{agreed_offset, offer_of}
use Rattle.transfer_resume.specs.Session.{Row}
use Rattle.transfer_client.specs.Read.{new_download}
use Rattle.transfer_client.specs.Write.{new_upload}
use Rattle.demo_services.specs.Transfer.{transfer_memo}
use Rattle.transfer_laws.specs.pairs.EndsWell.{IsTuning, read_ended, read_refused, write_ended}
use Rattle.transfer_laws.specs.losses.Rounds.{LOSSY_ROUNDS}
use Rattle.transfer_laws.specs.losses.Survives.{IsSettled}
use Rattle.link_laws.specs.declared.world.limits.TheConstants.{TURN_OF_TIME}
use Rattle.link_laws.specs.world.World.{Setup, Transfer, World, reads, writes}
use Rattle.link_laws.specs.lossless_transfer.Begins.{AsksClient, BeginsOnNew, BeginsOnOld}
use Rattle.link_laws.specs.world.Lines.{line_telling}
use Rattle.link_laws.specs.lossless_transfer.Finishes.{Passes, ReadFits, RunsOut}
use Rattle.link_laws.specs.lossless_transfer.Shows.{Places, moment_at}
use Rattle.link_laws.specs.dropped_transfer.Dropped.{DropsChunks}
use Rattle.link_laws.specs.dropped_transfer.Rounds.{IsSpared}
use Rattle.link_laws.specs.dropped_transfer.Sessions.{IsSetForDrops, at_turn, book_with}
use Rattle.link_laws.specs.dropped_transfer.Shows.{HasNumbered, LeftDropping}

-- in a call that both ends have, whose older sessions at the server are these
pub record OpensThere (k : Setup) (x : Places) (older : List Row) (big : World) (command : Command) (t : Transfer) : Type 0 where
  pub begins : BeginsOnOld k x big command t
  pub sessions : begins.server.memo ≡ transfer_memo (book_with x older None)

-- in a new call, which has no older ones
pub record OpensAnew (k : Setup) (x : Places) (older : List Row) (big : World) (command : Command) (t : Transfer) : Type 0 where
  pub begins : BeginsOnNew k x big command t
  pub none : older ≡ []
  pub sessions : k.rule.next (k.rule.first k.server.seed begins.method) (Asked []) ≡ transfer_memo (book_with x [] None)

-- THE COMMAND BEGINS THIS TRANSFER. No word of its session was said before.
pub record BeginsDropping (k : Setup) (x : Places) (older : List Row) (big : World) (t : Transfer) : Type 0 where
  pub command : Command
  pub asks : AsksClient command
  pub how : OpensThere k x older big command t ⊎ OpensAnew k x older big command t
  pub numbered : HasNumbered x.session x.numbered 0

-- THE LINE OF THIS TRANSFER WAS TOLD, with this status, at most three turns of time after its beginning. Nothing is on its way,
-- and its session has settled as the older ones have.
pub record HasSurvived (k : Setup) (x : Places) (t : Transfer) (status : Status) (mid : World) : Type 0 where
  pub bytes : ℕ
  pub times : ℕ
  pub few : times ≤ x.times + LOSSY_ROUNDS
  -- the last Tick, and the server's history behind it
  pub time : ℕ
  pub past : time ≤ TURN_OF_TIME * times
  pub server : List Entry
  pub older : List Row
  pub set : IsSetForDrops k (at_turn x time times server) older
  pub session : Option Stage
  pub settled : IsSettled session
  pub said : ℕ
  pub left : LeftDropping k (at_turn x time times server) older (x.lines ++ line_telling t status bytes ∷ []) mid session [] [] said

-- what each transfer begins with in a run, where so many turns of time may pass
pub record CanEnd (k : Setup) (x : Places) (older : List Row) (big far : World) (t : Transfer) (most : ℕ) : Type 0 where
  pub set : IsSetForDrops k x older
  pub early : moment_at x + TIMEOUT * (most + 1) < 2 ^ 63
  pub past : x.service.time ≤ moment_at x
  pub begins : BeginsDropping k x older big t
  pub run : RunsOut k big far
  pub drops : DropsChunks k far

-- and it is spared
pub record CanSurvive (k : Setup) (x : Places) (older : List Row) (big far : World) (t : Transfer) : Type 0 where
  pub starts : CanEnd k x older big far t LOSSY_ROUNDS
  pub spared : IsSpared k x.session big far

-- EACH READ SURVIVES, of a resource that the service lists, from an offset that isn't past its end
abbrev pub ReadsSurviveDrops : Type 0
ReadsSurviveDrops =
    (k : Setup) (x : Places) (older : List Row) (big far : World) (resource offset window chunk : ℕ) (bytes : List ℕ) → let d = new_download resource offset window chunk in
    CanSurvive k x older big far (reads d) → x.service.side ≡ Read → x.client_opening.name.method ≡ name_id (codes "Read") → first_of resource x.service.shelf.full ≡ Some bytes → resource < 2 ^ 32
    → IsTuning window chunk → length bytes ≤ MAX_RESOURCE → offset ≤ length bytes
    → Passes k big far (HasSurvived k x (reads (read_ended d offset)) Okay)

-- EACH WRITE SURVIVES, from an offset that isn't past the end of its bytes
abbrev pub WritesSurviveDrops : Type 0
WritesSurviveDrops =
    (k : Setup) (x : Places) (older : List Row) (big far : World) (resource offset : ℕ) (bytes : List ℕ) → let u = new_upload resource bytes offset in
    CanSurvive k x older big far (writes u) → x.service.side ≡ Write → resource < 2 ^ 32 → IsTuning x.service.window x.service.chunk → length bytes ≤ MAX_RESOURCE → offset ≤ length bytes
    → Passes k big far (HasSurvived k x (writes (write_ended u (agreed_offset x.service.shelf resource offset))) Okay)

-- A READ THAT THE SERVICE CAN'T SERVE IS REFUSED all the same, of a resource that it doesn't list, or from an offset past the end
-- of one
abbrev pub RefusalsSurviveDrops : Type 0
RefusalsSurviveDrops =
    (k : Setup) (x : Places) (older : List Row) (big far : World) (resource offset window chunk : ℕ) (status : Status) → let d = new_download resource offset window chunk in
    CanSurvive k x older big far (reads d) → ReadFits d → x.service.side ≡ Read → offer_of x.service.shelf resource offset ≡ Err status
    → Passes k big far (HasSurvived k x (reads (read_refused d status)) status)
