-- A transfer that has begun comes to its end, in a run over a link that loses nothing.
use Rattle.std.specs.Prelude.{◌≡◌, ℕ, ◌+◌, ◌<◌, ◌≤◌, ◌^◌, List, [], ◌∷◌, ◌++◌, length, Option, Some, Err}
use Rattle.link_io.specs.Resources.{first_of}
use Rattle.rpc_ids.specs.declared.Status.{Status}
use Rattle.rpc_ids.specs.declared.Status.TheVariants.{Okay}
use Rattle.transfer_base.specs.declared.limits.TheConstants.{MAX_CHUNK, MAX_RESOURCE, MAX_WINDOW, TIMEOUT}
use Rattle.transfer_resume.specs.declared.side.Side.TheVariants.{Read, Write}
use Rattle.transfer_resume.specs.declared.stage.Stage.{Stage}
use Rattle.transfer_resume.specs.declared.stage.Stage.TheVariants as stage
use Rattle.transfer_resume.specs.Opening.{agreed_offset, offer_of}
use Rattle.transfer_client.specs.Read.{Download, new_download, read_rules}
use Rattle.transfer_client.specs.Write.{Upload, new_upload, write_rules}
use Rattle.transfer_laws.specs.pairs.Pair.{EndsSo, first}
use Rattle.transfer_laws.specs.pairs.Bound.{bound}
use Rattle.transfer_laws.specs.pairs.EndsWell.{IsTuning, read_ended, read_refused, write_ended}
use Rattle.link_laws.specs.world.Lines.{line_telling}
use Rattle.link_laws.specs.world.Sound.{AreSendable}
use Rattle.link_laws.specs.world.Turns.{Turns, ending, next_kind}
use Rattle.link_laws.specs.world.World.{Setup, Transfer, World, reads, writes}
use Rattle.link_laws.specs.lossless_transfer.Begins.{Begins}
use Rattle.link_laws.specs.lossless_transfer.Shows.{ArePlaces, IsLossless, Left, Places, moment_at}

-- a run from this world to one in which nothing is left but the end, and in which all that goes out is heard
pub record RunsOut (k : Setup) (big far : World) : Type 0 where
  pub total : ℕ
  pub turns : Turns k total big far
  pub is_last : next_kind far ≡ ending
  pub heard : AreSendable k far

-- the run passes through this world, where so much holds
pub record Passes (k : Setup) (big far : World) (P : World → Type 0) : Type 0 where
  pub mid : World
  pub many : ℕ
  pub way : Turns k many big mid
  pub rest : RunsOut k mid far
  pub holds : P mid

-- The line of this transfer was told, with this status; nothing is on its way, and the session stands so. No more words were said
-- than so many, each in a numbered frame.
pub record IsOver (k : Setup) (x : Places) (t : Transfer) (status : Status) (session : Option Stage) (most : ℕ) (mid : World) : Type 0 where
  pub bytes : ℕ
  pub said : ℕ
  pub few : said ≤ most
  pub left : Left k x (x.lines ++ line_telling t status bytes ∷ []) mid session [] [] said

-- so it is with OK, at both ends
abbrev pub IsFinished : Setup → Places → Transfer → ℕ → World → Type 0
IsFinished k x t most mid = IsOver k x t Okay (Some (stage.Ended Okay)) most mid

-- what all transfers need
pub record IsSetFor (k : Setup) (x : Places) : Type 0 where
  pub lossless : IsLossless k
  pub places : ArePlaces x
  -- what the service asks for fits
  pub window : x.service.window ≤ MAX_WINDOW
  pub chunk : x.service.chunk ≤ MAX_CHUNK
  -- no deadline is at the end of all time
  pub early : moment_at x + TIMEOUT < 2 ^ 63

-- the numbers of a read fit
pub record ReadFits (d : Download) : Type 0 where
  pub resource : d.resource < 2 ^ 32
  pub asked : d.asked ≤ MAX_RESOURCE
  pub window : d.window ≤ MAX_WINDOW
  pub chunk : d.chunk ≤ MAX_CHUNK

-- and those of a write
pub record WriteFits (u : Upload) : Type 0 where
  pub resource : u.resource < 2 ^ 32
  pub size : length u.bytes ≤ MAX_RESOURCE
  pub within : u.asked ≤ length u.bytes

-- EACH TRANSFER ENDS AS ITS TWO ENDS DO
abbrev pub ReadsEnd : Type 0
ReadsEnd =
    (k : Setup) (x : Places) (big far : World) (resource offset window chunk : ℕ) (end : Download) (status : Status) (session : Option Stage) (most : ℕ) → IsSetFor k x → ReadFits (new_download resource offset window chunk)
    → Begins k x big (reads (new_download resource offset window chunk)) → RunsOut k big far
    → EndsSo x.service read_rules (moment_at x) (first x.service read_rules (moment_at x) (new_download resource offset window chunk)) end session most → read_rules.end_of end ≡ Some status
    → Passes k big far (IsOver k x (reads end) status session most)

abbrev pub WritesEnd : Type 0
WritesEnd =
    (k : Setup) (x : Places) (big far : World) (resource offset : ℕ) (bytes : List ℕ) (end : Upload) (status : Status) (session : Option Stage) (most : ℕ) → IsSetFor k x → WriteFits (new_upload resource bytes offset)
    → Begins k x big (writes (new_upload resource bytes offset)) → RunsOut k big far
    → EndsSo x.service write_rules (moment_at x) (first x.service write_rules (moment_at x) (new_upload resource bytes offset)) end session most → write_rules.end_of end ≡ Some status
    → Passes k big far (IsOver k x (writes end) status session most)

-- EACH READ FINISHES, of a resource that the service lists, from an offset that isn't past its end
abbrev pub ReadsFinish : Type 0
ReadsFinish =
    (k : Setup) (x : Places) (big far : World) (resource offset window chunk : ℕ) (bytes : List ℕ) → IsSetFor k x → resource < 2 ^ 32 → IsTuning window chunk
    → x.service.side ≡ Read → first_of resource x.service.shelf.full ≡ Some bytes → length bytes ≤ MAX_RESOURCE → offset ≤ length bytes
    → Begins k x big (reads (new_download resource offset window chunk)) → RunsOut k big far
    → Passes k big far (IsFinished k x (reads (read_ended (new_download resource offset window chunk) offset)) (bound (length bytes) offset chunk))

-- EACH WRITE FINISHES, from an offset that isn't past the end of its bytes
abbrev pub WritesFinish : Type 0
WritesFinish =
    (k : Setup) (x : Places) (big far : World) (resource offset : ℕ) (bytes : List ℕ) → IsSetFor k x → resource < 2 ^ 32 → IsTuning x.service.window x.service.chunk
    → x.service.side ≡ Write → length bytes ≤ MAX_RESOURCE → offset ≤ length bytes → Begins k x big (writes (new_upload resource bytes offset)) → RunsOut k big far
    → let agreed = agreed_offset x.service.shelf resource offset in
    Passes k big far (IsFinished k x (writes (write_ended (new_upload resource bytes offset) agreed)) (bound (length bytes) agreed x.service.chunk))

-- A READ THAT THE SERVICE CAN'T SERVE IS REFUSED, of a resource that it doesn't list, or from an offset past the end of one
abbrev pub ReadsAreRefused : Type 0
ReadsAreRefused =
    (k : Setup) (x : Places) (big far : World) (resource offset window chunk : ℕ) (status : Status) → IsSetFor k x → ReadFits (new_download resource offset window chunk)
    → x.service.side ≡ Read → offer_of x.service.shelf resource offset ≡ Err status → Begins k x big (reads (new_download resource offset window chunk)) → RunsOut k big far
    → Passes k big far (IsOver k x (reads (read_refused (new_download resource offset window chunk) status)) status (Some (stage.Ended status)) 3)
