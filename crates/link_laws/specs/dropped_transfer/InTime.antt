-- A transfer ends in time in a run over a link that drops chunks, however many.
use Rattle.std.specs.Prelude.{◌≡◌, ◌⊎◌, ℕ, ◌+◌, ◌<◌, ◌≤◌, ◌^◌, List, [], ◌∷◌, ◌++◌, length, Some, None}
use Rattle.link_io.specs.Resources.{first_of}
use Rattle.link_script.specs.declared.report.ReportLine.{ReportLine}
use Rattle.link_script.specs.declared.report.ReportLine.TheVariants as line
use Rattle.rpc_ids.specs.declared.Status.{Status}
use Rattle.rpc_ids.specs.declared.Status.TheVariants.{DeadlineExceeded, Okay}
use Rattle.transfer_base.specs.declared.limits.TheConstants.{MAX_RESOURCE}
use Rattle.transfer_resume.specs.declared.side.Side.TheVariants.{Read, Write}
use Rattle.transfer_resume.specs.Opening.{agreed_offset}
use Rattle.transfer_resume.specs.Session.{Row}
use Rattle.transfer_client.specs.Read.{new_download}
use Rattle.transfer_client.specs.Write.{new_upload}
use Rattle.transfer_laws.specs.losses.InTime.{WRITE_WAITS, read_turns, write_turns}
use Rattle.transfer_laws.specs.pairs.Bound.{need}
use Rattle.transfer_laws.specs.pairs.EndsWell.{IsTuning}
use Rattle.link_laws.specs.world.World.{Setup, World, reads, writes}
use Rattle.link_laws.specs.lossless_transfer.Finishes.{Passes}
use Rattle.link_laws.specs.lossless_transfer.Shows.{Places}
use Rattle.link_laws.specs.dropped_transfer.Survives.{CanEnd}

-- THE TRANSFER THAT STARTED HERE HAS COME TO ITS LINE within so many turns of time, with OK or DEADLINE_EXCEEDED
pub record HasEndedInTime (start : World) (line_of : ℕ → Status → ℕ → ReportLine) (most : ℕ) (mid : World) : Type 0 where
  pub offset : ℕ
  pub status : Status
  pub size : ℕ
  pub ends : (status ≡ Okay) ⊎ (status ≡ DeadlineExceeded)
  pub idle : mid.under ≡ None
  pub told : mid.lines ≡ start.lines ++ line_of offset status size ∷ []
  pub soon : mid.times ≤ start.times + most

-- EACH READ ENDS IN TIME, of a resource that the service lists, from an offset that isn't past its end
abbrev pub ReadsEndOverDrops : Type 0
ReadsEndOverDrops =
    (k : Setup) (x : Places) (older : List Row) (big far : World) (resource offset window chunk : ℕ) (bytes : List ℕ) → let most = read_turns (need (length bytes) offset chunk) in
    CanEnd k x older big far (reads (new_download resource offset window chunk)) most → x.service.side ≡ Read → first_of resource x.service.shelf.full ≡ Some bytes → resource < 2 ^ 32
    → IsTuning window chunk → length bytes ≤ MAX_RESOURCE → offset ≤ length bytes → Passes k big far (HasEndedInTime big (line.Read resource) most)

-- EACH WRITE ENDS IN TIME, from an offset that isn't past the end of its bytes
abbrev pub WritesEndOverDrops : Type 0
WritesEndOverDrops =
    (k : Setup) (x : Places) (older : List Row) (big far : World) (resource offset : ℕ) (bytes : List ℕ) →
    let most = write_turns (need (length bytes) (agreed_offset x.service.shelf resource offset) x.service.chunk) + WRITE_WAITS in
    CanEnd k x older big far (writes (new_upload resource bytes offset)) most → x.service.side ≡ Write → resource < 2 ^ 32 → IsTuning x.service.window x.service.chunk → length bytes ≤ MAX_RESOURCE
    → offset ≤ length bytes → Passes k big far (HasEndedInTime big (line.Write resource) most)
