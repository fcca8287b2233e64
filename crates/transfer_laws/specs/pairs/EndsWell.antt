-- Where nothing is lost, a transfer ends well, and within its bound.
use Rattle.std.specs.Prelude.{◌≡◌, ℕ, ◌≤◌, List, length, Some, Err}
use Rattle.rpc_ids.specs.declared.Status.{Status}
use Rattle.rpc_ids.specs.declared.Status.TheVariants.{Okay}
use Rattle.link_io.specs.Resources.{first_of}
use Rattle.transfer_base.specs.declared.limits.TheConstants.{MAX_CHUNK, MAX_RESOURCE, MAX_WINDOW}
use Rattle.transfer_resume.specs.declared.side.Side.TheVariants.{Read, Write}
use Rattle.transfer_resume.specs.declared.stage.Stage.TheVariants as stage
use Rattle.transfer_resume.specs.Session.{Service}
use Rattle.transfer_resume.specs.Opening.{agreed_offset, offer_of}
use Rattle.transfer_client.specs.declared.stages.Reading.TheVariants as reading
use Rattle.transfer_client.specs.declared.stages.Writing.TheVariants as writing
use Rattle.transfer_client.specs.Read.{Download, new_download, read_rules}
use Rattle.transfer_client.specs.Write.{Upload, new_upload, write_rules}
use Rattle.transfer_laws.specs.pairs.Pair.{EndsSo, EndsWell, first}
use Rattle.transfer_laws.specs.pairs.Bound.{bound}

-- how a receiver asks: the chunks of its first window, and the bytes of a chunk
pub record IsTuning (window chunk : ℕ) : Type 0 where
  pub window_low : 1 ≤ window
  pub window_high : window ≤ MAX_WINDOW
  pub chunk_low : 1 ≤ chunk
  pub chunk_high : chunk ≤ MAX_CHUNK

-- a read that has ended OK, from the offset that was agreed
abbrev pub read_ended : Download → ℕ → Download
read_ended d offset = record d { agreed = Some offset; stage = reading.Over Okay }

abbrev pub write_ended : Upload → ℕ → Upload
write_ended u offset = record u { agreed = Some offset; stage = writing.Over Okay }

-- a read of a resource that the store has, from an offset in it
abbrev pub ReadsEndWell : Type 0
ReadsEndWell =
    (service : Service) (now resource offset window chunk : ℕ) (bytes : List ℕ) → service.side ≡ Read → first_of resource service.shelf.full ≡ Some bytes
    → IsTuning window chunk → length bytes ≤ MAX_RESOURCE → offset ≤ length bytes
    → let d = new_download resource offset window chunk in
    EndsWell service read_rules now (first service read_rules now d) (read_ended d offset) (bound (length bytes) offset chunk)

-- a write of a resource from an offset in it; both ends begin at what the service agrees to
abbrev pub WritesEndWell : Type 0
WritesEndWell =
    (service : Service) (now resource offset : ℕ) (bytes : List ℕ) → service.side ≡ Write
    → IsTuning service.window service.chunk → length bytes ≤ MAX_RESOURCE → offset ≤ length bytes
    → let u = new_upload resource bytes offset in
    let agreed = agreed_offset service.shelf resource offset in
    EndsWell service write_rules now (first service write_rules now u) (write_ended u agreed) (bound (length bytes) agreed service.chunk)

-- a read that was refused so
abbrev pub read_refused : Download → Status → Download
read_refused d status = record d { stage = reading.Over status }

-- a read of what the store can't offer: of a resource that it doesn't have, or from an offset past the end of one
abbrev pub ReadsAreRefused : Type 0
ReadsAreRefused =
    (service : Service) (now resource offset window chunk : ℕ) (status : Status) → service.side ≡ Read → offer_of service.shelf resource offset ≡ Err status
    → let d = new_download resource offset window chunk in
    EndsSo service read_rules now (first service read_rules now d) (read_refused d status) (Some (stage.Ended status)) 3
