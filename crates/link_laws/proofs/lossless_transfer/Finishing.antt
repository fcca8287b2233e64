-- Reads and writes begin, go on and end.
use Rattle.std.proofs.Common.{ℕ, ◌+◌, ◌<◌, ◌^◌, List, refl, arith}
use Rattle.transfer_base.specs.declared.limits.TheConstants.{TIMEOUT}
use Rattle.transfer_client.specs.Read.{new_download, read_rules}
use Rattle.transfer_client.specs.Write.{new_upload, write_rules}
use Rattle.transfer_laws.proofs.pairs.Downloads.{reads_end_well}
use Rattle.transfer_laws.proofs.pairs.Refusals.{reads_are_refused as reads_refused}
use Rattle.transfer_laws.proofs.pairs.Uploads.{writes_end_well}
use Rattle.link_laws.specs.world.World.{reads, writes}
use Rattle.link_laws.specs.lossless_transfer.Finishes.{ReadFits, ReadsAreRefused, ReadsEnd, ReadsFinish, WriteFits, WritesEnd, WritesFinish}
use Rattle.link_laws.specs.lossless_transfer.Shows.{moment_at}
use Rattle.link_laws.proofs.lossless_transfer.Beginning.{CanBegin, begins_over}
use Rattle.link_laws.proofs.lossless_transfer.ReadSteps.{CanRead, read_keeps, reads_wrapped}
use Rattle.link_laws.proofs.lossless_transfer.WriteSteps.{CanWrite, write_keeps, writes_wrapped}

pub read_begins : (now resource offset window chunk : ℕ) (early : now + TIMEOUT < 2 ^ 63) → ReadFits (new_download resource offset window chunk)
    → CanBegin read_rules (CanRead now early) now (new_download resource offset window chunk)
read_begins now resource offset window chunk early fits = record {
  holds = record { fits = record { resource = fits.resource; asked = fits.asked; window = fits.window; chunk = fits.chunk }; stands = refl };
  fits = ((fits.resource, (let low = fits.asked in omega (arith, low))), tt);
  going = refl;
}

pub write_begins : (now resource offset : ℕ) (bytes : List ℕ) (early : now + TIMEOUT < 2 ^ 63) → WriteFits (new_upload resource bytes offset)
    → CanBegin write_rules (CanWrite now early) now (new_upload resource bytes offset)
write_begins now resource offset bytes early fits = record {
  holds = record { fits = record { resource = fits.resource; size = fits.size; within = fits.within }; stands = refl };
  fits = ((fits.resource, (let size = fits.size in let low = fits.within in omega (arith, size, low))), tt);
  going = refl;
}

pub reads_end : ReadsEnd
reads_end k x big far resource offset window chunk end status session most set fits begins run e over =
    begins_over read_rules reads (CanRead (moment_at x) set.early) k x set reads_wrapped (read_keeps (moment_at x) set.early) (new_download resource offset window chunk)
    (read_begins (moment_at x) resource offset window chunk set.early fits) far end status session most e over big begins run

pub writes_end : WritesEnd
writes_end k x big far resource offset bytes end status session most set fits begins run e over =
    begins_over write_rules writes (CanWrite (moment_at x) set.early) k x set writes_wrapped (write_keeps (moment_at x) set.early) (new_upload resource bytes offset)
    (write_begins (moment_at x) resource offset bytes set.early fits) far end status session most e over big begins run

pub reads_finish : ReadsFinish
reads_finish k x big far resource offset window chunk bytes set small tuning side there size within begins run =
    reads_end k x big far resource offset window chunk _ _ _ _ set
    (record { resource = small; asked = omega (arith, size, within); window = tuning.window_high; chunk = tuning.chunk_high }) begins run
    (reads_end_well x.service (moment_at x) resource offset window chunk bytes side there tuning size within) refl

pub writes_finish : WritesFinish
writes_finish k x big far resource offset bytes set small tuning side size within begins run =
    writes_end k x big far resource offset bytes _ _ _ _ set (record { resource = small; size = size; within = within }) begins run
    (writes_end_well x.service (moment_at x) resource offset bytes side tuning size within) refl

pub reads_are_refused : ReadsAreRefused
reads_are_refused k x big far resource offset window chunk status set fits side refused begins run =
    reads_end k x big far resource offset window chunk _ _ _ _ set fits begins run
    (reads_refused x.service (moment_at x) resource offset window chunk status side refused) refl
