-- Where a read and a write stand at each moment, if each looks at the time at its timeouts.
use Rattle.std.proofs.Common.{ℕ, ◌+◌, ◌<◌, ◌^◌}
use Rattle.transfer_base.specs.declared.limits.TheConstants.{TIMEOUT}
use Rattle.transfer_client.specs.Read.{Download, read_rules}
use Rattle.transfer_client.specs.Write.{Upload, write_rules}
use Rattle.link_laws.proofs.lossless_transfer.LateSteps.{read_late, write_late}
use Rattle.link_laws.proofs.lossless_transfer.ReadSteps.{CanRead, read_keeps}
use Rattle.link_laws.proofs.lossless_transfer.WriteSteps.{CanWrite, write_keeps}
use Rattle.link_laws.proofs.dropped_transfer.TimeStep.{KeepsTime}

-- WHERE A READ STANDS AT A MOMENT, and where a write does
abbrev pub ReadAt : ℕ → Download → Type 0
ReadAt now d = (early : now + TIMEOUT < 2 ^ 63) × CanRead now early d

abbrev pub WriteAt : ℕ → Upload → Type 0
WriteAt now u = (early : now + TIMEOUT < 2 ^ 63) × CanWrite now early u

pub reads_keep_time : KeepsTime read_rules ReadAt
reads_keep_time = record {
  keeps = λ now. record {
    awake = λ d stood. (read_keeps now stood.0).awake d stood.1;
    goes_on = λ d stood going. (read_keeps now stood.0).goes_on d stood.1 going;
    hears = λ d w stood. let next = (read_keeps now stood.0).hears d w stood.1 in ((stood.0, next.0), next.1);
  };
  early = λ now d stood. stood.0;
  ticks = λ now d stood later. let next = read_late now stood.0 later d stood.1 in ((later, next.0), next.1);
}

pub writes_keep_time : KeepsTime write_rules WriteAt
writes_keep_time = record {
  keeps = λ now. record {
    awake = λ u stood. (write_keeps now stood.0).awake u stood.1;
    goes_on = λ u stood going. (write_keeps now stood.0).goes_on u stood.1 going;
    hears = λ u w stood. let next = (write_keeps now stood.0).hears u w stood.1 in ((stood.0, next.0), next.1);
  };
  early = λ now u stood. stood.0;
  ticks = λ now u stood later. let next = write_late now stood.0 later u stood.1 in ((later, next.0), next.1);
}
