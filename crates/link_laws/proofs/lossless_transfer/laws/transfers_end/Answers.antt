use Rattle.link_laws.proofs.lossless_transfer.Finishing.{reads_end, writes_end}
use Rattle.link_laws.proofs.lossless_transfer.laws.transfers_end.Goals as goal

pub returns-clause-reads : goal.returns-clause-reads
returns-clause-reads c = reads_end

pub returns-clause-writes : goal.returns-clause-writes
returns-clause-writes c = writes_end
