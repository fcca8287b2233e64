use Rattle.transfer_client.proofs.HearingLaws.{read_waits, write_waits}
use Rattle.transfer_client.proofs.laws.waits_in_peace.Goals as goal

pub returns-clause-reads : goal.returns-clause-reads
returns-clause-reads c = read_waits

pub returns-clause-writes : goal.returns-clause-writes
returns-clause-writes c = write_waits
