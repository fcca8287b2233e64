use Rattle.transfer_client.specs.Read.{read_rules}
use Rattle.transfer_client.specs.Write.{write_rules}
use Rattle.transfer_laws.proofs.losses.Numbers.{numbers_lose_few}
use Rattle.transfer_laws.proofs.losses.laws.numbers_lose_few.Goals as goal

pub returns-clause-reads : goal.returns-clause-reads
returns-clause-reads c = numbers_lose_few read_rules

pub returns-clause-writes : goal.returns-clause-writes
returns-clause-writes c = numbers_lose_few write_rules
