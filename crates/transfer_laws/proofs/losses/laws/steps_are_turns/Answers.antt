use Rattle.transfer_client.specs.Read.{read_rules}
use Rattle.transfer_client.specs.Write.{write_rules}
use Rattle.transfer_laws.proofs.losses.Numbers.{steps_are_turns}
use Rattle.transfer_laws.proofs.losses.laws.steps_are_turns.Goals as goal

pub returns-clause-reads : goal.returns-clause-reads
returns-clause-reads c = steps_are_turns read_rules

pub returns-clause-writes : goal.returns-clause-writes
returns-clause-writes c = steps_are_turns write_rules
