use Rattle.transfer_client.specs.Read.{read_rules}
use Rattle.transfer_client.specs.Write.{write_rules}
use Rattle.transfer_laws.proofs.losses.FewLosses.{few_losses_keep_a_round_clean}
use Rattle.transfer_laws.proofs.losses.laws.few_losses_keep_a_round_clean.Goals as goal

pub returns-clause-reads : goal.returns-clause-reads
returns-clause-reads c = few_losses_keep_a_round_clean read_rules

pub returns-clause-writes : goal.returns-clause-writes
returns-clause-writes c = few_losses_keep_a_round_clean write_rules
