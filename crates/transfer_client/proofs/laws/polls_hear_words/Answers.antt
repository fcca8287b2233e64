use Rattle.transfer_client.specs.Read.{read_rules}
use Rattle.transfer_client.specs.Write.{write_rules}
use Rattle.transfer_client.proofs.HearingLaws.{polls_hear, read_waits, write_waits}
use Rattle.transfer_client.proofs.laws.polls_hear_words.Goals as goal

pub returns-clause-reads : goal.returns-clause-reads
returns-clause-reads c = polls_hear read_rules read_waits

pub returns-clause-writes : goal.returns-clause-writes
returns-clause-writes c = polls_hear write_rules write_waits
