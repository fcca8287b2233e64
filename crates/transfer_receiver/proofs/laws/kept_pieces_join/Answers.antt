use Rattle.transfer_receiver.proofs.RunLaws as run_laws
use Rattle.transfer_receiver.proofs.laws.kept_pieces_join.Goals as goal

pub returns-clause-joins : goal.returns-clause-joins
returns-clause-joins c = run_laws.kept_pieces_join

pub returns-clause-ended_well : goal.returns-clause-ended_well
returns-clause-ended_well c = run_laws.ended_well_joins
