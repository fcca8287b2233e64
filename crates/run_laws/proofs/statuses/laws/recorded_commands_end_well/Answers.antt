use Rattle.run_laws.proofs.statuses.StatusLemmas.{recorded_end_well, recorded_had_room}
use Rattle.run_laws.proofs.statuses.laws.recorded_commands_end_well.Goals as goal

pub returns-clause-well : goal.returns-clause-well
returns-clause-well c = recorded_end_well

pub returns-clause-room : goal.returns-clause-room
returns-clause-room c = recorded_had_room
