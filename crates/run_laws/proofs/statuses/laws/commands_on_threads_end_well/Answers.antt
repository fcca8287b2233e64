use Rattle.run_laws.proofs.statuses.LiveStatusLemmas.{bridge_had_room, client_had_room, crew_had_room, live_end_well, serve_had_room}
use Rattle.run_laws.proofs.statuses.laws.commands_on_threads_end_well.Goals as goal

pub returns-clause-well : goal.returns-clause-well
returns-clause-well c = live_end_well

pub returns-clause-room : goal.returns-clause-room
returns-clause-room c = crew_had_room

pub returns-clause-links : goal.returns-clause-links
returns-clause-links c = serve_had_room

pub returns-clause-bridge : goal.returns-clause-bridge
returns-clause-bridge c = bridge_had_room

pub returns-clause-client : goal.returns-clause-client
returns-clause-client c = client_had_room
