use Rattle.link_laws.proofs.world.RowProofs.{channel_closed-runs, idle_channel_closed-runs}
use Rattle.link_laws.proofs.world.laws.rows_of_channels.Goals as goal

pub returns-clause-closed : goal.returns-clause-closed
returns-clause-closed c = channel_closed-runs

pub returns-clause-idle : goal.returns-clause-idle
returns-clause-idle c = idle_channel_closed-runs
