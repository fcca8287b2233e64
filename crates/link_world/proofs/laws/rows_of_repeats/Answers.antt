use Rattle.link_world.proofs.RepeatRowProofs.{read_twice-runs, written_read_and_written-runs}
use Rattle.link_world.proofs.laws.rows_of_repeats.Goals as goal

pub returns-clause-twice : goal.returns-clause-twice
returns-clause-twice c = read_twice-runs

pub returns-clause-between : goal.returns-clause-between
returns-clause-between c = written_read_and_written-runs
