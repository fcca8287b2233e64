use Rattle.run_laws.proofs.statuses.CrewLemmas as lemmas
use Rattle.run_laws.proofs.statuses.laws.no_crew_size_matters.Goals as goal

pub returns-clause-calm : goal.returns-clause-calm
returns-clause-calm c = lemmas.no_crew_size_matters

pub returns-clause-loads : goal.returns-clause-loads
returns-clause-loads c = lemmas.loads_are_written_alike
