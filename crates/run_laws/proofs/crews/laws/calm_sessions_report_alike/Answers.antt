use Rattle.run_laws.proofs.crews.SessionLemmas as lemmas
use Rattle.run_laws.proofs.crews.laws.calm_sessions_report_alike.Goals as goal

pub returns-clause-one_thread : goal.returns-clause-one_thread
returns-clause-one_thread c = lemmas.sessions_report_alike

pub returns-clause-any_workers : goal.returns-clause-any_workers
returns-clause-any_workers c = lemmas.no_workers_matter
