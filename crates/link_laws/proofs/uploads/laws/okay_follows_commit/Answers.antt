use Rattle.link_laws.proofs.uploads.OkayLaws as okay_laws
use Rattle.link_laws.proofs.uploads.laws.okay_follows_commit.Goals as goal

pub returns-clause-sessions : goal.returns-clause-sessions
returns-clause-sessions c = okay_laws.okay_follows_commit

pub returns-clause-history : goal.returns-clause-history
returns-clause-history c = okay_laws.okay_of_history
