use Rattle.link_laws.proofs.rounds.Opens.{calls_open}
use Rattle.link_laws.proofs.rounds.laws.calls_open.Goals as goal

pub returns : goal.returns
returns c = calls_open
