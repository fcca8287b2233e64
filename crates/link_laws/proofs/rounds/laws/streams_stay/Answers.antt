use Rattle.link_laws.proofs.rounds.Beside.{streams_stay}
use Rattle.link_laws.proofs.rounds.laws.streams_stay.Goals as goal

pub returns : goal.returns
returns c = streams_stay
