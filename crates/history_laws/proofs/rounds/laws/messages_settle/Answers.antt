use Rattle.history_laws.proofs.rounds.RoundLemmas.{messages_settle}
use Rattle.history_laws.proofs.rounds.laws.messages_settle.Goals as goal

pub returns : goal.returns
returns c = messages_settle
