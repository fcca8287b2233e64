use Rattle.link_laws.proofs.rounds.Polling.{messages_are_polled}
use Rattle.link_laws.proofs.rounds.laws.messages_are_polled.Goals as goal

pub returns : goal.returns
returns c = messages_are_polled
