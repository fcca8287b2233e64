use Rattle.history_laws.proofs.messages.Arrived.{messages_arrived}
use Rattle.history_laws.proofs.messages.laws.messages_arrived.Goals as goal

pub returns : goal.returns
returns c = messages_arrived
