use Rattle.history_laws.proofs.messages.OfCalls.{items_are_of_calls}
use Rattle.history_laws.proofs.messages.laws.items_are_of_calls.Goals as goal

pub returns : goal.returns
returns c = items_are_of_calls
