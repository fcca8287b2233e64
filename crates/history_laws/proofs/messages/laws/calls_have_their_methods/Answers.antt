use Rattle.history_laws.proofs.messages.Methods.{calls_have_their_methods}
use Rattle.history_laws.proofs.messages.laws.calls_have_their_methods.Goals as goal

pub returns : goal.returns
returns c = calls_have_their_methods
