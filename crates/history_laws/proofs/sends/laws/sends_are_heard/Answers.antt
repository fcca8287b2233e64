use Rattle.history_laws.proofs.sends.Sending.{sends_are_heard}
use Rattle.history_laws.proofs.sends.laws.sends_are_heard.Goals as goal

pub returns : goal.returns
returns c = sends_are_heard
