use Rattle.link_laws.proofs.transfers_fit.Sent.{runs_are_heard}
use Rattle.link_laws.proofs.transfers_fit.laws.runs_are_heard.Goals as goal

pub returns : goal.returns
returns c = runs_are_heard
