use Rattle.link_laws.proofs.rounds.Polling.{tasks_begin}
use Rattle.link_laws.proofs.rounds.laws.tasks_begin.Goals as goal

pub returns : goal.returns
returns c = tasks_begin
