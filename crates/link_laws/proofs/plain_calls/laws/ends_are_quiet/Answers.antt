use Rattle.link_laws.proofs.plain_calls.Ending.{ends_are_quiet}
use Rattle.link_laws.proofs.plain_calls.laws.ends_are_quiet.Goals as goal

pub returns : goal.returns
returns c = ends_are_quiet
