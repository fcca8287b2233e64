use Rattle.link_laws.proofs.plain_calls.EndsRest.{ends_rest}
use Rattle.link_laws.proofs.plain_calls.laws.ends_rest.Goals as goal

pub returns : goal.returns
returns c = ends_rest
