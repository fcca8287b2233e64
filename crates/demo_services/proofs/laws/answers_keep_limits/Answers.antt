use Rattle.demo_services.proofs.LawLemmas.{keeps_limits}
use Rattle.demo_services.proofs.laws.answers_keep_limits.Goals as goal

pub returns : goal.returns
returns c = keeps_limits
