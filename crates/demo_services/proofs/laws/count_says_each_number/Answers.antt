use Rattle.demo_services.proofs.LawLemmas.{counts_from_one}
use Rattle.demo_services.proofs.laws.count_says_each_number.Goals as goal

pub returns : goal.returns
returns c = counts_from_one
