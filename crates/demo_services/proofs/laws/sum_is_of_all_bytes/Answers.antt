use Rattle.demo_services.proofs.LawLemmas.{sums_all_bytes}
use Rattle.demo_services.proofs.laws.sum_is_of_all_bytes.Goals as goal

pub returns : goal.returns
returns c = sums_all_bytes
