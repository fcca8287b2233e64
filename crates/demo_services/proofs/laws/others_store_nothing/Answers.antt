use Rattle.demo_services.proofs.OtherLemmas as other_lemmas
use Rattle.demo_services.proofs.laws.others_store_nothing.Goals as goal

pub returns : goal.returns
returns c = other_lemmas.others_store_nothing
