use Rattle.demo_services.proofs.LawLemmas.{says_back}
use Rattle.demo_services.proofs.laws.chat_says_back.Goals as goal

pub returns : goal.returns
returns c = says_back
