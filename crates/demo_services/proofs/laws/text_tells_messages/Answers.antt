use Rattle.demo_services.proofs.LogLemmas.{tells_texts}
use Rattle.demo_services.proofs.laws.text_tells_messages.Goals as goal

pub returns : goal.returns
returns c = tells_texts
