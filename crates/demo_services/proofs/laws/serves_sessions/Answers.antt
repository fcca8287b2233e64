use Rattle.demo_services.proofs.ServeLemmas as serve_lemmas
use Rattle.demo_services.proofs.laws.serves_sessions.Goals as goal

pub returns : goal.returns
returns c = serve_lemmas.serves_sessions
