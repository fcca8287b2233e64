use Rattle.live_client.proofs.StoredLemmas as lemmas
use Rattle.live_client.proofs.laws.fetches_are_stored.Goals as goal

pub returns : goal.returns
returns c = lemmas.fetches_are_stored
