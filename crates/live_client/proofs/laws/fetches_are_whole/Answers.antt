use Rattle.live_client.proofs.FetchedLemmas as lemmas
use Rattle.live_client.proofs.laws.fetches_are_whole.Goals as goal

pub returns : goal.returns
returns c = lemmas.fetches_are_whole
