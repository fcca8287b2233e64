use Rattle.live_client.proofs.FetchedLemmas as lemmas
use Rattle.live_client.proofs.laws.deadlines_take_time.Goals as goal

pub returns : goal.returns
returns c = lemmas.deadlines_take_time
