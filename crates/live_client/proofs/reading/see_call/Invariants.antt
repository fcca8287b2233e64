use Rattle.live_client.proofs.FeedLemmas.{HasLooked}
use Rattle.live_client.proofs.reading.see_call.Given as goal

abbrev pub invariant-loop : goal.invariant-loop
invariant-loop g l = HasLooked l.table l.fn.pass l.pass
