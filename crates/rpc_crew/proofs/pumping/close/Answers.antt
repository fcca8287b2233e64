use Rattle.std.proofs.Common.{sym, ◌∙◌}
use Rattle.rpc_crew.proofs.RingLemmas.{when_err, when_ok}
use Rattle.rpc_crew.proofs.pumping.close.Goals as goal

pub returns-clause-put : goal.returns-clause-put
returns-clause-put c = λ is. (when_ok c.push.result (sym c.is_ok.ensures.value ∙ is) c.push.ensures.ok).0

pub returns-clause-full : goal.returns-clause-full
returns-clause-full c = λ is. (when_err _ c.push.result (sym c.is_ok.ensures.value ∙ is) c.push.ensures.full).1.1
