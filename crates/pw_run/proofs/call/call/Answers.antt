use Rattle.std.proofs.Common.{inl}
use Rattle.pw_run.proofs.CallLemmas.{did_call}
use Rattle.pw_run.proofs.call.call.Goals as goal

pub returns-clause-did : goal.returns-clause-did
returns-clause-did g c = λ left opening tells.
    did_call c.in-Ok.opening opening c.args.words.limit c.args.words.within c.unwrap_or.result _ _ c.ask_over_link.result (c.in-Ok.ensures.only opening tells) c.unwrap_or.ensures (inl (c.ask_over_link.ensures.did left))
