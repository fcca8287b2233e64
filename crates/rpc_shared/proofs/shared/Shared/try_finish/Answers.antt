use Rattle.std.proofs.Common.{◌∙◌, sym}
use Rattle.rpc_shared.proofs.Passing.{run_there, steps_made}
use Rattle.rpc_shared.proofs.shared.Shared.try_finish.Goals as goal

pub finish-answer-requires-clause-on : goal.finish-answer-requires-clause-on
finish-answer-requires-clause-on g c = run_there _ _ _ _ _ _ _ c.in-Ok.ensures.holds c.value.ensures.value c.requires.seat c.requires.on

pub returns-clause-did : goal.returns-clause-did
returns-clause-did g c =
    let holds = c.in-Ok.ensures.holds in
    let made = c.finish-answer.ensures.made in
    (made.0, made.1, steps_made _ _ _ _ _ _ _ _ _ _ holds c.value.ensures.value (c.requires.seat ∙ sym holds.taken.same.number) made.2 c.give.ensures.given)
