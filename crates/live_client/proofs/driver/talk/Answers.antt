use Rattle.std.proofs.Common.{◌≡◌, Ok, true, false, ap, ◌∙◌}
use Rattle.rpc_shared.proofs.session.PassLemmas.{adds_trans}
use Rattle.live_client.specs.Driving.{is_talking}
use Rattle.live_client.specs.asks.Telling.{unknown}
use Rattle.live_client.specs.Silent.{silent_rule}
use Rattle.live_client.proofs.FeedLemmas.{on_err_with, on_ok_with}
use Rattle.live_client.proofs.StepsOf.{can_on}
use Rattle.live_client.proofs.TalkLemmas.{talks_weaker}
use Rattle.live_client.proofs.driver.talk.Given.{Over}
use Rattle.live_client.proofs.driver.talk.Goals as goal

pub listen-requires-clause-can : goal.listen-requires-clause-can
listen-requires-clause-can g c = can_on c.args.table.now c.args.call is_talking c.args.pass.now c.speak.new.pass c.requires.can c.speak.ensures.adds

pub returns-in-Ok-true-clause-adds : goal.returns-in-Ok-true-clause-adds
returns-in-Ok-true-clause-adds g c = c.speak.ensures.adds

pub returns-in-Ok-false-clause-adds : goal.returns-in-Ok-false-clause-adds
returns-in-Ok-false-clause-adds g c =
    adds_trans silent_rule c.args.table.now is_talking c.args.pass.now c.speak.new.pass c.listen.new.pass
    c.speak.ensures.adds c.listen.ensures.adds

idle : (g : Over) (c : goal.After-listen g) → c.speak.result ≡ Ok false
idle g c = c.in-Ok-false.is ∙ ap Ok c.in-Ok-false.field-0-test

pub returns-in-Ok-false-clause-talks : goal.returns-in-Ok-false-clause-talks
returns-in-Ok-false-clause-talks g c = on_ok_with _ c.listen.result (λ _. λ opening all start items early t.
    c.listen.ensures.talks opening start (g.C.Clock.last c.speak.new.clock) items (c.speak.ensures.none (idle g c) opening all start items early t))

pub returns-in-Ok-false-clause-none : goal.returns-in-Ok-false-clause-none
returns-in-Ok-false-clause-none g c = λ is opening all start items early t.
    c.listen.ensures.none is opening start (g.C.Clock.last c.speak.new.clock) items (c.speak.ensures.none (idle g c) opening all start items early t)

pub returns-in-Ok-false-clause-stopped : goal.returns-in-Ok-false-clause-stopped
returns-in-Ok-false-clause-stopped g c = on_err_with _ c.listen.result (λ _. λ opening all start items early t.
    let last = g.C.Clock.last c.speak.new.clock in (
      unknown,
      talks_weaker g.W.Errand.watches opening c.args.table.now c.args.call (g.W.Errand.did c.listen.new.errand unknown start last) (g.W.Errand.did c.listen.new.errand unknown start last) items true false c.listen.new.pass
          (c.listen.ensures.talks opening start last items (c.speak.ensures.none (idle g c) opening all start items early t)),
    ))

pub returns-in-Err-clause-adds : goal.returns-in-Err-clause-adds
returns-in-Err-clause-adds g c = c.speak.ensures.adds

pub returns-in-Err-clause-stopped : goal.returns-in-Err-clause-stopped
returns-in-Err-clause-stopped g c = λ opening far start items early t. (unknown, c.in-Err.ensures.stopped opening far start items early t)
