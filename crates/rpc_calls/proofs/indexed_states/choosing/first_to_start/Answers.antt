use Rattle.std.proofs.Common.{◌≡◌, true, false, deque_items, rules, tests, of_calls}
use Rattle.std.proofs.lemmas.Iterator.{IsFirst-from_position}
use Rattle.std.proofs.lemmas.Iterator.Consumers.{YieldsList-from_deque}
use Rattle.rpc_calls.specs.declared.waiting_calls.WaitingCall.{WaitingCall}
use Rattle.rpc_calls.specs.First.{starts_since}
use Rattle.rpc_calls.proofs.indexed_states.choosing.first_to_start.Goals as goal

pub returns : goal.returns
returns g c =
    IsFirst-from_position _ _ _ (λ (w : WaitingCall). starts_since c.args.calls.now.states w ≡ true) (λ (w : WaitingCall). starts_since c.args.calls.now.states w ≡ false) c.position.ensures.ran
    (YieldsList-from_deque (deque_items c.args.listed.now) cc) (λ x q k. search (rules, tests, of_calls)) (λ x q k. search (rules, tests, of_calls))
