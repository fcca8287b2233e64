use Rattle.std.proofs.Common.{arith}
use Rattle.rpc_calls.proofs.ListedLemmas.{is_done, put_in}
use Rattle.rpc_calls.proofs.waiting_calls.WaitingCalls.put_in.Goals as goal

pub returns-clause-list : goal.returns-clause-list
returns-clause-list c =
    put_in c.args.waiting c.place_for-place.result c.args.self.now.calls.items c.insert.new.self.items c.requires.order c.place_for-place.ensures
    (is_done c.insert.result _ _ c.insert.ensures.items c.insert.ensures.full (λ full. omega (arith, full, c.requires.place)))
