use Rattle.std.proofs.Common.{◌≡◌, OnSome, arith, subst}
use Rattle.std.specs.List.{remove}
use Rattle.rpc_calls.proofs.ListedLemmas.{taken_out}
use Rattle.rpc_calls.proofs.waiting_calls.WaitingCalls.take_out.Goals as goal

pub returns-clause-list : goal.returns-clause-list
returns-clause-list c =
    taken_out c.args.waiting c.place_of-place.result c.args.self.now.calls.items c.remove.new.self.items c.requires.order c.place_of-place.ensures
    (subst (λ o. OnSome o (c.remove.new.self.items ≡ remove c.args.self.now.calls.items c.place_of-place.result))
    (c.remove.ensures.succeeds c.args.waiting (omega (arith, c.place_of-place.ensures.within))) c.remove.ensures.items)
