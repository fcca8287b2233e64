use Rattle.std.proofs.Common.{◌≡◌, Some, subst}
use Rattle.rpc_calls.specs.Listed.{Relists}
use Rattle.rpc_calls.proofs.ListedLemmas.{left_listed, put_back}
use Rattle.rpc_calls.proofs.waiting_calls.WaitingCalls.put_back.Goals as goal

pub returns-then-before-since-clause-list : goal.returns-then-before-since-clause-list
returns-then-before-since-clause-list c =
    let same : c.args.before ≡ c.args.since = search in
    subst (λ q. Relists c.args.call (Some c.args.before) (Some q) c.args.self.now.calls.items c.args.self.now.calls.items) same
    (left_listed c.args.call (Some c.args.before) c.args.self.now.calls.items c.requires.order c.requires.there)

pub returns-clause-list : goal.returns-clause-list
returns-clause-list c =
    put_back c.args.call c.args.before c.args.since c.args.self.now.calls.items c.take_out.new.self.calls.items c.put_in.new.self.calls.items c.take_out.ensures.list c.put_in.ensures.list
