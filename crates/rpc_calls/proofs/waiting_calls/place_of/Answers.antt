use Rattle.std.proofs.Common.{not, rules, of_calls, arith}
use Rattle.std.proofs.lemmas.List.Sorted.{IsPartitionPoint-from_clause}
use Rattle.rpc_calls.specs.declared.waiting_calls.WaitingCall.{WaitingCall}
use Rattle.rpc_calls.specs.Listed.{goes_first}
use Rattle.rpc_calls.proofs.ListedLemmas.{parted, stands_behind}
use Rattle.rpc_calls.proofs.waiting_calls.place_of.Goals as goal

pub returns : goal.returns
returns c =
    let point = IsPartitionPoint-from_clause (λ (w : WaitingCall). not (goes_first c.args.waiting.call c.args.waiting.since w.call w.since)) c.args.calls.now.items c.partition_point.result c.partition_point.ensures.partitioned
    (parted c.args.waiting c.args.calls.now.items c.requires.order) (λ a r q k. search (rules, of_calls)) in
    stands_behind c.args.waiting c.args.calls.now.items c.partition_point.result c.requires.order c.requires.there
    (λ k d h. point.0 k d (omega arith) h) (λ k d past within. point.1 k d past within)
