use Rattle.std.proofs.Common.{rules, of_calls, arith}
use Rattle.std.proofs.lemmas.List.Sorted.{IsPartitionPoint-from_clause}
use Rattle.rpc_calls.specs.declared.waiting_calls.WaitingCall.{WaitingCall}
use Rattle.rpc_calls.specs.Listed.{goes_first}
use Rattle.rpc_calls.proofs.ListedLemmas.{first_precedes, in_order_parts, last_follows}
use Rattle.rpc_calls.proofs.waiting_calls.place_for.Goals as goal

pub returns : goal.returns
returns c =
    let parted = in_order_parts c.args.calls.now.items c.args.call c.args.since c.requires in
    let point = IsPartitionPoint-from_clause (λ (w : WaitingCall). goes_first w.call w.since c.args.call c.args.since) c.args.calls.now.items c.partition_point.result c.partition_point.ensures.partitioned parted
    (λ a r q k. search (rules, of_calls)) in
    record {
      within = omega (arith, c.partition_point.ensures.bound);
      before = λ k d h. first_precedes _ _ _ _ (point.0 k d (omega arith) h);
      behind = λ k d past within. last_follows _ _ _ _ (point.1 k d past within);
    }
