use Rattle.std.proofs.Common.{◌≡◌, ◌∙◌, ◌+◌, Some, IfSome, slice_get, ap, sym, subst, arith}
use Rattle.std.proofs.Math.Facts.{Fits-of_lt}
use Rattle.std.proofs.lemmas.List.Sums.{count_by-le-length}
use Rattle.rpc_journal.specs.declared.table.call_state.CallState.{CallState}
use Rattle.rpc_journal.specs.declared.table.notice.Notice.TheVariants.{ChannelClosed}
use Rattle.rpc_journal.specs.table.Touch.{is_told}
use Rattle.rpc_calls.specs.Marks.{one_if}
use Rattle.rpc_journal.proofs.PlaceLemmas.{get_some, some_same}
use Rattle.rpc_calls.proofs.CloseTables.{CountedSoFar, counted_all, counted_end, counted_next, counted_skip}
use Rattle.rpc_calls.proofs.FactSteps.{kept_some, used_not_done}
use Rattle.rpc_calls.proofs.closing_items.count_live.Goals as goal

pub loop-step-init : goal.loop-step-init
loop-step-init g c = record { count = c.count-count.ensures; ahead = omega arith; so_far = record { counted = omega arith } }

pub returns-in_default : goal.returns-in_default
returns-in_default g c = counted_end c.args.channel c.loop-step.from c.loop-step.live c.args.states.now.states.calls.items c.in_default.ensures.none c.loop-step.invariant.so_far

pub unwrap-requires : goal.unwrap-requires
unwrap-requires g c =
    let row = get_some c.args.states.now.states.calls.items c.in-Some.call c.in-Some.ensures.there in
    kept_some c.state.result c.state.ensures.left (λ left. used_not_done row.0 (left row.0 row.1) (c.in-Some.ensures.used row.0 row.1))

pub loop-step-preserved : goal.loop-step-preserved
loop-step-preserved g c =
    let row = get_some c.args.states.now.states.calls.items c.in-Some.call c.in-Some.ensures.there in
    record {
      count = c.loop-step.invariant.count;
      ahead = omega (arith, c.loop-step.invariant.ahead, c.in-Some.ensures.from);
      so_far = subst (λ n. CountedSoFar c.args.channel (c.in-Some.call + 1) (c.loop-step.live + n) c.args.states.now.states.calls.items)
          (ap (λ (q : CallState). one_if (is_told (ChannelClosed c.args.channel) q)) (sym (some_same c.unwrap.result.now row.0 (sym (subst (λ o. IfSome o (λ r. slice_get c.args.states.now.states.calls.items c.in-Some.call ≡ Some r.now)) c.unwrap.ensures c.state.ensures.state) ∙ row.1))) ∙ sym c.one_if_told-live.ensures)
          (counted_next c.args.channel c.in-Some.call c.loop-step.live c.args.states.now.states.calls.items row.0 row.1 (counted_skip c.args.channel c.loop-step.from c.in-Some.call c.loop-step.live c.args.states.now.states.calls.items c.in-Some.ensures.from (omega (arith, c.in-Some.ensures.there)) c.in-Some.ensures.first c.loop-step.invariant.so_far));
    }

pub overflow_add-from : goal.overflow_add-from
overflow_add-from g c = Fits-of_lt c.in-Some.ensures.small

pub overflow_add-live : goal.overflow_add-live
overflow_add-live g c =
    let row = get_some c.args.states.now.states.calls.items c.in-Some.call c.in-Some.ensures.there in
    let more = counted_next c.args.channel c.in-Some.call c.loop-step.live c.args.states.now.states.calls.items row.0 row.1 (counted_skip c.args.channel c.loop-step.from c.in-Some.call c.loop-step.live c.args.states.now.states.calls.items c.in-Some.ensures.from (omega (arith, c.in-Some.ensures.there)) c.in-Some.ensures.first c.loop-step.invariant.so_far) in
    let same : c.one_if_told-live.result ≡ one_if (is_told (ChannelClosed c.args.channel) row.0) = c.one_if_told-live.ensures ∙ ap (λ (q : CallState). one_if (is_told (ChannelClosed c.args.channel) q)) (some_same c.unwrap.result.now row.0 (sym (subst (λ o. IfSome o (λ r. slice_get c.args.states.now.states.calls.items c.in-Some.call ≡ Some r.now)) c.unwrap.ensures c.state.ensures.state) ∙ row.1)) in
    Fits-of_lt (omega (arith, more.counted, same, count_by-le-length (is_told (ChannelClosed c.args.channel)) c.args.states.now.states.calls.items, c.requires))

pub returns : goal.returns
returns g c = counted_all c.args.channel c.loop-step.from c.loop-step.live c.args.states.now.states.calls.items (omega (arith, c.loop-step.invariant.count, c.loop-step.invariant.ahead)) c.loop-step.invariant.so_far
