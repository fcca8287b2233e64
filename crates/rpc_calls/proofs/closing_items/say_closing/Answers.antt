use Rattle.std.proofs.Common.{◌≡◌, ◌∙◌, ◌++◌, ◌∷◌, [], Some, IfSome, slice_get, if◌then◌else◌, refl, ap, sym, subst, arith}
use Rattle.std.proofs.Math.Facts.{Fits-of_lt}
use Rattle.rpc_ids.specs.declared.status.Status.TheVariants.{Aborted}
use Rattle.rpc_journal.specs.declared.table.call_state.CallState.{CallState}
use Rattle.rpc_journal.specs.declared.table.notice.Notice.TheVariants.{ChannelClosed}
use Rattle.rpc_journal.specs.Entries.{error_type}
use Rattle.rpc_journal.specs.Rows.{packet_item, status_packet}
use Rattle.rpc_journal.specs.table.Touch.{is_told}
use Rattle.rpc_journal.proofs.PlaceLemmas.{get_some, some_same}
use Rattle.rpc_calls.proofs.CloseTables.{all_said, said_end, said_none, said_skip, say_next, say_place}
use Rattle.rpc_calls.proofs.FactSteps.{kept_some, used_not_done}
use Rattle.rpc_calls.proofs.closing_items.say_closing.Goals as goal

pub loop-step-init : goal.loop-step-init
loop-step-init g c = record {
  count = c.count-count.ensures;
  ahead = omega arith;
  so_far = said_none c.args.role c.args.channel _ c.args.states.now.states.calls.items c.args.items.now.items c.requires.room;
  capacity = refl;
}

pub returns-in_default-clause-items : goal.returns-in_default-clause-items
returns-in_default-clause-items g c = said_end c.args.role c.args.channel c.loop-step.from _ c.args.states.now.states.calls.items c.loop-step.items.items _ c.in_default.ensures.none c.loop-step.invariant.so_far

pub unwrap-state-requires : goal.unwrap-state-requires
unwrap-state-requires g c =
    let row = get_some c.args.states.now.states.calls.items c.in-Some.call c.in-Some.ensures.there in
    kept_some c.state.result c.state.ensures.left (λ left. used_not_done row.0 (left row.0 row.1) (c.in-Some.ensures.used row.0 row.1))

pub say_closed-requires : goal.say_closed-requires
say_closed-requires g c = λ told.
    let row = get_some c.args.states.now.states.calls.items c.in-Some.call c.in-Some.ensures.there in
    say_place c.args.role c.args.channel c.in-Some.call _ c.args.states.now.states.calls.items row.0 c.loop-step.items.items _ row.1
    (ap (is_told (ChannelClosed c.args.channel)) (sym (some_same c.unwrap-state.result.now row.0 (sym (subst (λ o. IfSome o (λ r. slice_get c.args.states.now.states.calls.items c.in-Some.call ≡ Some r.now)) c.unwrap-state.ensures c.state.ensures.state) ∙ row.1))) ∙ told) (said_skip c.args.role c.args.channel c.loop-step.from c.in-Some.call _ c.args.states.now.states.calls.items c.loop-step.items.items _ c.in-Some.ensures.from (omega (arith, c.in-Some.ensures.there)) c.in-Some.ensures.first c.loop-step.invariant.so_far)

pub overflow_add-from : goal.overflow_add-from
overflow_add-from g c = Fits-of_lt c.in-Some.ensures.small

pub loop-step-preserved : goal.loop-step-preserved
loop-step-preserved g c =
    let row = get_some c.args.states.now.states.calls.items c.in-Some.call c.in-Some.ensures.there in
    record {
      count = c.loop-step.invariant.count;
      ahead = omega (arith, c.loop-step.invariant.ahead, c.in-Some.ensures.from);
      so_far = say_next c.args.role c.args.channel c.in-Some.call _ _ c.args.states.now.states.calls.items row.0 c.loop-step.items.items c.say_closed.new.items.items _ row.1
          (c.say_closed.ensures.items ∙ ap (λ (q : CallState). c.loop-step.items.items ++ (if is_told (ChannelClosed c.args.channel) q then packet_item c.in-Some.call (status_packet (error_type c.args.role) q.name Aborted) ∷ [] else [])) (some_same c.unwrap-state.result.now row.0 (sym (subst (λ o. IfSome o (λ r. slice_get c.args.states.now.states.calls.items c.in-Some.call ≡ Some r.now)) c.unwrap-state.ensures c.state.ensures.state) ∙ row.1)))
          c.say_closed.ensures.capacity (said_skip c.args.role c.args.channel c.loop-step.from c.in-Some.call _ c.args.states.now.states.calls.items c.loop-step.items.items _ c.in-Some.ensures.from (omega (arith, c.in-Some.ensures.there)) c.in-Some.ensures.first c.loop-step.invariant.so_far);
      capacity = c.say_closed.ensures.capacity ∙ c.loop-step.invariant.capacity;
    }

pub returns-clause-items : goal.returns-clause-items
returns-clause-items g c = all_said c.args.role c.args.channel c.loop-step.from _ c.args.states.now.states.calls.items c.loop-step.items.items _ (omega (arith, c.loop-step.invariant.count, c.loop-step.invariant.ahead)) c.loop-step.invariant.so_far
