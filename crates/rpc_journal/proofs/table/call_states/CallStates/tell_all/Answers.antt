use Rattle.std.proofs.Common.{◌<◌, length, length-set, ◌∙◌, arith}
use Rattle.std.proofs.lemmas.Option.{slice_get_within}
use Rattle.rpc_journal.proofs.PlaceLemmas.{get_read}
use Rattle.rpc_journal.proofs.table.NoticeLemmas.{told_more}
use Rattle.rpc_journal.proofs.table.StepLemmas.{get_other}
use Rattle.rpc_journal.proofs.table.call_states.CallStates.tell_all.Goals as goal

pub loop-call-preserved : goal.loop-call-preserved
loop-call-preserved c =
    let there = get_read c.loop-call.self.calls.items c.loop-call.call c.index_mut-state.result.now (omega arith) c.index_mut-state.ensures.value in
    record {
      count = c.loop-call.invariant.count;
      many = length-set c.loop-call.self.calls.items c.loop-call.call c.tell.new.self ∙ c.loop-call.invariant.many;
      told = told_more c.args.at c.args.notice _ c.loop-call.self.calls.items c.loop-call.call c.index_mut-state.result.now c.tell.new.self there
          c.loop-call.invariant.told (c.loop-call.invariant.rest c.loop-call.call (omega arith)) c.tell.ensures.state.is;
      rest = λ k from. get_other c.loop-call.self.calls.items c.loop-call.call k c.tell.new.self (λ same. omega (arith, same, from)) ∙ c.loop-call.invariant.rest k (omega (arith, from));
      newest = c.loop-call.invariant.newest;
      closed = c.loop-call.invariant.closed;
      unflushed = c.loop-call.invariant.unflushed;
      input = c.loop-call.invariant.input;
      halt = c.loop-call.invariant.halt;
    }

pub returns-clause-calls : goal.returns-clause-calls
returns-clause-calls c = record {
  many = c.loop-call.invariant.many;
  each = λ k r x before after.
      let within : k < length c.args.self.now.calls.items = slice_get_within _ _ _ before in
      c.loop-call.invariant.told k r x (omega (arith, within, c.loop-call.invariant.count)) before after;
}
