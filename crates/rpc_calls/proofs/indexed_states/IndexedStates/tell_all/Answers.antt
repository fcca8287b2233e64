use Rattle.std.proofs.Common.{◌≡◌, ◌∙◌, length, refl, sym, subst, arith}
use Rattle.rpc_journal.specs.table.Turns.{IsTold}
use Rattle.std.proofs.Math.Facts.{Fits-of_lt}
use Rattle.rpc_calls.proofs.PlaceChanges.{below_none, changes_all, changes_more}
use Rattle.rpc_calls.proofs.TellSteps.{told_all, told_to, told_used}
use Rattle.rpc_calls.proofs.indexed_states.IndexedStates.tell_all.Goals as goal

pub loop-step-init : goal.loop-step-init
loop-step-init g c = record {
  count = subst (λ t. c.len-count.result ≡ length t.states.calls.items) c.self.view_is c.len-count.ensures.many;
  ahead = omega arith;
  told = below_none (IsTold c.args.at c.args.notice) c.args.self.now.states.calls.items;
  outside = record { newest = refl; unflushed = refl; input = refl; halt = refl; closed = refl };
  handlers = refl;
}

pub returns-in_default : goal.returns-in_default
returns-in_default g c = record {
  calls = told_all c.args.at c.loop-step.from c.args.notice c.args.self.now.states.calls.items c.loop-step.self.states.calls.items c.loop-step.invariant.told c.in_default.ensures.none;
  outside = c.loop-step.invariant.outside;
  handlers = c.loop-step.invariant.handlers;
}

pub change-requires-clause-can : goal.change-requires-clause-can
change-requires-clause-can g c = λ r is told. c.requires.room c.in-Some.call r (sym (c.loop-step.invariant.told.rest c.in-Some.call c.in-Some.ensures.from) ∙ is) told

pub change-requires-clause-stays : goal.change-requires-clause-stays
change-requires-clause-stays g c = λ r x is turns. told_used c.args.at c.args.notice r x (c.in-Some.ensures.used r is) turns

pub overflow_add-from : goal.overflow_add-from
overflow_add-from g c = Fits-of_lt c.in-Some.ensures.small

pub loop-step-preserved : goal.loop-step-preserved
loop-step-preserved g c = record {
  count = c.loop-step.invariant.count;
  ahead = omega (arith, c.loop-step.invariant.ahead, c.in-Some.ensures.from);
  told = changes_more (IsTold c.args.at c.args.notice) c.in-Some.call c.args.self.now.states.calls.items c.loop-step.self.states.calls.items c.change.new.self.states.calls.items
      (told_to c.args.at c.loop-step.from c.in-Some.call c.args.notice c.args.self.now.states.calls.items c.loop-step.self.states.calls.items c.loop-step.invariant.told c.in-Some.ensures.from c.in-Some.ensures.first) c.change.ensures.changes.change;
  outside = record {
    newest = c.change.ensures.changes.outside.newest ∙ c.loop-step.invariant.outside.newest;
    closed = c.change.ensures.changes.outside.closed ∙ c.loop-step.invariant.outside.closed;
    unflushed = c.change.ensures.changes.outside.unflushed ∙ c.loop-step.invariant.outside.unflushed;
    input = c.change.ensures.changes.outside.input ∙ c.loop-step.invariant.outside.input;
    halt = c.change.ensures.changes.outside.halt ∙ c.loop-step.invariant.outside.halt;
  };
  handlers = c.change.ensures.changes.handlers ∙ c.loop-step.invariant.handlers;
}

pub returns : goal.returns
returns g c = record {
  calls = changes_all (IsTold c.args.at c.args.notice) c.loop-step.from _ _ c.loop-step.invariant.told (omega (arith, c.loop-step.invariant.count, c.loop-step.invariant.ahead));
  outside = c.loop-step.invariant.outside;
  handlers = c.loop-step.invariant.handlers;
}
