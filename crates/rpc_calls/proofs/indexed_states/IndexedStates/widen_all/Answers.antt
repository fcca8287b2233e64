use Rattle.std.proofs.Common.{◌≡◌, ◌∙◌, length, refl, subst, arith}
use Rattle.std.proofs.lemmas.Option.{slice_get_within}
use Rattle.std.proofs.Math.Facts.{Fits-of_lt}
use Rattle.rpc_calls.proofs.TellSteps.{opens_two, room_more}
use Rattle.rpc_calls.proofs.WiderSteps.{all_wider_refl, wider_more}
use Rattle.rpc_calls.proofs.indexed_states.IndexedStates.widen_all.Goals as goal

pub loop-step-init : goal.loop-step-init
loop-step-init g c = record {
  count = subst (λ t. c.len-count.result ≡ length t.states.calls.items) c.self.view_is c.len-count.ensures.many;
  ahead = omega arith;
  same = all_wider_refl c.args.self.now.states.calls.items;
  outside = record { newest = refl; unflushed = refl; input = refl; halt = refl; closed = refl };
  handlers = refl;
  room = λ k r below is live. absurd (omega (arith, below));
}

pub returns-in_default-clause-room : goal.returns-in_default-clause-room
returns-in_default-clause-room g c = opens_two c.loop-step.from c.loop-step.self.states.calls.items c.loop-step.invariant.room c.in_default.ensures.none

pub returns-in_err-widen-clause-same : goal.returns-in_err-widen-clause-same
returns-in_err-widen-clause-same g c = wider_more _ _ _ _ c.loop-step.invariant.same c.widen.ensures.same.change

pub overflow_add-from : goal.overflow_add-from
overflow_add-from g c = Fits-of_lt c.in-Some.ensures.small

pub loop-step-preserved : goal.loop-step-preserved
loop-step-preserved g c = record {
  count = c.loop-step.invariant.count;
  ahead = omega (arith, c.loop-step.invariant.ahead, c.in-Some.ensures.from);
  same = wider_more _ _ _ _ c.loop-step.invariant.same c.widen.ensures.same.change;
  outside = record {
    newest = c.widen.ensures.same.newest ∙ c.loop-step.invariant.outside.newest;
    closed = c.widen.ensures.same.closed ∙ c.loop-step.invariant.outside.closed;
    unflushed = c.widen.ensures.same.unflushed ∙ c.loop-step.invariant.outside.unflushed;
    input = c.widen.ensures.same.input ∙ c.loop-step.invariant.outside.input;
    halt = c.widen.ensures.same.halt ∙ c.loop-step.invariant.outside.halt;
  };
  handlers = c.widen.ensures.handlers ∙ c.loop-step.invariant.handlers;
  room = room_more c.loop-step.from c.in-Some.call c.loop-step.self.states.calls.items c.widen.new.self.states.calls.items c.loop-step.invariant.room c.in-Some.ensures.first c.widen.ensures.same.change c.in_ok-widen.ensures.room;
}

pub returns-clause-room : goal.returns-clause-room
returns-clause-room g c =
    opens_two c.loop-step.from c.loop-step.self.states.calls.items c.loop-step.invariant.room
    (λ k r from is. absurd (omega (arith, from, c.loop-step.invariant.count, c.loop-step.invariant.ahead, c.loop-step.invariant.same.many, slice_get_within c.loop-step.self.states.calls.items k r is)))
