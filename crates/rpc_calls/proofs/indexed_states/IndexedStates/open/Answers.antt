use Rattle.std.proofs.Common.{◌<◌, ◌+◌, ◌^◌, ◌∙◌, length, refl, sym, subst, arith}
use Rattle.rpc_calls.specs.Indexed.{IsIndexed}
use Rattle.rpc_calls.specs.InUse.{AreKept}
use Rattle.rpc_calls.proofs.IndexSteps.{index_opened, index_widened}
use Rattle.rpc_calls.proofs.OpenedSteps.{kept_again, kept_opened, used_alike, used_opened}
use Rattle.rpc_calls.proofs.indexed_states.IndexedStates.open.Goals as goal

pub invariant_of-self-in-Ok : goal.invariant_of-self-in-Ok
invariant_of-self-in-Ok g c = record {
  indexed = index_opened c.self.inside.calls.states.calls.items c.self.inside.calls.states.calls.items c.open.new.self.states.calls.items (record { owed = c.self.inside.index.owed; waiting = c.make_places.new.self }) c.change.new.self c.len-call.result c.args.state c.none.result c.of-marks.result
      (index_widened c.self.inside.calls.states.calls.items c.self.inside.index (record { owed = c.self.inside.index.owed; waiting = c.make_places.new.self }) c.self.invariant.indexed refl c.make_places.ensures.calls c.make_places.ensures.kept)
      refl c.len-call.ensures.many c.in_default.ensures.places (let few = (subst (λ t. length t.states.calls.items + 1 < 2 ^ 32) (sym c.self.view_is) c.requires.few) in omega (arith, c.len-call.ensures.many, few)) c.in-Ok.ensures.opens.calls c.none.ensures c.of-marks.ensures c.change.ensures;
  kept = kept_opened c.self.inside.kept c.insert.new.self c.self.inside.calls.places c.open.new.self.places c.in-Ok.ensures.opens.key c.len-call.result c.self.invariant.kept (c.len-call.ensures.many ∙ sym c.len-call.ensures.placed)
      c.in_default-insert.ensures.ok c.in-Ok.ensures.opens.places;
  used = used_opened c.args.state c.args.handler c.self.inside.calls c.open.new.self c.self.invariant.used c.in-Ok.ensures.opens c.len-call.ensures.placed c.requires.live;
}

pub invariant_of-self-in-Err-open : goal.invariant_of-self-in-Err-open
invariant_of-self-in-Err-open g c = record {
  indexed = subst (λ ss. IsIndexed ss (record { owed = c.self.inside.index.owed; waiting = c.make_places.new.self })) (sym c.in-Err-open.ensures.err.calls)
      (index_widened c.self.inside.calls.states.calls.items c.self.inside.index (record { owed = c.self.inside.index.owed; waiting = c.make_places.new.self }) c.self.invariant.indexed refl c.make_places.ensures.calls c.make_places.ensures.kept);
  kept = subst (AreKept c.remove.new.self) (sym c.in-Err-open.ensures.err.places)
      (kept_again c.self.inside.kept c.insert.new.self c.remove.new.self c.self.inside.calls.places c.len-call.result c.self.invariant.kept (c.len-call.ensures.many ∙ sym c.len-call.ensures.placed) c.in_default-insert.ensures.ok c.remove.ensures);
  used = used_alike c.self.inside.calls c.open.new.self c.self.invariant.used c.in-Err-open.ensures.err;
}
