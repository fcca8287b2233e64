use Rattle.std.proofs.Common.{◌≡◌, Some, slice_get, refl, sym, subst}
use Rattle.rpc_journal.specs.table.Turns.{Turns}
use Rattle.rpc_calls.specs.StateChanges.{touch_of}
use Rattle.rpc_calls.proofs.RecordSteps.{Changed, call_there, can_under, handlers_kept, key_there, oldest_taken, stands_changed, still_there, turns_keep}
use Rattle.rpc_calls.proofs.call_records.CallRecords.change.Goals as goal

pub change_under-oldest-requires-clause-there : goal.change_under-oldest-requires-clause-there
change_under-oldest-requires-clause-there g c = key_there c.self.inside.records c.self.inside.places.items c.self.inside.shown.items c.self.inside.names c.args.call c.key_of-key.result c.self.invariant c.key_of-key.ensures

pub change_under-oldest-requires-clause-can : goal.change_under-oldest-requires-clause-can
change_under-oldest-requires-clause-can g c =
    can_under c.args.change c.self.inside.records c.self.inside.places.items c.self.inside.shown.items c.self.inside.names c.args.call c.key_of-key.result c.self.invariant c.key_of-key.ensures
    (λ r is. c.requires.can r (subst (λ t. slice_get t.states.calls.items c.args.call ≡ Some r) c.self.view_is is))

pub show-requires-clause-call : goal.show-requires-clause-call
show-requires-clause-call g c = call_there c.self.inside.records c.self.inside.places.items c.self.inside.shown.items c.self.inside.names c.args.call c.key_of-key.result c.self.invariant c.key_of-key.ensures

pub show-requires-clause-there : goal.show-requires-clause-there
show-requires-clause-there g c = still_there (λ r x. Turns c.args.at (touch_of c.args.change r) r x) c.self.inside.records c.change_under-oldest.new.records c.self.inside.places.items c.self.inside.shown.items c.self.inside.names c.args.call c.key_of-key.result c.self.invariant c.key_of-key.ensures c.change_under-oldest.ensures.change

-- What stands after the change.
changed : (g : _) (c : goal.After-show g) → Changed (λ r x. Turns c.args.at (touch_of c.args.change r) r x) c.args.call c.change_under-oldest.new.records c.self.inside.places.items c.self.inside.shown.items c.show.new.shown.items c.show.new.names
changed g c = stands_changed (λ r x. Turns c.args.at (touch_of c.args.change r) r x) c.self.inside.records c.change_under-oldest.new.records c.self.inside.places.items c.self.inside.shown.items c.show.new.shown.items c.self.inside.names c.show.new.names c.args.call c.key_of-key.result c.self.invariant c.key_of-key.ensures c.change_under-oldest.ensures.change (λ r x. turns_keep c.args.at (touch_of c.args.change r) r x) c.show.ensures.shown c.show.ensures.names

pub invariant_of-self : goal.invariant_of-self
invariant_of-self g c = (changed g c).stands

pub returns-clause-changes : goal.returns-clause-changes
returns-clause-changes g c =
    rw (sym c.self.view_is)
    (record {
      change = (changed g c).change;
      outside = record { newest = (changed g c).newest; unflushed = refl; input = refl; halt = refl; closed = refl };
      handlers = handlers_kept (λ r x. Turns c.args.at (touch_of c.args.change r) r x) c.self.inside.records c.change_under-oldest.new.records c.self.inside.places.items c.self.inside.shown.items c.self.inside.names c.args.call c.key_of-key.result c.self.invariant c.key_of-key.ensures c.change_under-oldest.ensures.change;
      places = refl;
    })

pub returns-clause-oldest : goal.returns-clause-oldest
returns-clause-oldest g c = λ r x was now.
    oldest_taken (λ r x. Turns c.args.at (touch_of c.args.change r) r x) c.self.inside.records c.change_under-oldest.new.records c.self.inside.places.items c.self.inside.shown.items c.show.new.shown.items c.self.inside.names c.args.call c.key_of-key.result c.change_under-oldest.result c.self.invariant c.key_of-key.ensures c.change_under-oldest.ensures.change c.show.ensures.shown c.change_under-oldest.ensures.oldest r x
    (subst (λ t. slice_get t.states.calls.items c.args.call ≡ Some r) (sym c.self.view_is) was) now
