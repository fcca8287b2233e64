use Rattle.std.proofs.Common.{refl, sym}
use Rattle.std.proofs.lemmas.Result.{on_ok_weaker}
use Rattle.rpc_calls.specs.Widened.{HasTwoPlaces, IsWider}
use Rattle.rpc_calls.proofs.RecordSteps.{Changed, call_there, handlers_kept, key_there, room_shown, stands_changed, still_there, wider_keeps}
use Rattle.rpc_calls.proofs.call_records.CallRecords.widen.Goals as goal

pub widen_under-widened-requires : goal.widen_under-widened-requires
widen_under-widened-requires g c = key_there c.self.inside.records c.self.inside.places.items c.self.inside.shown.items c.self.inside.names c.args.call c.key_of-key.result c.self.invariant c.key_of-key.ensures

pub show-requires-clause-call : goal.show-requires-clause-call
show-requires-clause-call g c = call_there c.self.inside.records c.self.inside.places.items c.self.inside.shown.items c.self.inside.names c.args.call c.key_of-key.result c.self.invariant c.key_of-key.ensures

pub show-requires-clause-there : goal.show-requires-clause-there
show-requires-clause-there g c = still_there IsWider c.self.inside.records c.widen_under-widened.new.records c.self.inside.places.items c.self.inside.shown.items c.self.inside.names c.args.call c.key_of-key.result c.self.invariant c.key_of-key.ensures c.widen_under-widened.ensures.change

-- What stands after the change.
changed : (g : _) (c : goal.After-show g) → Changed IsWider c.args.call c.widen_under-widened.new.records c.self.inside.places.items c.self.inside.shown.items c.show.new.shown.items c.show.new.names
changed g c = stands_changed IsWider c.self.inside.records c.widen_under-widened.new.records c.self.inside.places.items c.self.inside.shown.items c.show.new.shown.items c.self.inside.names c.show.new.names c.args.call c.key_of-key.result c.self.invariant c.key_of-key.ensures c.widen_under-widened.ensures.change wider_keeps c.show.ensures.shown c.show.ensures.names

pub invariant_of-self : goal.invariant_of-self
invariant_of-self g c = (changed g c).stands

pub returns-clause-changes : goal.returns-clause-changes
returns-clause-changes g c =
    rw (sym c.self.view_is)
    (record {
      change = (changed g c).change;
      outside = record { newest = (changed g c).newest; unflushed = refl; input = refl; halt = refl; closed = refl };
      handlers = handlers_kept IsWider c.self.inside.records c.widen_under-widened.new.records c.self.inside.places.items c.self.inside.shown.items c.self.inside.names c.args.call c.key_of-key.result c.self.invariant c.key_of-key.ensures c.widen_under-widened.ensures.change;
      places = refl;
    })

pub returns-clause-room : goal.returns-clause-room
returns-clause-room g c =
    on_ok_weaker c.widen_under-widened.result (λ has. room_shown IsWider HasTwoPlaces c.self.inside.records c.widen_under-widened.new.records c.self.inside.places.items c.self.inside.shown.items c.show.new.shown.items c.self.inside.names c.args.call c.key_of-key.result c.self.invariant c.key_of-key.ensures c.widen_under-widened.ensures.change c.show.ensures.shown has)
    c.widen_under-widened.ensures.room
