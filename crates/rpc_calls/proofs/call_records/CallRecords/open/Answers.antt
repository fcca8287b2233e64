use Rattle.std.proofs.Common.{◌∙◌, refl, sym}
use Rattle.rpc_calls.proofs.LeaveSteps.{opened_so, stands_roomier}
use Rattle.rpc_calls.proofs.call_records.CallRecords.open.Goals as goal

pub invariant_of-self : goal.invariant_of-self
invariant_of-self g c =
    stands_roomier c.self.inside.records c.make_room.new.records c.self.inside.places.items c.make_room.new.places.items c.self.inside.shown.items c.make_room.new.shown.items c.self.inside.names c.self.inside.names c.self.invariant c.make_room.ensures.records c.make_room.ensures.places c.make_room.ensures.shown (λ name. refl)

pub invariant_of-self-in-Err-set : goal.invariant_of-self-in-Err-set
invariant_of-self-in-Err-set g c =
    stands_roomier c.self.inside.records c.make_room.new.records c.self.inside.places.items c.make_room.new.places.items c.self.inside.shown.items c.make_room.new.shown.items c.self.inside.names c.set.new.self c.self.invariant c.make_room.ensures.records c.make_room.ensures.places c.make_room.ensures.shown c.in-Err-set.ensures.err

pub invariant_of-self-2 : goal.invariant_of-self-2
invariant_of-self-2 g c =
    (opened_so c.self.inside.records c.make_room.new.records c.insert_reserved-key.new.self c.self.inside.places.items c.make_room.new.places.items c.push_reserved-2.new.self.items c.self.inside.shown.items c.make_room.new.shown.items c.push_reserved.new.self.items c.self.inside.names c.set.new.self c.insert_reserved-key.result c.len-call.result c.args.state c.of.result c.args.handler
    c.self.invariant c.make_room.ensures.records c.make_room.ensures.places c.make_room.ensures.shown (c.len-call.ensures ∙ c.make_room.new.places.ok.0) c.requires.live c.insert_reserved-key.ensures.was_vacant c.insert_reserved-key.ensures.updates c.of.ensures c.push_reserved.ensures.items c.push_reserved-2.ensures.items c.in_default-set.ensures.ok).stands

pub returns-clause-opens : goal.returns-clause-opens
returns-clause-opens g c =
    let opened = opened_so c.self.inside.records c.make_room.new.records c.insert_reserved-key.new.self c.self.inside.places.items c.make_room.new.places.items c.push_reserved-2.new.self.items c.self.inside.shown.items c.make_room.new.shown.items c.push_reserved.new.self.items c.self.inside.names c.set.new.self c.insert_reserved-key.result c.len-call.result c.args.state c.of.result c.args.handler
    c.self.invariant c.make_room.ensures.records c.make_room.ensures.places c.make_room.ensures.shown (c.len-call.ensures ∙ c.make_room.new.places.ok.0) c.requires.live c.insert_reserved-key.ensures.was_vacant c.insert_reserved-key.ensures.updates c.of.ensures c.push_reserved.ensures.items c.push_reserved-2.ensures.items c.in_default-set.ensures.ok in
    rw (sym c.self.view_is) (record {
      calls = opened.calls;
      newest = opened.newest;
      rest = record { unflushed = refl; input = refl; halt = refl; closed = refl };
      handlers = opened.handlers;
      key = c.insert_reserved-key.result;
      places = opened.placed;
    })
