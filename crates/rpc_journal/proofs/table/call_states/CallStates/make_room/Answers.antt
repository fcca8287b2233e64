use Rattle.std.proofs.Common.{length-set, refl}
use Rattle.rpc_journal.proofs.PlaceLemmas.{get_read}
use Rattle.rpc_journal.proofs.table.RoomLemmas.{has_room, on_ok, one_same}
use Rattle.rpc_journal.proofs.table.call_states.CallStates.make_room.Goals as goal

pub returns-clause-same : goal.returns-clause-same
returns-clause-same c =
    let there = get_read c.args.self.now.calls.items c.args.call c.index_mut.result.now c.requires c.index_mut.ensures.value in
    record {
      many = length-set c.args.self.now.calls.items c.args.call c.make_room.new.self;
      each = one_same c.args.self.now.calls.items c.args.call c.index_mut.result.now c.make_room.new.self there c.make_room.ensures.same;
      newest = λ name. refl;
      closed = refl;
      unflushed = refl;
      input = refl;
      halt = refl;
    }

pub returns-clause-room : goal.returns-clause-room
returns-clause-room c =
    on_ok c.make_room.result (has_room c.args.self.now.calls.items c.args.call c.make_room.new.self c.requires) c.make_room.ensures.room
