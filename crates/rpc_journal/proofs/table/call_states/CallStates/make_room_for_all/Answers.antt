use Rattle.std.proofs.Common.{sym, ◌∙◌, below_more, arith}
use Rattle.rpc_journal.specs.table.Agrees.{HasRoomAt}
use Rattle.rpc_journal.proofs.table.RoomLemmas.{same_table_trans}
use Rattle.rpc_journal.proofs.table.call_states.CallStates.make_room_for_all.Goals as goal

pub returns-in_err-make_room-clause-same : goal.returns-in_err-make_room-clause-same
returns-in_err-make_room-clause-same c = same_table_trans _ _ _ c.loop-call.invariant.same c.make_room.ensures.same

pub loop-call-preserved : goal.loop-call-preserved
loop-call-preserved c = record {
  many = c.loop-call.invariant.many ∙ sym c.make_room.ensures.same.many;
  same = same_table_trans _ _ _ c.loop-call.invariant.same c.make_room.ensures.same;
  room = below_more (HasRoomAt c.make_room.new.self.calls.items) c.loop-call.call
      (λ k below. c.make_room.ensures.others k (c.loop-call.invariant.room k below)) c.in_ok-make_room.ensures.room;
}

pub returns-clause-room : goal.returns-clause-room
returns-clause-room c = λ call within. c.loop-call.invariant.room call (omega (arith, within, c.loop-call.invariant.many))
