use Rattle.std.proofs.Common.{◌+◌, ◌<◌, ◌^◌, arith}
use Rattle.rpc_journal.specs.declared.table.notice.Notice.TheVariants.{ChannelClosed}
use Rattle.rpc_journal.specs.table.Closing.{live_on}
use Rattle.rpc_journal.proofs.table.FollowLemmas.{room_for_all}
use Rattle.rpc_journal.proofs.table.RoomLemmas.{on_ok}
use Rattle.rpc_journal.proofs.table.call_states.CallStates.make_room_to_close.Goals as goal

pub returns-clause-room : goal.returns-clause-room
returns-clause-room c =
    let count : c.make_room_for_all.new.self.unflushed + live_on c.args.channel c.make_room_for_all.new.self.calls.items < 2 ^ 64 = omega (arith, c.in_ok-room_for.ensures, c.live_on.ensures) in
    on_ok c.reserve.result
    (λ place. record {
      room = room_for_all c.make_room_for_all.new.self (ChannelClosed c.args.channel) c.in_ok-make_room_for_all.ensures.room;
      count = count;
      place = omega (arith, place, c.reserve.ensures.len);
    })
    c.reserve.ensures.ok
