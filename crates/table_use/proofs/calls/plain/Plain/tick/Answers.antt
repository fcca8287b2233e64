use Rattle.rpc_journal.specs.declared.table.notice.Notice.TheVariants.{Time}
use Rattle.rpc_journal.proofs.table.FollowLemmas.{room_for_all}
use Rattle.table_use.proofs.calls.plain.Plain.tick.Goals as goal

pub tick-requires : goal.tick-requires
tick-requires c = room_for_all c.make_room_for_all.new.self (Time c.args.now) c.in_ok-make_room_for_all.ensures.room
