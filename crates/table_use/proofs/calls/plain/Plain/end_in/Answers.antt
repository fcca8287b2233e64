use Rattle.rpc_journal.specs.declared.table.notice.Notice.TheVariants.{InputEnded}
use Rattle.rpc_journal.proofs.table.FollowLemmas.{room_for_all}
use Rattle.table_use.proofs.calls.plain.Plain.end_in.Goals as goal

pub end_in-requires : goal.end_in-requires
end_in-requires c = room_for_all c.make_room_for_all.new.self InputEnded c.in_ok-make_room_for_all.ensures.room
