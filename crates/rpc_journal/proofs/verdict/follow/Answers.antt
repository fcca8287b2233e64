use Rattle.std.proofs.Common.{ap, sym, ◌∙◌}
use Rattle.rpc_ids.specs.Registry.{method_of}
use Rattle.rpc_journal.specs.Lawful.{call_named}
use Rattle.rpc_journal.specs.declared.entry.EntryKind.TheVariants.{Arrive, Invoke, Say, Done, Start, Finish, Cancel, Tick, EndIn, Flush, Halt, Close, Replace}
use Rattle.rpc_journal.specs.declared.table.notice.Notice.TheVariants.{Time, InputEnded}
use Rattle.rpc_journal.proofs.table.FollowLemmas.{can_finish, can_flush, can_start, invokes_request, known_call, no_method, of_kind, replace_agrees, room_for_all}
use Rattle.rpc_journal.proofs.table.RoomLemmas.{on_ok, same_table_agrees}
use Rattle.rpc_journal.proofs.verdict.follow.Goals as goal

pub say-requires-clause-known : goal.say-requires-clause-known
say-requires-clause-known c =
    known_call c.requires.set c.requires.past c.args.states.now c.args.entry.now c.in-Say.call c.requires.agrees c.requires.allowed (ap call_named c.in-Say.is)

pub start-requires : goal.start-requires
start-requires c =
    can_start c.requires.set c.requires.past c.args.states.now c.args.entry.now c.in-Start.call c.requires.agrees c.requires.allowed c.in-Start.is

pub finish-requires : goal.finish-requires
finish-requires c =
    can_finish c.args.role c.requires.set c.requires.past c.args.states.now c.args.entry.now c.in-Finish.call c.in-Finish.a c.requires.agrees c.requires.allowed c.in-Finish.is c.in_ok-room_for-in-Finish.ensures

pub cancel-requires : goal.cancel-requires
cancel-requires c = record {
  within = known_call c.requires.set c.requires.past c.args.states.now c.args.entry.now c.in-Cancel.call c.requires.agrees c.requires.allowed (ap call_named c.in-Cancel.is);
  room = c.in_ok-room_for-in-Cancel.ensures;
}

pub tick-requires : goal.tick-requires
tick-requires c = room_for_all c.make_room_for_all.new.self (Time c.in-Tick.now) c.in_ok-make_room_for_all-in-Tick.ensures.room

pub end_in-requires : goal.end_in-requires
end_in-requires c = room_for_all c.make_room_for_all-in-EndIn.new.self InputEnded c.in_ok-make_room_for_all-in-EndIn.ensures.room

pub flush-requires : goal.flush-requires
flush-requires c = can_flush c.requires.set c.requires.past c.args.states.now c.args.entry.now c.requires.agrees c.requires.allowed c.in-Flush.is

pub returns-in-Arrive : goal.returns-in-Arrive
returns-in-Arrive c =
    on_ok c.arrive.result
    (λ inner set ds is place fits agrees.
    of_kind set ds c.args.entry.now (Arrive c.in-Arrive.p) c.arrive.new.self c.in-Arrive.is
    (inner set ds c.args.entry.now.seat place (c.move_at-arrival.ensures.row set ds is agrees) agrees))
    c.arrive.ensures.agrees

pub returns-in_ok-room_for-in-Say : goal.returns-in_ok-room_for-in-Say
returns-in_ok-room_for-in-Say c = λ set ds is place fits agrees.
    of_kind set ds c.args.entry.now (Say c.in-Say.call c.in-Say.field-1) c.say.new.self c.in-Say.is
    (c.say.ensures.agrees set ds c.args.entry.now.seat c.in-Say.field-1 agrees)

pub returns-in-Start : goal.returns-in-Start
returns-in-Start c = λ set ds is place fits agrees.
    of_kind set ds c.args.entry.now (Start c.in-Start.call) c.start.new.self c.in-Start.is (c.start.ensures.agrees set ds agrees)

pub returns-in_ok-room_for-in-Finish : goal.returns-in_ok-room_for-in-Finish
returns-in_ok-room_for-in-Finish c = λ set ds is place fits agrees.
    of_kind set ds c.args.entry.now (Finish c.in-Finish.call c.in-Finish.a) c.finish.new.self c.in-Finish.is
    (c.finish.ensures.agrees set ds c.args.entry.now.seat is.role agrees)

pub returns-in_ok-room_for-in-Cancel : goal.returns-in_ok-room_for-in-Cancel
returns-in_ok-room_for-in-Cancel c = λ set ds is place fits agrees.
    of_kind set ds c.args.entry.now (Cancel c.in-Cancel.call) c.cancel.new.self c.in-Cancel.is
    (c.cancel.ensures.agrees set ds c.args.entry.now.seat agrees)

pub returns-in_ok-make_room_for_all-in-Tick : goal.returns-in_ok-make_room_for_all-in-Tick
returns-in_ok-make_room_for_all-in-Tick c = λ set ds is place fits agrees.
    of_kind set ds c.args.entry.now (Tick c.in-Tick.now) c.tick.new.self c.in-Tick.is
    (c.tick.ensures.agrees set ds c.args.entry.now.seat place (same_table_agrees ds _ _ c.make_room_for_all.ensures.same agrees))

pub returns-in_ok-make_room_for_all-in-EndIn : goal.returns-in_ok-make_room_for_all-in-EndIn
returns-in_ok-make_room_for_all-in-EndIn c = λ set ds is place fits agrees.
    of_kind set ds c.args.entry.now EndIn c.end_in.new.self c.in-EndIn.is
    (c.end_in.ensures.agrees set ds c.args.entry.now.seat place (same_table_agrees ds _ _ c.make_room_for_all-in-EndIn.ensures.same agrees))

pub returns-in-Flush : goal.returns-in-Flush
returns-in-Flush c = λ set ds is place fits agrees.
    of_kind set ds c.args.entry.now Flush c.flush.new.self c.in-Flush.is (c.flush.ensures.agrees set ds c.args.entry.now.seat agrees)

pub returns-in-Halt : goal.returns-in-Halt
returns-in-Halt c = λ set ds is place fits agrees.
    of_kind set ds c.args.entry.now (Halt c.in-Halt.why) c.halt.new.self c.in-Halt.is (c.halt.ensures.agrees set ds c.args.entry.now.seat agrees)

pub returns-in_ok-make_room_to_close-in-Close : goal.returns-in_ok-make_room_to_close-in-Close
returns-in_ok-make_room_to_close-in-Close c = λ set ds is place fits agrees.
    of_kind set ds c.args.entry.now (Close c.in-Close.channel) c.close_channel.new.self c.in-Close.is
    (c.close_channel.ensures.agrees set ds c.args.entry.now.seat place (same_table_agrees ds _ _ c.make_room_to_close.ensures.same agrees))

pub returns-in-Replace : goal.returns-in-Replace
returns-in-Replace c = λ set ds is place fits agrees.
    of_kind set ds c.args.entry.now (Replace c.in-Replace.field-0 c.in-Replace.field-1) c.args.states.now c.in-Replace.is
    (replace_agrees ds c.args.entry.now.seat c.in-Replace.field-0 c.in-Replace.field-1 c.args.states.now agrees)

pub done-requires-clause-known : goal.done-requires-clause-known
done-requires-clause-known c =
    known_call c.requires.set c.requires.past c.args.states.now c.args.entry.now c.in-Done.call c.requires.agrees c.requires.allowed (ap call_named c.in-Done.is)

pub returns-in_ok-room_for-in-Done : goal.returns-in_ok-room_for-in-Done
returns-in_ok-room_for-in-Done c = λ set ds is place fits agrees.
    of_kind set ds c.args.entry.now (Done c.in-Done.call) c.done.new.self c.in-Done.is
    (c.done.ensures.agrees set ds c.args.entry.now.seat agrees)

pub returns-in_ok-state-in-Some : goal.returns-in_ok-state-in-Some
returns-in_ok-state-in-Some c =
    on_ok c.invoke.result
    (λ inner set ds is place fits agrees.
    of_kind set ds c.args.entry.now (Invoke c.in-Invoke.p c.in-Invoke.field-1) c.invoke.new.self c.in-Invoke.is
    (inner set ds c.args.entry.now.seat c.in-Invoke.p c.in-Invoke.field-1 c.in-Some.method
    (invokes_request set ds c.args.entry.now c.in-Invoke.p c.in-Invoke.field-1 fits c.in-Invoke.is).request
    (ap (λ methods. method_of methods c.in-Invoke.p.name.service c.in-Invoke.p.name.method) is.registry ∙ sym c.in-Some.ensures.value)
    c.in_ok-state-in-Some.ensures.state agrees))
    c.invoke.ensures.agrees

pub returns-in-None : goal.returns-in-None
returns-in-None c = λ set ds is place fits agrees.
    no_method set ds c.args.entry.now c.in-Invoke.p c.in-Invoke.field-1 fits c.in-Invoke.is
    (ap (λ methods. method_of methods c.in-Invoke.p.name.service c.in-Invoke.p.name.method) is.registry ∙ sym c.in-None.ensures.value)
