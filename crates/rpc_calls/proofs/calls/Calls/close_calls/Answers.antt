use Rattle.std.proofs.Common.{◌≡◌, ◌∙◌, ◌+◌, ◌≤◌, ◌++◌, ◌∷◌, [], None, Ok, length, refl, ap, sym, subst, arith}
use Rattle.std.specs.VecDeque.{deque_capacity}
use Rattle.rpc_journal.specs.declared.table.call_states.CallStates.{CallStates}
use Rattle.rpc_journal.specs.declared.entry.EntryKind.TheVariants.{Close}
use Rattle.rpc_journal.specs.declared.table.notice.Notice.TheVariants.{ChannelClosed}
use Rattle.rpc_journal.specs.Changes.{CloseDid}
use Rattle.rpc_journal.specs.table.Closing.{closing_items, live_on}
use Rattle.rpc_journal.specs.History.{adding}
use Rattle.rpc_journal.specs.table.Newest.{newest_of}
use Rattle.rpc_journal.specs.Refusals.{close_refusal}
use Rattle.rpc_journal.specs.table.Agrees.{HasRoomFor}
use Rattle.rpc_journal.specs.table.Turns.{IsTold}
use Rattle.rpc_calls.specs.Owed.{items_of, owed_by}
use Rattle.rpc_calls.specs.Places.{ChangesAll}
use Rattle.rpc_calls.proofs.CloseTables.{Closes, close_room, table_shut}
use Rattle.rpc_calls.proofs.OpenTables.{table_kept}
use Rattle.rpc_calls.proofs.calls.Calls.close_calls.Goals as goal

pub say_closing-requires-clause-room : goal.say_closing-requires-clause-room
say_closing-requires-clause-room g c = omega (
  arith,
  ap length c.in_ok-take_room.ensures.items,
  c.in_ok-take_room.ensures.places,
  c.count_live-ended.ensures,
  ap (live_on c.args.channel) c.in_ok-make_channel_place.ensures.calls,
)

pub say_closing-requires-clause-few : goal.say_closing-requires-clause-few
say_closing-requires-clause-few g c = omega (arith, ap length c.in_ok-make_channel_place.ensures.calls, c.self.invariant.room.few)

pub close_channel-requires-clause-room : goal.close_channel-requires-clause-room
close_channel-requires-clause-room g c =
    subst (λ cs. HasRoomFor (ChannelClosed c.args.channel) cs) (sym c.in_ok-make_channel_place.ensures.calls)
    (close_room g.H.Acts.now g.H.Acts.can_act g.H.Handler.rule c.self.inside.setting c.self.inside.journal c.args.channel c.self.inside.calls.states c.self.inside.calls.handlers c.self.inside.items.items _ c.self.invariant)

pub invariant_of-self-in_err-make_channel_place : goal.invariant_of-self-in_err-make_channel_place
invariant_of-self-in_err-make_channel_place g c =
    rw c.make_channel_place.ensures.handlers
    (table_kept g.H.Acts.now g.H.Acts.can_act g.H.Handler.rule c.self.inside.setting c.self.inside.journal c.take_room.new.journal c.self.inside.calls.states c.make_channel_place.new.self.states c.self.inside.calls.handlers c.self.inside.calls.handlers c.self.inside.items.items c.take_room.new.items.items (deque_capacity c.self.inside.items) (deque_capacity c.take_room.new.items) c.self.invariant
    refl c.in_err-make_channel_place.ensures.calls (λ name. ap (λ m. newest_of m name) c.in_err-make_channel_place.ensures.outside.newest)
    (record {
      unflushed = c.in_err-make_channel_place.ensures.outside.unflushed;
      input = c.in_err-make_channel_place.ensures.outside.input;
      halt = c.in_err-make_channel_place.ensures.outside.halt;
      closed = c.in_err-make_channel_place.ensures.outside.closed;
    })
    c.in_ok-take_room.ensures.entries c.in_ok-take_room.ensures.spare c.in_ok-take_room.ensures.items c.in_ok-take_room.ensures.capacity)

-- The table after the close.
shut : (g : _) (c : goal.After-push g)
    → Closes g.H.Acts.now g.H.Acts.can_act g.H.Handler.rule c.self.inside.setting c.self.inside.journal c.push.new.self c.args.seat c.args.channel c.count_live-ended.result c.set_unflushed.new.self.states c.self.inside.calls.handlers c.say_closing.new.items.items (deque_capacity c.say_closing.new.items)
shut g c =
    table_shut g.H.Acts.now g.H.Acts.can_act g.H.Handler.rule c.self.inside.setting c.self.inside.journal c.push.new.self c.args.seat c.args.channel c.len-at.result c.count_live-ended.result c.self.inside.calls.states c.set_unflushed.new.self.states c.self.inside.calls.handlers c.self.inside.items.items c.say_closing.new.items.items _ (deque_capacity c.say_closing.new.items) c.take_room.new.journal.spare c.self.invariant
    (subst (λ t. close_refusal t.setting t.entries c.args.channel ≡ None) (sym c.self.view_is) c.requires)
    c.len-at.ensures.len c.count_live-ended.ensures
    (subst (λ (t : CallStates). ChangesAll (IsTold c.len-at.result (ChannelClosed c.args.channel)) c.self.inside.calls.states.calls.items t.calls.items) (sym c.set_unflushed.ensures.states)
    (subst (λ cs. ChangesAll (IsTold c.len-at.result (ChannelClosed c.args.channel)) cs c.close_channel.new.self.states.calls.items) c.in_ok-make_channel_place.ensures.calls c.close_channel.ensures.calls))
    (ap (λ (t : CallStates). t.unflushed) c.set_unflushed.ensures.states ∙ c.len.ensures ∙ c.say_closing.new.items.ok.0)
    (ap (λ (t : CallStates). t.input_ended) c.set_unflushed.ensures.states ∙ c.close_channel.ensures.input ∙ c.in_ok-make_channel_place.ensures.outside.input)
    (ap (λ (t : CallStates). t.halted) c.set_unflushed.ensures.states ∙ c.close_channel.ensures.halt ∙ c.in_ok-make_channel_place.ensures.outside.halt)
    (ap (λ (t : CallStates). t.newest) c.set_unflushed.ensures.states ∙ c.close_channel.ensures.newest ∙ c.in_ok-make_channel_place.ensures.outside.newest)
    (ap (λ (t : CallStates). t.closed.items) c.set_unflushed.ensures.states ∙ c.close_channel.ensures.closed ∙ ap (λ xs. xs ++ c.args.channel ∷ []) c.in_ok-make_channel_place.ensures.outside.closed)
    (c.say_closing.ensures.items ∙ ap (λ xs. xs ++ closing_items c.self.inside.setting.role c.args.channel 0 c.make_channel_place.new.self.states.calls.items) c.in_ok-take_room.ensures.items
    ∙ ap (λ cs. c.self.inside.items.items ++ closing_items c.self.inside.setting.role c.args.channel 0 cs) c.in_ok-make_channel_place.ensures.calls)
    (c.push.ensures.entries ∙ ap (λ es. adding es c.args.seat (Close c.args.channel)) c.in_ok-take_room.ensures.entries)
    c.push.ensures.spare
    (subst (λ n. length c.self.inside.items.items + items_of (owed_by c.self.inside.calls.states.calls.items) + c.count_live-ended.result ≤ n) (sym c.say_closing.ensures.capacity) (subst (λ o. length c.self.inside.items.items + items_of o + c.count_live-ended.result ≤ deque_capacity c.take_room.new.items) c.owed.ensures.counts c.in_ok-take_room.ensures.places))
    (subst (λ o. length c.self.inside.items.items + items_of o + c.count_live-ended.result + (o.uncancelled + o.running + 2) + 1 ≤ c.take_room.new.journal.spare) c.owed.ensures.counts c.in_ok-take_room.ensures.records)

pub invariant_of-self-2 : goal.invariant_of-self-2
invariant_of-self-2 g c = rw (c.set_unflushed.ensures.handlers, c.close_channel.ensures.handlers, c.make_channel_place.ensures.handlers) (shut g c).table

pub returns-clause-did : goal.returns-clause-did
returns-clause-did g c =
    subst (λ t. CloseDid t.setting c.args.seat c.args.channel (Ok c.count_live-ended.result) t.entries c.push.new.self.entries) c.self.view_is
    (shut g c).did

pub returns-clause-legal : goal.returns-clause-legal
returns-clause-legal g c = (shut g c).table.legal
