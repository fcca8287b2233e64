-- Closed streams, calm and not, and what comes of one that isn't, computed from the definitions.
use Rattle.std.proofs.Common.{◌≡◌, ℕ, ◌<◌, Bool, true, false, ◌==◌, List, [], ◌∷◌, ◌++◌, slice_get, Some, None, option_map, unwrap_or, if◌then◌else◌, refl, ap, sym, ◌∙◌, subst, inr, arith}
use Rattle.std.proofs.lemmas.Bool.{true≢false}
use Rattle.rpc_ids.specs.declared.status.Status.{Status}
use Rattle.rpc_ids.specs.declared.status.Status.TheVariants as status
use Rattle.rpc_packet.specs.declared.call_name.CallName.{CallName}
use Rattle.rpc_packet.specs.declared.owned.Packet.{Packet}
use Rattle.rpc_packet.specs.declared.packet_type.PacketType.TheVariants.{Request, ClientStream, ClientError, ServerError, Completion}
use Rattle.rpc_handlers.specs.declared.answer.Answer.{Answer}
use Rattle.rpc_handlers.specs.declared.event.Event.{Event}
use Rattle.rpc_handlers.specs.declared.event.Event.TheVariants as event
use Rattle.rpc_handlers.specs.declared.event.Memo.{Memo}
use Rattle.rpc_handlers.specs.HandlerRule.{HandlerRule}
use Rattle.rpc_journal.specs.declared.entry.Entry.{Entry}
use Rattle.rpc_journal.specs.declared.entry.EntryKind.TheVariants.{Start, Finish, Flush, EndIn}
use Rattle.rpc_journal.specs.declared.item.Act.TheVariants.{Send}
use Rattle.rpc_journal.specs.declared.item.Item.{Item}
use Rattle.rpc_journal.specs.Choice.{GoesBefore, IsFirstReady}
use Rattle.rpc_journal.specs.Entries.{arrive_row}
use Rattle.rpc_journal.specs.History.{entry_by, history}
use Rattle.rpc_journal.specs.Items.{items_sent, packets_of}
use Rattle.rpc_journal.specs.Lawful.{broken}
use Rattle.rpc_journal.specs.Quiet.{is_settled}
use Rattle.rpc_journal.specs.Rows.{status_packet}
use Rattle.rpc_journal.proofs.DemoTable.{arrives, chat, count, echo, packet, server, watch}
use Rattle.rpc_journal.proofs.KnownLemmas.{ready_known}
use Rattle.rpc_journal.proofs.PlaceLemmas.{some_same}
use Rattle.rpc_schedule.specs.OneThread.{IsOneThreadHistory}
use Rattle.rpc_schedule.specs.Schedule.{Settles}
use Rattle.rpc_schedule.specs.Schedule.Stage.{running, flushing}
use Rattle.rpc_schedule.proofs.EntryLemmas.{none_ready}
use Rattle.run_report.specs.ItemsByCall.{replies}
use Rattle.run_laws.specs.calm.Alike.{AreAlike}
use Rattle.run_laws.specs.calm.Alone.{is_calm}
use Rattle.run_laws.specs.calm.Calm.{AreCalm}
use Rattle.run_laws.specs.calm.Taken.{IsServed}
use Rattle.run_laws.proofs.calm.ByPackets.{told_by_packets}

-- A REQUEST of Echo is answered with an end, and so is each completion. The state is the number of the method.

abbrev ended : List ℕ → Answer
ended payload = record { items = []; end = Some (record { status = status.Okay; payload = payload }) }

abbrev unended : Answer
unended = record { items = []; end = None }

abbrev is_echo : List ℕ → Bool
is_echo [] = false
is_echo (method ∷ words) = method == echo.method

abbrev answering : Memo → Event → Answer
answering m (event.Request payload) = if is_echo m.words then ended payload else unended
answering m event.Completion = ended []
answering m _ = unended

abbrev serving : HandlerRule
serving = record { ruled = true; answer = answering; next = λ m event. m; first = λ seed method. record { words = method.method ∷ []; parts = [] } }

calm_by_test : (packets : List Packet) → is_calm serving server packets ≡ true → AreCalm serving server packets
calm_by_test packets is = told_by_packets.enough serving server packets refl refl is

not_calm : (packets : List Packet) → is_calm serving server packets ≡ false → AreCalm serving server packets → ⊥
not_calm packets is calm = true≢false (sym (told_by_packets.needed serving server packets refl refl calm) ∙ is)

-- Echo, and Chat with a message and its completion

abbrev two_calls : List Packet
two_calls = packet Request echo (97 ∷ []) ∷ packet Request chat [] ∷ packet ClientStream chat (98 ∷ []) ∷ packet Completion chat [] ∷ []

two_calls_are_calm : AreCalm serving server two_calls
unfolding arrive_row
two_calls_are_calm = calm_by_test two_calls refl

-- Chat is requested, and what comes to it mixes with another call of Chat, and with a message to a call that isn't there

abbrev mixed : List Packet
mixed =
    packet Request chat [] ∷ packet Request (record chat { call = 2 }) [] ∷ packet ClientStream (record chat { call = 2 }) (98 ∷ []) ∷ packet ClientStream chat (99 ∷ [])
    ∷ packet Completion (record chat { call = 2 }) [] ∷ packet ClientStream count [] ∷ packet Completion chat [] ∷ []

mixed_are_calm : AreCalm serving server mixed
unfolding arrive_row
mixed_are_calm = calm_by_test mixed refl

-- no packet at all

none_are_calm : AreCalm serving server []
none_are_calm = calm_by_test [] refl

-- a message behind the answer to Echo

abbrev behind_the_end : List Packet
behind_the_end = packet Request echo (97 ∷ []) ∷ packet ClientStream echo (98 ∷ []) ∷ []

behind_the_end_is_not_calm : AreCalm serving server behind_the_end → ⊥
unfolding arrive_row
behind_the_end_is_not_calm calm = not_calm behind_the_end refl calm

-- a second completion, and a call name that is requested again

abbrev completed_twice : List Packet
completed_twice = packet Request chat [] ∷ packet Completion chat [] ∷ packet Completion chat [] ∷ []

completed_twice_is_not_calm : AreCalm serving server completed_twice → ⊥
unfolding arrive_row
completed_twice_is_not_calm calm = not_calm completed_twice refl calm

abbrev requested_twice : List Packet
requested_twice = packet Request chat [] ∷ packet Request chat [] ∷ []

requested_twice_is_not_calm : AreCalm serving server requested_twice → ⊥
unfolding arrive_row
requested_twice_is_not_calm calm = not_calm requested_twice refl calm

-- a CLIENT_ERROR, and a method that is told of the time

abbrev given_up : List Packet
given_up = packet Request chat [] ∷ packet ClientError chat [] ∷ []

given_up_is_not_calm : AreCalm serving server given_up → ⊥
unfolding arrive_row
given_up_is_not_calm calm = not_calm given_up refl calm

abbrev timed : List Packet
timed = packet Request watch [] ∷ []

timed_is_not_calm : AreCalm serving server timed → ⊥
timed_is_not_calm calm = not_calm timed refl calm

-- a reply of a server, of no call
abbrev reply : CallName → Status → Item
reply name s = record { call = None; act = Send (status_packet ServerError name s) }

-- What comes of a message behind the answer to Echo. On one thread the answer ends the call before the message comes, which then
-- finds no call. On another schedule the message comes first, to a call without a stream of messages. The replies are not the same.

abbrev request : Packet
request = packet Request echo (97 ∷ [])

abbrev message : Packet
message = packet ClientStream echo (98 ∷ [])

abbrev requested : List Entry
requested = arrives request ∷ []

abbrev answered : List Entry
answered = requested ++ entry_by 2 (Start 0) ∷ entry_by 2 (Finish 0 (ended (97 ∷ []))) ∷ []

abbrev flushed : List Entry
flushed = answered ++ entry_by 1 Flush ∷ []

abbrev heard_late : List Entry
heard_late = flushed ++ arrives message ∷ []

abbrev replied : List Entry
replied = heard_late ++ entry_by 1 Flush ∷ []

-- the history of one thread
abbrev one_by_one : List Entry
one_by_one = replied ++ entry_by 0 EndIn ∷ []

-- another history of the same packets
abbrev crossed : List Entry
crossed =
    arrives request ∷ arrives message ∷ entry_by 2 (Start 0) ∷ entry_by 2 (Finish 0 (ended (97 ∷ []))) ∷ entry_by 1 Flush ∷ entry_by 1 Flush
    ∷ entry_by 0 EndIn ∷ []

first_call : IsFirstReady (history server requested) 0
unfolding arrive_row
first_call = record { ready = refl; first = λ k ready. at k (ready_known server requested k ready) }
  where
    at : (k : ℕ) → k < 1 → GoesBefore (history server requested) 0 k
    at k below = let same : 0 ≡ k = omega (arith, below) in subst (GoesBefore (history server requested) 0) same (inr (refl, omega arith))

request_settles : Settles serving server requested flushed
unfolding arrive_row
request_settles = record {
  reaches = (
    3,
    (
      running answered,
      record { call = 0; answer = ended (97 ∷ []); first = first_call; by_rule = λ ruled. refl; adds = refl },
      (flushing answered, (none_ready server answered refl, refl), (flushing flushed, record { item = _; waits = refl; adds = refl }, refl)),
    ),
  );
  over = record { none_ready = none_ready server flushed refl; none_waits = refl };
}

message_settles : Settles serving server heard_late replied
unfolding arrive_row
message_settles = record {
  reaches = (2, (flushing heard_late, (none_ready server heard_late refl, refl), (flushing replied, record { item = _; waits = refl; adds = refl }, refl)));
  over = record { none_ready = none_ready server replied refl; none_waits = refl };
}

one_thread : IsOneThreadHistory serving server behind_the_end one_by_one
unfolding arrive_row
one_thread = record {
  before = replied;
  handled = (flushed, ([], refl, request_settles), message_settles);
  settled = record {
    reaches = (1, (flushing one_by_one, (none_ready server one_by_one refl, refl), refl));
    over = record { none_ready = none_ready server one_by_one refl; none_waits = refl };
  };
}

crossed_is_served : IsServed serving server behind_the_end crossed
unfolding arrive_row broken
crossed_is_served = record {
  legal = record {
    lawful = record { allowed = (((((((tt, refl), refl), refl), refl), refl), refl), refl) };
    answered = (((((((tt, tt), tt), tt), λ ruled m taken is_m is_taken. by_rule m taken is_m is_taken), tt), tt), tt);
  };
  kinds = (refl, (refl, (refl, (refl, (refl, (refl, (refl, tt)))))));
  heard = ([], refl);
  whole = λ ended. refl;
}
  where
    by_rule : (m : Memo) (taken : Event) → Some (record { words = echo.method ∷ []; parts = [] }) ≡ Some m → Some (event.Request (97 ∷ [])) ≡ Some taken → ended (97 ∷ []) ≡ answering m taken
    by_rule m taken is_m is_taken =
        subst (λ x. ended (97 ∷ []) ≡ answering x taken) (some_same (record { words = echo.method ∷ []; parts = [] }) m is_m)
        (subst (λ x. ended (97 ∷ []) ≡ answering (record { words = echo.method ∷ []; parts = [] }) x) (some_same (event.Request (97 ∷ [])) taken is_taken) refl)

crossed_is_settled : is_settled (history server crossed) ≡ true
unfolding arrive_row
crossed_is_settled = refl

told_on_one_thread : replies (items_sent (history server one_by_one)) ≡ reply echo status.FailedPrecondition ∷ []
unfolding arrive_row
told_on_one_thread = refl

told_when_crossed : replies (items_sent (history server crossed)) ≡ reply echo status.InvalidArgument ∷ []
unfolding arrive_row
told_when_crossed = refl

-- the status of the first packet among items
abbrev first_status : List Item → ℕ
first_status items = unwrap_or (option_map (λ p. p.status) (slice_get (packets_of items) 0)) 0

not_alike : AreAlike (history server crossed) (history server one_by_one) → ⊥
not_alike alike =
    let same : 3 ≡ 9 = ap first_status (sym told_when_crossed ∙ (alike.same_replies ∙ told_on_one_thread)) in
    omega (arith, same)
