-- Closed histories, computed from the definitions.
use Rattle.std.proofs.Common.{◌≡◌, ℕ, true, false, List, [], ◌∷◌, ◌++◌, map, slice_get, replicate, Some, None, is_none, unwrap_or, refl}
use Rattle.link_io.specs.declared.why.Why.TheVariants as why
use Rattle.rpc_ids.specs.declared.status.Status.{Status}
use Rattle.rpc_ids.specs.declared.status.Status.TheVariants as status
use Rattle.rpc_packet.specs.declared.call_name.CallName.{CallName}
use Rattle.rpc_packet.specs.declared.owned.Packet.{Packet}
use Rattle.rpc_packet.specs.declared.packet_type.PacketType.TheVariants.{Request, Response, ClientStream, ClientError, ServerError, ServerStream, Completion}
use Rattle.rpc_handlers.specs.declared.answer.Answer.{Answer}
use Rattle.rpc_handlers.specs.declared.event.Event.TheVariants as event
use Rattle.rpc_handlers.specs.declared.event.Memo.{Memo}
use Rattle.rpc_handlers.specs.declared.answer.Out.TheVariants.{Say as SaysMessage, Commit as SavesAt}
use Rattle.rpc_handlers.specs.HandlerRule.{HandlerRule, empty_memo}
use Rattle.rpc_journal.specs.declared.answers.Arrived.TheVariants.{Opened, Queued, Closed, Answered, Dropped}
use Rattle.rpc_journal.specs.declared.answers.ArriveRefused.TheVariants as arrive
use Rattle.rpc_journal.specs.declared.answers.InvokeRefused.TheVariants as invoke
use Rattle.rpc_journal.specs.declared.answers.SayRefused.TheVariants as say
use Rattle.rpc_journal.specs.declared.answers.StartOfRefused.TheVariants as start_of
use Rattle.rpc_journal.specs.declared.answers.ReplaceRefused.TheVariants as replace
use Rattle.rpc_journal.specs.declared.answers.CloseRefused.TheVariants as close
use Rattle.rpc_journal.specs.declared.answers.Cancelled.TheVariants.{Quiet, Running}
use Rattle.rpc_journal.specs.declared.entry.Entry.{Entry}
use Rattle.rpc_journal.specs.declared.entry.EntryKind.TheVariants.{Invoke, Done, Start, Finish, Replace, Cancel, Tick, Flush, EndIn, Halt, Close}
use Rattle.rpc_journal.specs.declared.fault.Broken.TheVariants.{Seat, AfterEnd, Refused, Nothing}
use Rattle.rpc_journal.specs.declared.item.Item.{Item}
use Rattle.rpc_journal.specs.declared.item.Act.TheVariants.{Send}
use Rattle.rpc_journal.specs.Calls.{call_count, end_of, has_end, is_cancelled, runner_of}
use Rattle.rpc_journal.specs.Queues.{waiting_of, taken_event}
use Rattle.rpc_journal.specs.Items.{flush_count, is_ready, items_sent}
use Rattle.rpc_journal.specs.Quiet.{is_quiet, is_settled}
use Rattle.rpc_journal.specs.States.{state_of}
use Rattle.rpc_journal.specs.Rows.{channels_in, no_effect, says_item, status_packet, packet_item}
use Rattle.rpc_journal.specs.Entries.{arrive_row, store_item, leave_item}
use Rattle.rpc_journal.specs.History.{history, entry_by}
use Rattle.rpc_journal.specs.Lawful.{broken, IsLawful}
use Rattle.rpc_journal.specs.Choice.{oldest_place}
use Rattle.rpc_journal.specs.Refusals.{arrive_refusal, invoke_refusal, say_refusal, done_refusal, start_of_refusal, replace_refusal, close_refusal}
use Rattle.rpc_journal.specs.Changes.{cancel_answer, is_spent}
use Rattle.rpc_journal.proofs.DemoTable.{server, client, echo, count, sum, chat, watch, packet, arrives}

-- a reply of a server, of no call
abbrev reply : CallName → Status → Item
reply name s = record { call = None; act = Send (status_packet ServerError name s) }

-- Chat is requested, and the same name again: the first call is cancelled without a packet, and runs first

abbrev chat_request : Packet
chat_request = packet Request chat []

abbrev requested : List Entry
requested = arrives chat_request ∷ []

abbrev requested_again : List Entry
requested_again = arrives chat_request ∷ arrives chat_request ∷ []

opens_first : (arrive_row server [] chat_request).answer ≡ Opened 0
unfolding arrive_row
opens_first = refl

opens_second : (arrive_row server (history server requested) chat_request).answer ≡ Opened 1
unfolding arrive_row
opens_second = refl

first_is_cancelled : end_of (history server requested_again) 0 ≡ Some status.Cancelled
unfolding arrive_row
first_is_cancelled = refl

second_lives : has_end (history server requested_again) 1 ≡ false
unfolding arrive_row
second_lives = refl

nothing_is_said : items_sent (history server requested_again) ≡ []
unfolding arrive_row
nothing_is_said = refl

both_ready : (is_ready (history server requested_again) 0 ≡ true) × (is_ready (history server requested_again) 1 ≡ true)
unfolding arrive_row
both_ready = (refl, refl)

first_goes_before : (oldest_place (history server requested_again) 0 ≡ 1) × (oldest_place (history server requested_again) 1 ≡ 1)
unfolding arrive_row
first_goes_before = (refl, refl)

first_takes_ended : taken_event (history server (requested_again ++ entry_by 2 (Start 0) ∷ [])) 0 ≡ Some (event.Ended status.Cancelled)
unfolding arrive_row
first_takes_ended = refl

-- Sum is requested and completed, then a message comes: it is refused, and the call lives on

abbrev completed_sum : List Entry
completed_sum = arrives (packet Request sum []) ∷ arrives (packet Completion sum []) ∷ []

abbrev late_message : List Entry
late_message = completed_sum ++ arrives (packet ClientStream sum (5 ∷ [])) ∷ []

late_is_answered : (arrive_row server (history server completed_sum) (packet ClientStream sum (5 ∷ []))).answer ≡ Answered
unfolding arrive_row
late_is_answered = refl

late_is_refused : items_sent (history server late_message) ≡ reply sum status.FailedPrecondition ∷ []
unfolding arrive_row
late_is_refused = refl

sum_lives_on : has_end (history server late_message) 0 ≡ false
unfolding arrive_row
sum_lives_on = refl

-- Echo is requested and not started, and a message comes to it

abbrev message_to_echo : List Entry
message_to_echo = arrives (packet Request echo []) ∷ arrives (packet ClientStream echo (5 ∷ [])) ∷ []

echo_has_no_stream : items_sent (history server message_to_echo) ≡ reply echo status.InvalidArgument ∷ []
unfolding arrive_row
echo_has_no_stream = refl

echo_is_answered : (arrive_row server (history server (arrives (packet Request echo []) ∷ [])) (packet ClientStream echo (5 ∷ []))).answer ≡ Answered
unfolding arrive_row
echo_is_answered = refl

-- an unknown method, and channel 9

abbrev unknown : CallName
unknown = record chat { method = 6 }

abbrev elsewhere : CallName
elsewhere = record chat { channel = 9 }

error_for_nobody : arrive_row server [] (packet ClientError unknown []) ≡ record { does = no_effect; answer = Dropped }
unfolding arrive_row
error_for_nobody = refl

request_for_nobody : arrive_row server [] (packet Request unknown []) ≡ record { does = says_item (reply unknown status.NotFound); answer = Answered }
unfolding arrive_row
request_for_nobody = refl

request_from_elsewhere : arrive_row server [] (packet Request elsewhere []) ≡ record { does = says_item (reply elsewhere status.Unavailable); answer = Answered }
unfolding arrive_row
request_from_elsewhere = refl

-- Chat is requested and started, its handler is replaced, and the run finishes: the old handler comes back, and the
-- new one keeps its state

abbrev no_answer : Answer
no_answer = record { items = []; end = None }

abbrev new_state : Memo
new_state = record { words = 9 ∷ []; parts = [] }

abbrev running : List Entry
running = requested ++ entry_by 2 (Start 0) ∷ []

abbrev replaced : List Entry
replaced = running ++ entry_by 3 (Replace 0 new_state) ∷ []

abbrev refinished : List Entry
refinished = replaced ++ entry_by 2 (Finish 0 no_answer) ∷ []

replace_is_accepted : replace_refusal server running 0 ≡ None
unfolding arrive_row
replace_is_accepted = refl

replace_keeps_the_old_out : is_none (runner_of (history server running) 0) ≡ false
unfolding arrive_row
replace_keeps_the_old_out = refl

old_comes_back : is_spent (history server replaced) (history server refinished) 0 ≡ true
unfolding arrive_row
old_comes_back = refl

new_keeps_its_state : (rule : HandlerRule) → state_of rule server (history server refinished) 0 ≡ Some new_state
unfolding arrive_row
new_keeps_its_state rule = refl

-- seat 2 runs Chat, seat 3 cancels it, seat 2 finishes, and seat 3 cancels again

abbrev cancelled : List Entry
cancelled = running ++ entry_by 3 (Cancel 0) ∷ []

abbrev quieted : List Entry
quieted = cancelled ++ entry_by 2 (Finish 0 no_answer) ∷ []

cancel_tells_the_runner : cancel_answer (unwrap_or (end_of (history server running) 0) status.Cancelled) (runner_of (history server running) 0) ≡ Running status.Cancelled 2
unfolding arrive_row
cancel_tells_the_runner = refl

cancelled_isnt_quiet : is_quiet (history server cancelled) 0 ≡ false
unfolding arrive_row
cancelled_isnt_quiet = refl

handler_comes_back : is_spent (history server cancelled) (history server quieted) 0 ≡ true
unfolding arrive_row
handler_comes_back = refl

finish_only_leaves : items_sent (history server quieted) ≡ packet_item 0 (status_packet ServerError chat status.Cancelled) ∷ leave_item 0 ∷ []
unfolding arrive_row
finish_only_leaves = refl

second_cancel_adds_nothing : is_cancelled (history server quieted) 0 ≡ true
unfolding arrive_row
second_cancel_adds_nothing = refl

second_cancel_is_quiet : cancel_answer (unwrap_or (end_of (history server quieted) 0) status.Cancelled) (runner_of (history server quieted) 0) ≡ Quiet status.Cancelled
unfolding arrive_row
second_cancel_is_quiet = refl

-- Chat is requested, and 63 messages wait behind its Request: one more has no place

abbrev chat_message : Packet
chat_message = packet ClientStream chat (5 ∷ [])

abbrev with_messages : ℕ → List Entry
with_messages n = requested ++ replicate n (arrives chat_message)

last_is_queued : (arrive_row server (history server (with_messages 62)) chat_message).answer ≡ Queued 0
unfolding arrive_row
last_is_queued = refl

last_is_accepted : arrive_refusal server (with_messages 62) chat_message ≡ None
unfolding arrive_row
last_is_accepted = refl

one_more_is_refused : arrive_refusal server (with_messages 63) chat_message ≡ Some (arrive.QueueFull 0)
unfolding arrive_row
one_more_is_refused = refl

-- a new table: no call is ready, none is there, and nothing waits

none_is_ready : (is_ready [] 0 ≡ false) × (is_ready [] 9 ≡ false)
none_is_ready = (refl, refl)

running_isnt_ready : start_of_refusal server running 0 ≡ Some start_of.NotReady
unfolding arrive_row
running_isnt_ready = refl

ninth_is_unknown : replace_refusal server running 9 ≡ Some replace.Unknown
unfolding arrive_row
ninth_is_unknown = refl

nothing_to_flush : slice_get (items_sent (history server [])) (flush_count (history server [])) ≡ None
nothing_to_flush = refl

tick_for_nobody : waiting_of (history server (running ++ entry_by 1 (Tick 5) ∷ [])) 0 ≡ []
unfolding arrive_row
tick_for_nobody = refl

-- a client invokes Count, the name is live, it has no stream up, and is completed once

abbrev invoked : List Entry
invoked = entry_by 2 (Invoke (packet Request count (3 ∷ [])) empty_memo) ∷ []

abbrev done_once : List Entry
done_once = invoked ++ entry_by 2 (Done 0) ∷ []

invoke_is_accepted : (invoke_refusal client [] count ≡ None) × (call_count (history client []) ≡ 0)
invoke_is_accepted = (refl, refl)

name_is_live : invoke_refusal client invoked count ≡ Some (invoke.Live 0)
name_is_live = refl

count_has_no_stream : say_refusal client invoked 0 (SaysMessage (5 ∷ [])) ≡ Some say.NoStream
count_has_no_stream = refl

done_is_accepted : done_refusal client invoked 0 ≡ None
done_is_accepted = refl

done_twice : done_refusal client done_once 0 ≡ Some say.Completed
done_twice = refl

-- a client is sent a message and a response for no call

message_for_no_call : arrive_row client [] (packet ServerStream chat (5 ∷ [])) ≡ record { does = says_item (record { call = None; act = Send (status_packet ClientError chat status.FailedPrecondition) }); answer = Answered }
unfolding arrive_row
message_for_no_call = refl

response_for_no_call : arrive_row client [] (packet Response chat []) ≡ record { does = no_effect; answer = Dropped }
unfolding arrive_row
response_for_no_call = refl

-- a client's Echo is answered: the payload waits, and then the end; its Count is: the end alone

abbrev invoked_echo : List Entry
invoked_echo = entry_by 2 (Invoke (packet Request echo []) empty_memo) ∷ []

echo_is_closed : (arrive_row client (history client invoked_echo) (packet Response echo (7 ∷ []))).answer ≡ Closed 0
unfolding arrive_row
echo_is_closed = refl

echo_hears_its_answer : waiting_of (history client (invoked_echo ++ arrives (packet Response echo (7 ∷ [])) ∷ [])) 0 ≡ record { at = 1; event = event.Message (7 ∷ []) } ∷ record { at = 1; event = event.Ended status.Okay } ∷ []
unfolding arrive_row
echo_hears_its_answer = refl

count_hears_its_end : waiting_of (history client (invoked ++ arrives (packet Response count (7 ∷ [])) ∷ [])) 0 ≡ record { at = 1; event = event.Ended status.Okay } ∷ []
unfolding arrive_row
count_hears_its_end = refl

failed_echo_hears_its_end : waiting_of (history client (invoked_echo ++ arrives (record (packet Response echo (7 ∷ [])) { status = 99 }) ∷ [])) 0 ≡ record { at = 1; event = event.Ended status.Unknown } ∷ []
unfolding arrive_row
failed_echo_hears_its_end = refl

-- a message for a client's Echo ends it, and the server is told

stream_ends_echo : arrive_row client (history client invoked_echo) (packet ServerStream echo []) ≡ record { does = record no_effect { ends = (0, status.InvalidArgument) ∷ []; puts = (0, event.Ended status.InvalidArgument) ∷ []; says = packet_item 0 (status_packet ClientError echo status.InvalidArgument) ∷ [] }; answer = Closed 0 }
unfolding arrive_row
stream_ends_echo = refl

-- a client error ends Chat: its waiting events go

client_error_clears : waiting_of (history server (with_messages 2 ++ arrives (packet ClientError chat []) ∷ [])) 0 ≡ record { at = 3; event = event.Ended status.Okay } ∷ []
unfolding arrive_row
client_error_clears = refl

-- Chat is completed once

abbrev completed_chat : List Entry
completed_chat = requested ++ arrives (packet Completion chat []) ∷ []

completed_twice : (arrive_row server (history server completed_chat) (packet Completion chat [])).answer ≡ Dropped
unfolding arrive_row
completed_twice = refl

-- a tick waits once for a live call of a ticking method

abbrev watched : List Entry
watched = arrives (packet Request watch []) ∷ entry_by 1 (Tick 5) ∷ entry_by 1 (Tick 6) ∷ []

one_tick_waits : waiting_of (history server watched) 0 ≡ record { at = 0; event = event.Request [] } ∷ record { at = 1; event = event.Tick 5 } ∷ []
unfolding arrive_row
one_tick_waits = refl

-- the end of the input waits behind the other events, and ends no call

input_ends : waiting_of (history server (requested ++ entry_by 0 EndIn ∷ [])) 0 ≡ record { at = 0; event = event.Request [] } ∷ record { at = 1; event = event.Ended status.Unavailable } ∷ []
unfolding arrive_row
input_ends = refl

input_ends_no_call : has_end (history server (requested ++ entry_by 0 EndIn ∷ [])) 0 ≡ false
unfolding arrive_row
input_ends_no_call = refl

arrival_after_end : broken server (history server (entry_by 0 EndIn ∷ [])) (arrives chat_request) ≡ Some AfterEnd
unfolding broken
arrival_after_end = refl

-- after a Halt no call is ready, nothing is flushed, and there is no second one

abbrev halted : List Entry
halted = late_message ++ entry_by 4 (Halt why.Memory) ∷ []

halted_isnt_ready : (is_ready (history server late_message) 0 ≡ true) × (is_ready (history server halted) 0 ≡ false)
unfolding arrive_row
halted_isnt_ready = (refl, refl)

halted_flushes_nothing : broken server (history server halted) (entry_by 1 Flush) ≡ Some Nothing
unfolding arrive_row broken
halted_flushes_nothing = refl

halted_once : broken server (history server halted) (entry_by 2 (Halt why.Sink)) ≡ Some Refused
unfolding arrive_row broken
halted_once = refl

-- the end of the answer of a served Chat: the messages, then the response; of an Ended event nothing of them

abbrev greeting : Answer
greeting = record { items = SaysMessage (1 ∷ []) ∷ SavesAt 3 ∷ []; end = Some (record { status = status.Okay; payload = 2 ∷ [] }) }

answered_in_order : items_sent (history server (running ++ entry_by 2 (Finish 0 greeting) ∷ [])) ≡ packet_item 0 (packet ServerStream chat (1 ∷ [])) ∷ store_item 0 (SavesAt 3) ∷ packet_item 0 (packet Response chat (2 ∷ [])) ∷ []
unfolding arrive_row
answered_in_order = refl

abbrev ended_runs : List Entry
ended_runs = requested_again ++ entry_by 2 (Start 0) ∷ entry_by 2 (Finish 0 greeting) ∷ []

ended_says_nothing : items_sent (history server ended_runs) ≡ store_item 0 (SavesAt 3) ∷ []
unfolding arrive_row
ended_says_nothing = refl

-- the empty history is lawful, and one Flush is not

empty_is_lawful : IsLawful server []
empty_is_lawful = record { allowed = tt }

flush_of_nothing : broken server (history server []) (entry_by 1 Flush) ≡ Some Nothing
unfolding broken
flush_of_nothing = refl

flush_by_another : broken server (history server []) (entry_by 2 Flush) ≡ Some Seat
unfolding broken
flush_by_another = refl

-- one echoed request, from its arrival to the end of the input

abbrev echoed : List Entry
echoed =
    arrives (packet Request echo (97 ∷ [])) ∷ entry_by 2 (Start 0)
    ∷ entry_by 2 (Finish 0 (record { items = []; end = Some (record { status = status.Okay; payload = 97 ∷ [] }) }))
    ∷ entry_by 1 Flush ∷ entry_by 0 EndIn ∷ []

echoed_is_lawful : IsLawful server echoed
unfolding arrive_row broken
echoed_is_lawful = record { allowed = (((((tt, refl), refl), refl), refl), refl) }

echoed_is_settled : is_settled (history server echoed) ≡ true
unfolding arrive_row
echoed_is_settled = refl

echoed_responds : items_sent (history server echoed) ≡ packet_item 0 (record { ptype = Response; name = echo; payload = 97 ∷ []; status = 0 }) ∷ []
unfolding arrive_row
echoed_responds = refl

-- Channel 1 is closed behind two calls on it, of which one runs, and one on channel 2

abbrev on_two : CallName → CallName
on_two name = record name { channel = 2 }

abbrev before_close : List Entry
before_close = arrives (packet Request chat []) ∷ arrives (packet Request sum []) ∷ arrives (packet Request (on_two chat) []) ∷ entry_by 2 (Start 0) ∷ []

abbrev closed_one : List Entry
closed_one = before_close ++ entry_by 5 (Close 1) ∷ []

both_end : (end_of (history server closed_one) 0 ≡ Some status.Aborted) × (end_of (history server closed_one) 1 ≡ Some status.Aborted)
unfolding arrive_row
both_end = (refl, refl)

other_lives : has_end (history server closed_one) 2 ≡ false
unfolding arrive_row
other_lives = refl

peer_is_told : items_sent (history server closed_one)
    ≡ packet_item 0 (status_packet ServerError chat status.Aborted) ∷ packet_item 1 (status_packet ServerError sum status.Aborted) ∷ []
unfolding arrive_row
peer_is_told = refl

ended_alone_waits : map (λ w. w.event) (waiting_of (history server closed_one) 1) ≡ event.Ended status.Aborted ∷ []
unfolding arrive_row
ended_alone_waits = refl

still_runs : runner_of (history server closed_one) 0 ≡ Some 2
unfolding arrive_row
still_runs = refl

left_in : channels_in server (history server closed_one) ≡ 2 ∷ []
unfolding arrive_row
left_in = refl

closes_once : (close_refusal server before_close 1 ≡ None) × (close_refusal server closed_one 1 ≡ Some close.NotIn) × (close_refusal server closed_one 3 ≡ Some close.NotIn)
unfolding arrive_row
closes_once = (refl, refl, refl)

answered_unavailable : arrive_row server (history server closed_one) (packet Request chat []) ≡ record { does = says_item (reply chat status.Unavailable); answer = Answered }
unfolding arrive_row
answered_unavailable = refl

-- a client's calls end so too, and no call is invoked on the channel

abbrev client_closed : List Entry
client_closed = entry_by 3 (Invoke (packet Request chat []) empty_memo) ∷ entry_by 3 (Close 1) ∷ []

client_agrees : items_sent (history client client_closed) ≡ packet_item 0 (packet Request chat []) ∷ packet_item 0 (status_packet ClientError chat status.Aborted) ∷ []
client_agrees = refl

no_channel : invoke_refusal client client_closed sum ≡ Some invoke.NoChannel
no_channel = refl
