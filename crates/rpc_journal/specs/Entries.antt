-- What each kind of entry does.
use Rattle.std.specs.Prelude.{ℕ, ◌+◌, Bool, false, not, ◌&&◌, ◌||◌, ◌==◌, nat_lt, List, [], ◌∷◌, ◌++◌, length, map, flat_map, Option, Some, None, is_some, if◌then◌else◌}
use Rattle.std.specs.List.{list_any}
use Rattle.rpc_ids.specs.declared.method.MethodRef.{MethodRef}
use Rattle.rpc_ids.specs.declared.method.Kind.{Kind}
use Rattle.rpc_ids.specs.declared.method.Role.{Role}
use Rattle.rpc_ids.specs.declared.method.Role.TheVariants.{Server, Client}
use Rattle.rpc_ids.specs.declared.status.Status.TheVariants.{Okay, Cancelled, Unavailable, Aborted}
use Rattle.rpc_ids.specs.Status.{status_number}
use Rattle.rpc_packet.specs.declared.call_name.CallName.{CallName}
use Rattle.rpc_packet.specs.declared.owned.Packet.{Packet}
use Rattle.rpc_packet.specs.declared.packet_type.PacketType.{PacketType}
use Rattle.rpc_packet.specs.declared.packet_type.PacketType.TheVariants.{Response, ClientStream, ClientError, ServerError, ServerStream, Completion}
use Rattle.rpc_handlers.specs.declared.answer.Answer.{Answer}
use Rattle.rpc_handlers.specs.declared.answer.End.{End}
use Rattle.rpc_handlers.specs.declared.answer.Out.{Out}
use Rattle.rpc_handlers.specs.declared.answer.Out.TheVariants.{Say as Message}
use Rattle.rpc_handlers.specs.declared.event.Event.{Event}
use Rattle.rpc_handlers.specs.declared.event.Event.TheVariants.{Ended, Tick as Ticked}
use Rattle.rpc_handlers.specs.declared.event.Memo.{Memo}
use Rattle.rpc_journal.specs.declared.entry.EntryKind.{EntryKind}
use Rattle.rpc_journal.specs.declared.entry.EntryKind.TheVariants.{Arrive, Invoke, Say, Done, Start, Finish, Replace, Cancel, Tick, Flush, EndIn, Halt, Close}
use Rattle.rpc_journal.specs.declared.item.Act.TheVariants.{Keep, LeaveCall}
use Rattle.rpc_journal.specs.declared.item.Item.{Item}
use Rattle.rpc_journal.specs.declared.setting.Setting.{Setting}
use Rattle.rpc_journal.specs.Effect.{Effect, Opening, Deed}
use Rattle.rpc_journal.specs.Calls.{calls, call_count, call_at, has_end, is_cancelled, runner_of}
use Rattle.rpc_journal.specs.Queues.{waiting_of, taken_event, is_ended, is_tick}
use Rattle.rpc_journal.specs.Items.{is_done}
use Rattle.rpc_journal.specs.Kinds.{is_server, is_unary, is_okay, streams_out}
use Rattle.rpc_journal.specs.Rows.{Row, method_named, no_effect, both_effects, says_item, status_packet, packet_item}
use Rattle.rpc_journal.specs.ServerTable.{server_row}
use Rattle.rpc_journal.specs.ClientTable.{client_row}

abbrev pub row_by : Role → Setting → List Deed → Packet → Row
row_by Server set ds p = server_row set ds p
row_by Client set ds p = client_row set ds p

-- the row of a packet
unfoldable pub arrive_row : Setting → List Deed → Packet → Row
arrive_row set ds p = row_by set.role set ds p

-- a store action of call c
abbrev pub store_item : ℕ → Out → Item
store_item c out = record { call = Some c; act = Keep out }

-- all works of call c are left
abbrev pub leave_item : ℕ → Item
leave_item c = record { call = Some c; act = LeaveCall }

abbrev pub stream_type : Role → PacketType
stream_type Server = ServerStream
stream_type Client = ClientStream

abbrev pub error_type : Role → PacketType
error_type Server = ServerError
error_type Client = ClientError

-- a message of call c, whose packet's type is by role
abbrev pub message_item : Role → ℕ → CallName → List ℕ → Item
message_item role c name payload =
    packet_item c (record { ptype = stream_type role; name = name; payload = payload; status = 0 })

-- Invoke: a new client call, and its REQUEST goes out
abbrev pub invoke_effect : List Deed → Packet → Memo → Option MethodRef → Effect
invoke_effect ds p m None = no_effect
invoke_effect ds p m (Some method) =
    record no_effect { opens = Some (record { name = p.name; method = method; given = Some m }); says = packet_item (call_count ds) p ∷ [] }

-- Say: a message or a store action goes out
abbrev pub out_item : Role → ℕ → CallName → Out → Item
out_item role c name (Message payload) = message_item role c name payload
out_item role c name out = store_item c out

-- an item of an answer, where its messages go out or don't
abbrev pub answer_item : Role → ℕ → CallName → Bool → Out → List Item
answer_item role c name says (Message payload) = if says then message_item role c name payload ∷ [] else []
answer_item role c name says out = store_item c out ∷ []

-- at a server the end of an answer ends c with a RESPONSE, and c's waiting events go
abbrev pub server_end : ℕ → CallName → End → Effect
server_end c name end =
    record no_effect {
      ends = (c, end.status) ∷ [];
      drops = c ∷ [];
      says = packet_item c (record { ptype = Response; name = name; payload = end.payload; status = status_number end.status }) ∷ [];
    }

-- at a client an end with OK completes the stream of c, where it has one that isn't complete; another ends c with a
-- CLIENT_ERROR, and c's waiting events go
abbrev pub client_end : ℕ → CallName → Kind → Bool → End → Effect
client_end c name kind done end =
    if is_okay end.status
    then (if is_unary kind || done then no_effect else says_item (packet_item c (status_packet Completion name Okay)))
    else record no_effect { ends = (c, end.status) ∷ []; drops = c ∷ []; says = packet_item c (status_packet ClientError name end.status) ∷ [] }

abbrev pub end_effect : Role → ℕ → CallName → Kind → Bool → Option End → Effect
end_effect role c name kind done None = no_effect
end_effect Server c name kind done (Some end) = server_end c name end
end_effect Client c name kind done (Some end) = client_end c name kind done end

-- the messages of an answer go out where c has no end, the event wasn't Ended, the method has a stream in this
-- direction and, at a client, c isn't done
abbrev pub messages_go : Role → Kind → Bool → Bool → Bool
messages_go role kind heard done = heard && streams_out role kind && (is_server role || not done)

-- Finish of a call that isn't cancelled: the items of the answer, then its end. `heard` says that the call has no end
-- and the event wasn't Ended
abbrev pub answered : Role → ℕ → Opening → Bool → Bool → Answer → Effect
answered role c o heard done a =
    both_effects
    (record no_effect { says = flat_map (answer_item role c o.name (messages_go role o.method.kind heard done)) a.items })
    (if heard then end_effect role c o.name o.method.kind done a.end else no_effect)

abbrev pub was_ended : Option Event → Bool
was_ended None = false
was_ended (Some event) = is_ended event

-- the answer of c's run is heard: c has no end, and the event wasn't Ended
abbrev pub is_heard : List Deed → ℕ → Bool
is_heard ds c = not (has_end ds c) && not (was_ended (taken_event ds c))

-- Finish: of a cancelled call the one item is LeaveCall
abbrev pub finish_effect : Setting → List Deed → ℕ → Answer → Option Opening → Effect
finish_effect set ds c a None = no_effect
finish_effect set ds c a (Some o) =
    if is_cancelled ds c then says_item (leave_item c) else answered set.role c o (is_heard ds c) (is_done ds c) a

-- Cancel: c's waiting events go; without an end it ends with CANCELLED and the peer is told; without a run its works
-- are left
abbrev pub cancel_effect : Setting → List Deed → ℕ → Option Opening → Effect
cancel_effect set ds c None = no_effect
cancel_effect set ds c (Some o) =
    record no_effect {
      drops = c ∷ [];
      ends = if has_end ds c then [] else (c, Cancelled) ∷ [];
      says =
          (if has_end ds c then [] else packet_item c (status_packet (error_type set.role) o.name Cancelled) ∷ [])
          ++ (if is_some (runner_of ds c) then [] else leave_item c ∷ []);
    }

-- what is made of each of the calls from number c on that pass the test, by rising number
abbrev pub made_from : {A : Type 0} → ℕ → (ℕ → Opening → Bool) → (ℕ → Opening → A) → List Opening → List A
made_from c test make [] = []
made_from c test make (o ∷ os) =
    if test c o then make c o ∷ made_from (c + 1) test make os else made_from (c + 1) test make os

-- the number of each of them, with an event or a status
abbrev pub each_from : {A : Type 0} → ℕ → (ℕ → Opening → Bool) → A → List Opening → List (ℕ × A)
each_from c test value os = made_from c test (λ k o. (k, value)) os

-- c is a live call of a ticking method, no Tick waits for it, and fewer than 64 events do
abbrev pub wants_tick : List Deed → ℕ → Opening → Bool
wants_tick ds c o =
    o.method.ticks && not (has_end ds c) && not (list_any (λ w. is_tick w.event) (waiting_of ds c))
    && nat_lt (length (waiting_of ds c)) 64

abbrev pub is_live : List Deed → ℕ → Opening → Bool
is_live ds c o = not (has_end ds c)

-- c is a live call on this channel
abbrev pub is_live_on : List Deed → ℕ → ℕ → Opening → Bool
is_live_on ds channel c o = not (has_end ds c) && (o.name.channel == channel)

-- Close: each live call on the channel ends with ABORTED, its waiting events go, the peer is told, and Ended waits
abbrev pub close_effect : Role → List Deed → ℕ → Effect
close_effect role ds channel =
    record no_effect {
      ends = each_from 0 (is_live_on ds channel) Aborted (calls ds);
      drops = map (λ x. x.0) (each_from 0 (is_live_on ds channel) Aborted (calls ds));
      puts = each_from 0 (is_live_on ds channel) (Ended Aborted) (calls ds);
      says = made_from 0 (is_live_on ds channel) (λ c o. packet_item c (status_packet (error_type role) o.name Aborted)) (calls ds);
    }

abbrev pub with_call : Option Opening → (Opening → Effect) → Effect
with_call None f = no_effect
with_call (Some o) f = f o

-- what an entry does after these deeds
abbrev pub effect_of : Setting → List Deed → EntryKind → Effect
effect_of set ds (Arrive p) = (arrive_row set ds p).does
effect_of set ds (Invoke p m) = invoke_effect ds p m (method_named set p.name)
effect_of set ds (Say c out) = with_call (call_at ds c) (λ o. says_item (out_item set.role c o.name out))
effect_of set ds (Done c) = with_call (call_at ds c) (λ o. says_item (packet_item c (status_packet Completion o.name Okay)))
effect_of set ds (Start c) = no_effect
effect_of set ds (Finish c a) = finish_effect set ds c a (call_at ds c)
effect_of set ds (Replace c m) = no_effect
effect_of set ds (Cancel c) = cancel_effect set ds c (call_at ds c)
effect_of set ds (Tick t) = record no_effect { puts = each_from 0 (wants_tick ds) (Ticked t) (calls ds) }
effect_of set ds Flush = no_effect
effect_of set ds EndIn = record no_effect { puts = each_from 0 (is_live ds) (Ended Unavailable) (calls ds) }
effect_of set ds (Halt why) = no_effect
effect_of set ds (Close channel) = close_effect set.role ds channel
