-- Which histories are lawful, and which are legal for handlers of a type.
use Rattle.std.specs.Prelude.{◌≡◌, ℕ, Bool, true, false, not, ◌&&◌, ◌||◌, ◌==◌, nat_le, List, [], ◌∷◌, length, reverse, Option, Some, None, is_some, is_none, IsTrue, if◌then◌else◌}
use Rattle.link_io.specs.declared.why.Why.{Why}
use Rattle.link_io.specs.declared.why.Why.TheVariants.{Settled}
use Rattle.rpc_ids.specs.declared.method.Role.{Role}
use Rattle.rpc_ids.specs.declared.method.Role.TheVariants.{Server, Client}
use Rattle.rpc_packet.specs.declared.call_name.CallName.{CallName}
use Rattle.rpc_packet.specs.declared.owned.Packet.{Packet}
use Rattle.rpc_packet.specs.declared.packet_type.PacketType.{PacketType}
use Rattle.rpc_packet.specs.declared.packet_type.PacketType.TheVariants.{Request, Response, ClientStream, ClientError, ServerError, ServerStream, Completion}
use Rattle.rpc_channel.specs.Rising.{has_id}
use Rattle.rpc_handlers.specs.declared.answer.Out.{Out}
use Rattle.rpc_handlers.specs.declared.answer.Out.TheVariants.{Say as Message}
use Rattle.rpc_handlers.specs.declared.event.Event.{Event}
use Rattle.rpc_handlers.specs.HandlerRule.{HandlerRule}
use Rattle.rpc_handlers.specs.Limits.{is_long, is_past_limits}
use Rattle.rpc_journal.specs.declared.entry.Entry.{Entry}
use Rattle.rpc_journal.specs.declared.entry.EntryKind.{EntryKind}
use Rattle.rpc_journal.specs.declared.entry.EntryKind.TheVariants.{Arrive, Invoke, Say, Done, Start, Finish, Replace, Cancel, Tick, Flush, EndIn, Halt, Close}
use Rattle.rpc_journal.specs.declared.fault.Broken.{Broken}
use Rattle.rpc_journal.specs.declared.fault.Broken.TheVariants.{Seat, UnknownCall, NotReady, NotRunning, AfterEnd, Refused, Nothing}
use Rattle.rpc_journal.specs.declared.setting.Setting.{Setting}
use Rattle.rpc_journal.specs.Effect.{Opening, Deed}
use Rattle.rpc_journal.specs.Calls.{call_count, call_at, has_end, is_cancelled, live_call, runner_of}
use Rattle.rpc_journal.specs.Queues.{is_ended, messages_waiting, taken_event}
use Rattle.rpc_journal.specs.Items.{flush_count, halt_reason, input_ended, is_done, is_for, is_ready, items_sent}
use Rattle.rpc_journal.specs.States.{state_before_run}
use Rattle.rpc_journal.specs.Kinds.{is_server, is_unary, streams_out}
use Rattle.rpc_journal.specs.Rows.{channels_in, method_named}
use Rattle.rpc_journal.specs.Entries.{arrive_row}
use Rattle.rpc_journal.specs.History.{deeds_of}

-- the role is sent packets of this type
abbrev pub hears : Role → PacketType → Bool
hears Server Request = true
hears Server ClientStream = true
hears Server ClientError = true
hears Server Completion = true
hears Client Response = true
hears Client ServerError = true
hears Client ServerStream = true
hears _ _ = false

-- a channel, a service or a method of 0
abbrev pub has_zero : CallName → Bool
has_zero name = (name.channel == 0) || (name.service == 0) || (name.method == 0)

-- the first call to which an event other than Ended is put while 64 such events wait for it
abbrev pub full_among : List Deed → List (ℕ × Event) → Option ℕ
full_among ds [] = None
full_among ds (put ∷ puts) =
    if not (is_ended put.1) && nat_le 64 (messages_waiting ds put.0) then Some put.0
    else full_among ds puts

-- the call for which the packet would wait, and which has no place for it
abbrev pub full_queue : Setting → List Deed → Packet → Option ℕ
full_queue set ds p = full_among ds (arrive_row set ds p).does.puts

-- Seat: Arrive and EndIn are by seat 0, Flush and Tick by seat 1
abbrev pub is_wrong_seat : ℕ → EntryKind → Bool
is_wrong_seat seat (Arrive p) = not (seat == 0)
is_wrong_seat seat EndIn = not (seat == 0)
is_wrong_seat seat Flush = not (seat == 1)
is_wrong_seat seat (Tick t) = not (seat == 1)
is_wrong_seat seat _ = false

-- AfterEnd: an Arrive or an EndIn after EndIn
abbrev pub is_input : EntryKind → Bool
is_input (Arrive p) = true
is_input EndIn = true
is_input _ = false

-- UnknownCall: the call that an entry names isn't there
abbrev pub call_named : EntryKind → Option ℕ
call_named (Say c out) = Some c
call_named (Done c) = Some c
call_named (Start c) = Some c
call_named (Finish c a) = Some c
call_named (Replace c m) = Some c
call_named (Cancel c) = Some c
call_named _ = None

abbrev pub is_unknown : ℕ → Option ℕ → Bool
is_unknown count None = false
is_unknown count (Some c) = nat_le count c

-- NotReady: a Start of a call that isn't ready
abbrev pub starts_unready : List Deed → EntryKind → Bool
starts_unready ds (Start c) = not (is_ready ds c)
starts_unready ds _ = false

-- NotRunning: a Finish of a call that this seat doesn't run
abbrev pub finishes_unrun : List Deed → ℕ → EntryKind → Bool
finishes_unrun ds seat (Finish c a) = not (is_for seat (runner_of ds c))
finishes_unrun ds seat _ = false

abbrev pub is_request : PacketType → Bool
is_request Request = true
is_request _ = false

abbrev pub has_stream : Role → Option Opening → Bool
has_stream role None = false
has_stream role (Some o) = streams_out role o.method.kind

abbrev pub is_unary_call : Option Opening → Bool
is_unary_call None = true
is_unary_call (Some o) = is_unary o.method.kind

abbrev pub is_settled_reason : Why → Bool
is_settled_reason Settled = true
is_settled_reason _ = false

-- a message: past 8,000 bytes, of a call with an end, without a stream in this direction, or at a client after the
-- completion of its stream. A store action: of a cancelled call
abbrev pub is_refused_say : Setting → List Deed → ℕ → Out → Bool
is_refused_say set ds c (Message payload) =
    is_long payload || has_end ds c || not (has_stream set.role (call_at ds c)) || (not (is_server set.role) && is_done ds c)
is_refused_say set ds c out = is_cancelled ds c

-- at a server; not a REQUEST with status 0; a zero id; past 8,000 bytes; no such channel or method; the name is live
abbrev pub is_refused_invoke : Setting → List Deed → Packet → Bool
is_refused_invoke set ds p =
    is_server set.role || not (is_request p.ptype) || not (p.status == 0) || has_zero p.name || is_long p.payload
    || not (has_id (channels_in set ds) p.name.channel) || is_none (method_named set p.name)
    || is_some (live_call ds p.name)

-- Refused: what a call table refuses for another cause than a full journal and want of memory, and what it is never
-- asked to do
abbrev pub is_refused : Setting → List Deed → EntryKind → Bool
is_refused set ds (Arrive p) = not (hears set.role p.ptype) || has_zero p.name || is_some (full_queue set ds p)
is_refused set ds (Invoke p m) = is_refused_invoke set ds p
is_refused set ds (Say c out) = is_refused_say set ds c out
is_refused set ds (Done c) = is_server set.role || has_end ds c || is_unary_call (call_at ds c) || is_done ds c
is_refused set ds (Finish c a) = is_past_limits a
is_refused set ds (Replace c m) = has_end ds c
is_refused set ds (Cancel c) = is_cancelled ds c
is_refused set ds (Halt why) = is_some (halt_reason ds) || is_settled_reason why
is_refused set ds (Close channel) = not (has_id (channels_in set ds) channel)
is_refused set ds _ = false

-- Nothing: a Flush where no item waits, or after a Halt
abbrev pub flushes_nothing : List Deed → EntryKind → Bool
flushes_nothing ds Flush = nat_le (length (items_sent ds)) (flush_count ds) || is_some (halt_reason ds)
flushes_nothing ds _ = false

-- the first rule that an entry breaks after these deeds
unfoldable pub broken : Setting → List Deed → Entry → Option Broken
broken set ds e =
    if is_wrong_seat e.seat e.kind then Some Seat
    else if is_input e.kind && input_ended ds then Some AfterEnd
    else if is_unknown (call_count ds) (call_named e.kind) then Some UnknownCall
    else if starts_unready ds e.kind then Some NotReady
    else if finishes_unrun ds e.seat e.kind then Some NotRunning
    else if is_refused set ds e.kind then Some Refused
    else if flushes_nothing ds e.kind then Some Nothing
    else None

-- of entries that stand the newest first: each is allowed after those before it
abbrev pub AllowedAll : Setting → List Entry → Type 0
AllowedAll set [] = Unit {0}
AllowedAll set (e ∷ h) = AllowedAll set h × (broken set (deeds_of set h) e ≡ None)

-- the answer of a Finish is the one that the rule of the handler's type gives for its state before the run
abbrev pub IsAnsweredByRule : HandlerRule → Setting → List Deed → EntryKind → Type 0
IsAnsweredByRule rule set ds (Finish c a) =
    IsTrue rule.ruled → (m : _) (event : _) → state_before_run rule set ds c ≡ Some m → taken_event ds c ≡ Some event
    → a ≡ rule.answer m event
IsAnsweredByRule rule set ds _ = Unit {0}

-- of entries that stand the newest first: each answer is by the rule
abbrev pub AnsweredAll : HandlerRule → Setting → List Entry → Type 0
AnsweredAll rule set [] = Unit {0}
AnsweredAll rule set (e ∷ h) = AnsweredAll rule set h × IsAnsweredByRule rule set (deeds_of set h) e.kind

-- of entries in order: each is allowed after those before it
pub record IsLawful (set : Setting) (h : List Entry) : Type 0 where
  pub allowed : AllowedAll set (reverse h)

-- of entries in order: lawful, and each run answered by the rule of the handler's type
pub record IsLegal (rule : HandlerRule) (set : Setting) (h : List Entry) : Type 0 where
  pub lawful : IsLawful set h
  pub answered : AnsweredAll rule set (reverse h)
