-- Each entry of a legal history sends only what the other end hears.
use Rattle.std.proofs.Common.{◌≡◌, ℕ, zero, suc, ◌+◌, ◌<◌, ◌≤◌, ◌==◌, ◌&&◌, ◌||◌, ◌^◌, not, nat_lt, Bool, true, false, if◌then◌else◌, List, [], ◌∷◌, ◌++◌, flat_map, length, reverse, slice_get, take, Option, Some, None, is_none, is_some, option_to_list, refl, sym, subst, arith}
use Rattle.std.proofs.lemmas.Bool.{eqb-true, false≢true}
use Rattle.std.proofs.lemmas.Bool.Decides.{nat_tests}
use Rattle.std.proofs.lemmas.List.{reverse-append}
use Rattle.std.specs.List.{AllByRecursion, list_any}
use Rattle.rpc_ids.specs.declared.method.Kind.{Kind}
use Rattle.rpc_ids.specs.declared.method.MethodRef.{MethodRef}
use Rattle.rpc_ids.specs.declared.method.Role.{Role}
use Rattle.rpc_ids.specs.declared.method.Role.TheVariants.{Server, Client}
use Rattle.rpc_ids.specs.declared.status.Status.{Status}
use Rattle.rpc_ids.specs.declared.status.Status.TheVariants.{Okay, Cancelled, Unknown, InvalidArgument, DeadlineExceeded, NotFound, AlreadyExists, PermissionDenied, ResourceExhausted, FailedPrecondition, Aborted, OutOfRange, Unimplemented, Internal, Unavailable, DataLoss, Unauthenticated}
use Rattle.rpc_ids.specs.Status.{status_number, status_of}
use Rattle.rpc_packet.specs.declared.call_name.CallName.{CallName}
use Rattle.rpc_packet.specs.declared.owned.Packet.{Packet}
use Rattle.rpc_packet.specs.declared.packet_type.PacketType.{PacketType}
use Rattle.rpc_packet.specs.declared.packet_type.PacketType.TheVariants.{Request, Response, ClientStream, ClientError, ServerError, ServerStream, Completion}
use Rattle.rpc_packet.specs.Message.{message_of}
use Rattle.rpc_packet.specs.PacketType.{receiver_of}
use Rattle.rpc_packet.specs.Spelling.{IsWithinLimits}
use Rattle.rpc_packet.proofs.SpellingLaws.{type_within}
use Rattle.rpc_channel.specs.Rising.{has_id}
use Rattle.rpc_handlers.specs.declared.answer.Answer.{Answer}
use Rattle.rpc_handlers.specs.declared.answer.End.{End}
use Rattle.rpc_handlers.specs.declared.answer.Out.{Out}
use Rattle.rpc_handlers.specs.declared.answer.Out.TheVariants.{Say as Message, Begin, Append, Commit, Leave}
use Rattle.rpc_handlers.specs.declared.event.Memo.{Memo}
use Rattle.rpc_handlers.specs.Limits.{is_long, is_long_end, is_long_out, is_past_limits}
use Rattle.rpc_frames.specs.Written.{IsSendable}
use Rattle.rpc_frames.proofs.Sizes.{content_short}
use Rattle.rpc_journal.specs.declared.entry.Entry.{Entry}
use Rattle.rpc_journal.specs.declared.entry.EntryKind.{EntryKind}
use Rattle.rpc_journal.specs.declared.entry.EntryKind.TheVariants.{Arrive, Invoke, Say, Done, Start, Finish, Replace, Cancel, Tick, Flush, EndIn, Halt, Close}
use Rattle.rpc_journal.specs.declared.item.Act.{Act}
use Rattle.rpc_journal.specs.declared.item.Act.TheVariants.{Send, Keep, LeaveCall}
use Rattle.rpc_journal.specs.declared.item.Item.{Item}
use Rattle.rpc_journal.specs.declared.setting.Setting.{Setting}
use Rattle.rpc_journal.specs.Calls.{call_at, calls, has_end, is_cancelled, live_call, runner_of}
use Rattle.rpc_journal.specs.ClientTable.{call_row, live_row, no_call_row}
use Rattle.rpc_journal.specs.Effect.{Deed, Effect, Opening}
use Rattle.rpc_journal.specs.Entries.{answer_item, arrive_row, cancel_effect, effect_of, end_effect, error_type, finish_effect, invoke_effect, is_heard, is_live_on, leave_item, made_from, message_item, messages_go, row_by, with_call}
use Rattle.rpc_journal.specs.History.{deeds_of, history}
use Rattle.rpc_journal.specs.Items.{arrivals, flush_count, is_done, items_sent, packet_of, packets_of}
use Rattle.rpc_journal.specs.Kinds.{is_okay, is_server, is_unary, streams_down, streams_up}
use Rattle.rpc_journal.specs.Lawful.{AllowedAll, full_queue, has_stream, has_zero, hears, is_refused, is_request, is_unary_call}
use Rattle.rpc_journal.specs.Queues.{is_completed}
use Rattle.rpc_journal.specs.Rows.{Row, channels_in, method_named, packet_item, says_item, status_packet}
use Rattle.rpc_journal.specs.ServerTable.{known_row, method_row, unknown_row}
use Rattle.rpc_journal.proofs.Allowed.{allowed}
use Rattle.rpc_journal.proofs.PlaceLemmas.{some_same}
use Rattle.history_laws.proofs.messages.Members.{all_join}
use Rattle.history_laws.specs.sends.Sends.{NameFits, SendsAreHeard, peer}

status_within : (s : Status) → status_number s < 2 ^ 32
status_within Okay = omega arith
status_within Cancelled = omega arith
status_within Unknown = omega arith
status_within InvalidArgument = omega arith
status_within DeadlineExceeded = omega arith
status_within NotFound = omega arith
status_within AlreadyExists = omega arith
status_within PermissionDenied = omega arith
status_within ResourceExhausted = omega arith
status_within FailedPrecondition = omega arith
status_within Aborted = omega arith
status_within OutOfRange = omega arith
status_within Unimplemented = omega arith
status_within Internal = omega arith
status_within Unavailable = omega arith
status_within DataLoss = omega arith
status_within Unauthenticated = omega arith

-- a packet that arrived has a name that fits
abbrev ArriveFits : EntryKind → Type 0
ArriveFits (Arrive p) = NameFits p.name
ArriveFits _ = Unit {0}

abbrev AllArrive : List Entry → Type 0
AllArrive h = AllByRecursion (λ e. ArriveFits e.kind) h

abbrev OpensFit : Effect → Type 0
OpensFit e = AllByRecursion (λ o. NameFits o.name) (option_to_list e.opens)

-- a name whose numbers fit, with ids
record NameOk (name : CallName) : Type 0 where
  fits : NameFits name
  channel : 0 < name.channel
  service : 0 < name.service
  method : 0 < name.method

not_long : (payload : List ℕ) → is_long payload ≡ false → length payload ≤ 8000
not_long payload e = below (length payload) e
  where
    below : (n : ℕ) → nat_lt 8000 n ≡ false → n ≤ 8000
    below n e = grind (arith, nat_tests)

sendable : (role : Role) (p : Packet) → NameOk p.name → receiver_of p.ptype ≡ role → length p.payload ≤ 8000 → p.status < 2 ^ 32 → IsSendable role p
sendable role p name up few status =
    let within : IsWithinLimits (message_of p) =
    record { ptype = type_within p.ptype; channel = name.fits.channel; service = name.fits.service; method = name.fits.method; call = name.fits.call; payload = omega (arith, few); status = status } in
    record {
      hears = record { number = refl; receiver = up; channel = name.channel; service = name.service; method = name.method };
      within = within;
      fits = omega (arith, content_short (message_of p) within, few);
    }

abbrev ActOk : Role → Act → Type 0
ActOk role (Send p) = IsSendable (peer role) p
ActOk role (Keep out) = Unit {0}
ActOk role LeaveCall = Unit {0}

abbrev AllOk : Role → List Item → Type 0
AllOk role items = AllByRecursion (λ item. ActOk role item.act) items

abbrev Named : Opening → Type 0
Named o = NameOk o.name

abbrev Good : Role → Effect → Type 0
Good role e = AllByRecursion Named (option_to_list e.opens) × AllOk role e.says

if_row : (role : Role) (b : Bool) (x y : Row) → Good role x.does → Good role y.does → Good role (if b then x else y).does
if_row role true x y first second = first
if_row role false x y first second = second

if_effect : (role : Role) (b : Bool) (x y : Effect) → Good role x → Good role y → Good role (if b then x else y)
if_effect role true x y first second = first
if_effect role false x y first second = second

error_ok : (role : Role) (name : CallName) (s : Status) → NameOk name → IsSendable (peer role) (status_packet (error_type role) name s)
error_ok Server name s ok = sendable Client (status_packet ServerError name s) ok refl (omega arith) (status_within s)
error_ok Client name s ok = sendable Server (status_packet ClientError name s) ok refl (omega arith) (status_within s)

stream_ok : (role : Role) (c : ℕ) (name : CallName) (payload : List ℕ) → NameOk name → length payload ≤ 8000 → ActOk role (message_item role c name payload).act
stream_ok Server c name payload ok few = sendable Client (record { ptype = ServerStream; name = name; payload = payload; status = 0 }) ok refl few (omega arith)
stream_ok Client c name payload ok few = sendable Server (record { ptype = ClientStream; name = name; payload = payload; status = 0 }) ok refl few (omega arith)

client_role : (role : Role) → is_server role ≡ false → role ≡ Client
client_role Server e = absurd (false≢true (sym e))
client_role Client e = refl

client_only : (role : Role) (p : Packet) → is_server role ≡ false → IsSendable Server p → IsSendable (peer role) p
client_only Server p e s = absurd (false≢true (sym e))
client_only Client p e s = s

-- A packet comes.
module _ (set : Setting) (p : Packet) (ds : List Deed) (ok : NameOk p.name) where
  replies : (s : Status) → Good Server (says_item (record { call = None; act = Send (status_packet ServerError p.name s) }))
  replies s = (tt, (error_ok Server p.name s ok, tt))

  known_ok : (ptype : PacketType) (m : MethodRef) (l : Option ℕ) → Good Server (known_row ptype p m ds l).does
  known_ok Request m None = ((ok, tt), tt)
  known_ok Request m (Some c) = ((ok, tt), tt)
  known_ok Response m l = (tt, tt)
  known_ok ClientStream m None = replies FailedPrecondition
  known_ok ClientStream m (Some c) = if_row Server (not (streams_up m.kind)) _ _ (replies InvalidArgument) (if_row Server (is_completed ds c) _ _ (replies FailedPrecondition) (tt, tt))
  known_ok ClientError m None = (tt, tt)
  known_ok ClientError m (Some c) = (tt, tt)
  known_ok ServerError m l = (tt, tt)
  known_ok ServerStream m l = (tt, tt)
  known_ok Completion m None = replies FailedPrecondition
  known_ok Completion m (Some c) = if_row Server (is_unary m.kind || is_completed ds c) _ _ (tt, tt) (tt, tt)

  unknown_ok : (ptype : PacketType) (s : Status) → Good Server (unknown_row ptype p s).does
  unknown_ok Request s = replies s
  unknown_ok Response s = replies s
  unknown_ok ClientStream s = replies s
  unknown_ok ClientError s = (tt, tt)
  unknown_ok ServerError s = replies s
  unknown_ok ServerStream s = replies s
  unknown_ok Completion s = replies s

  method_ok : (o : Option MethodRef) → Good Server (method_row p ds o).does
  method_ok None = unknown_ok p.ptype NotFound
  method_ok (Some m) = known_ok p.ptype m (live_call ds p.name)

  live_ok : (k : ℕ) (ptype : PacketType) (m : MethodRef) → Good Client (live_row ptype p m k).does
  live_ok k Request m = (tt, tt)
  live_ok k Response m = if_row Client (is_okay (status_of p.status) && not (streams_down m.kind)) _ _ (tt, tt) (tt, tt)
  live_ok k ClientStream m = (tt, tt)
  live_ok k ClientError m = (tt, tt)
  live_ok k ServerError m = (tt, tt)
  live_ok k ServerStream m = if_row Client (streams_down m.kind) _ _ (tt, tt) (tt, (error_ok Client p.name InvalidArgument ok, tt))
  live_ok k Completion m = (tt, tt)

  no_call_ok : (ptype : PacketType) → Good Client (no_call_row ptype p).does
  no_call_ok Request = (tt, tt)
  no_call_ok Response = (tt, tt)
  no_call_ok ClientStream = (tt, tt)
  no_call_ok ClientError = (tt, tt)
  no_call_ok ServerError = (tt, tt)
  no_call_ok ServerStream = (tt, (error_ok Client p.name FailedPrecondition ok, tt))
  no_call_ok Completion = (tt, tt)

  call_ok : (o : Option MethodRef) (l : Option ℕ) → Good Client (call_row p o l).does
  call_ok None l = no_call_ok p.ptype
  call_ok (Some m) None = no_call_ok p.ptype
  call_ok (Some m) (Some k) = live_ok k p.ptype m

  row_ok : (role : Role) → Good role (row_by role set ds p).does
  row_ok Server = if_row Server (has_id (channels_in set ds) p.name.channel) _ _ (method_ok (method_named set p.name)) (unknown_ok p.ptype Unavailable)
  row_ok Client = if_row Client (has_id (channels_in set ds) p.name.channel) _ _ (call_ok (method_named set p.name) (live_call ds p.name)) (tt, tt)

  arrive_ok : Good set.role (arrive_row set ds p).does
  unfolding arrive_row
  arrive_ok = row_ok set.role

-- A run ends.
module _ (role : Role) (k : ℕ) (o : Opening) (ok : NameOk o.name) where
  out_ok : (goes : Bool) (out : Out) → is_long_out out ≡ false → AllOk role (answer_item role k o.name goes out)
  out_ok true (Message payload) few = (stream_ok role k o.name payload ok (not_long payload few), tt)
  out_ok false (Message payload) few = tt
  out_ok goes (Begin s r f) few = (tt, tt)
  out_ok goes (Append s b) few = (tt, tt)
  out_ok goes (Commit s) few = (tt, tt)
  out_ok goes (Leave s) few = (tt, tt)

  outs_ok : (goes : Bool) (outs : List Out) → list_any is_long_out outs ≡ false → AllOk role (flat_map (answer_item role k o.name goes) outs)
  outs_ok goes [] few = tt
  outs_ok goes (out ∷ outs) few =
      all_join (λ (item : Item). ActOk role item.act) (answer_item role k o.name goes out) _ (out_ok goes out (either (is_long_out out) (list_any is_long_out outs) few).0) (outs_ok goes outs (either (is_long_out out) (list_any is_long_out outs) few).1)
    where
      either : (a b : Bool) → (a || b) ≡ false → (a ≡ false) × (b ≡ false)
      either true b e = absurd (false≢true (sym e))
      either false b e = (refl, e)

server_end_ok : (k : ℕ) (name : CallName) (end : End) → NameOk name → is_long end.payload ≡ false → IsSendable Client (record { ptype = Response; name = name; payload = end.payload; status = status_number end.status })
server_end_ok k name end ok few = sendable Client (record { ptype = Response; name = name; payload = end.payload; status = status_number end.status }) ok refl (not_long end.payload few) (status_within end.status)

end_ok : (role : Role) (k : ℕ) (name : CallName) (kind : Kind) (done : Bool) (end : Option End) → NameOk name → is_long_end end ≡ false → Good role (end_effect role k name kind done end)
end_ok role k name kind done None ok few = (tt, tt)
end_ok Server k name kind done (Some end) ok few = (tt, (server_end_ok k name end ok few, tt))
end_ok Client k name kind done (Some end) ok few =
    if_effect Client (is_okay end.status) _ _
    (if_effect Client (is_unary kind || done) _ _ (tt, tt) (tt, (sendable Server (status_packet Completion name Okay) ok refl (omega arith) (status_within Okay), tt)))
    (tt, (error_ok Client name end.status ok, tt))

three : (a b c : Bool) → (a || b || c) ≡ false → (a ≡ false) × (b ≡ false) × (c ≡ false)
three true b c e = absurd (false≢true (sym e))
three false true c e = absurd (false≢true (sym e))
three false false c e = (refl, refl, e)

heard_effect : (role : Role) (heard : Bool) (x : Effect) → Good role x → Good role (if heard then x else record { opens = None; ends = []; drops = []; puts = []; says = [] })
heard_effect role true x good = good
heard_effect role false x good = (tt, tt)

finish_ok : (set : Setting) (ds : List Deed) (k : ℕ) (a : Answer) (o : Option Opening) → ((x : Opening) → o ≡ Some x → NameOk x.name) → is_past_limits a ≡ false → Good set.role (finish_effect set ds k a o)
finish_ok set ds k a None ok few = (tt, tt)
finish_ok set ds k a (Some o) ok few =
    let limits = three (nat_lt 512 (length a.items)) (list_any is_long_out a.items) (is_long_end a.end) few in
    let end : Good set.role (if is_heard ds k then end_effect set.role k o.name o.method.kind (is_done ds k) a.end else record { opens = None; ends = []; drops = []; puts = []; says = [] }) =
    heard_effect set.role (is_heard ds k) _ (end_ok set.role k o.name o.method.kind (is_done ds k) a.end (ok o refl) limits.2) in
    if_effect set.role (is_cancelled ds k) _ _ (tt, (tt, tt)) (
      end.0,
      all_join (λ (item : Item). ActOk set.role item.act) (flat_map (answer_item set.role k o.name (messages_go set.role o.method.kind (is_heard ds k) (is_done ds k))) a.items) _
          (outs_ok set.role k o (ok o refl) (messages_go set.role o.method.kind (is_heard ds k) (is_done ds k)) a.items limits.1) end.1,
    )

cancel_ok : (set : Setting) (ds : List Deed) (k : ℕ) (o : Option Opening) → ((x : Opening) → o ≡ Some x → NameOk x.name) → Good set.role (cancel_effect set ds k o)
cancel_ok set ds k None ok = (tt, tt)
cancel_ok set ds k (Some o) ok = (tt, by_end (has_end ds k) (is_some (runner_of ds k)))
  where
    by_end : (ended runs : Bool) → AllOk set.role ((if ended then [] else packet_item k (status_packet (error_type set.role) o.name Cancelled) ∷ []) ++ (if runs then [] else leave_item k ∷ []))
    by_end true true = tt
    by_end true false = (tt, tt)
    by_end false true = (error_ok set.role o.name Cancelled (ok o refl), tt)
    by_end false false = (error_ok set.role o.name Cancelled (ok o refl), (tt, tt))

close_ok : (role : Role) (test : ℕ → Opening → Bool) (c : ℕ) (os : List Opening) → AllByRecursion Named os → AllOk role (made_from c test (λ k o. packet_item k (status_packet (error_type role) o.name Aborted)) os)
close_ok role test c [] all = tt
close_ok role test c (o ∷ os) all = at (test c o) (close_ok role test (c + 1) os all.1)
  where
    at : (b : Bool) → AllOk role (made_from (c + 1) test (λ k o. packet_item k (status_packet (error_type role) o.name Aborted)) os)
        → AllOk role (if b then packet_item c (status_packet (error_type role) o.name Aborted) ∷ made_from (c + 1) test (λ k o. packet_item k (status_packet (error_type role) o.name Aborted)) os else made_from (c + 1) test (λ k o. packet_item k (status_packet (error_type role) o.name Aborted)) os)
    at true more = (error_ok role o.name Aborted all.0, more)
    at false more = more

at_place : (os : List Opening) (c : ℕ) (o : Opening) → AllByRecursion Named os → slice_get os c ≡ Some o → Named o
at_place [] c o all is = absurd cc
at_place (x ∷ os) zero o all is = subst Named (some_same x o is) all.0
at_place (x ∷ os) (suc c) o all is = at_place os c o all.1 is

name_ok : (name : CallName) → NameFits name → has_zero name ≡ false → NameOk name
name_ok name fits e =
    let some = three (name.channel == 0) (name.service == 0) (name.method == 0) e in
    record { fits = fits; channel = above name.channel some.0; service = above name.service some.1; method = above name.method some.2 }
  where
    above : (n : ℕ) → (n == 0) ≡ false → 0 < n
    above n e = grind (arith, nat_tests)

-- AN ENTRY THAT IS ALLOWED
module _ (set : Setting) (ds : List Deed) (names : AllByRecursion Named (calls ds)) where
  named : (c : ℕ) (o : Opening) → call_at ds c ≡ Some o → NameOk o.name
  named c o is = at_place (calls ds) c o names is

  first_of_four : (a b c d : Bool) → (a || b || c || d) ≡ false → a ≡ false
  first_of_four true b c d e = absurd (false≢true (sym e))
  first_of_four false b c d e = refl

  invoke_parts : (a b c d x y z w : Bool) → (a || b || c || d || x || y || z || w) ≡ false → (a ≡ false) × (b ≡ false) × (c ≡ false) × (d ≡ false) × (x ≡ false)
  invoke_parts true b c d x y z w e = absurd (false≢true (sym e))
  invoke_parts false true c d x y z w e = absurd (false≢true (sym e))
  invoke_parts false false true d x y z w e = absurd (false≢true (sym e))
  invoke_parts false false false true x y z w e = absurd (false≢true (sym e))
  invoke_parts false false false false true y z w e = absurd (false≢true (sym e))
  invoke_parts false false false false false y z w e = (refl, refl, refl, refl, refl)

  is_true : (b : Bool) → not b ≡ false → b ≡ true
  is_true true e = refl
  is_true false e = absurd (false≢true (sym e))

  request_up : (t : PacketType) → is_request t ≡ true → receiver_of t ≡ Server
  request_up Request e = refl
  request_up Response e = absurd (false≢true e)
  request_up ClientStream e = absurd (false≢true e)
  request_up ClientError e = absurd (false≢true e)
  request_up ServerError e = absurd (false≢true e)
  request_up ServerStream e = absurd (false≢true e)
  request_up Completion e = absurd (false≢true e)

  invoke_ok : (p : Packet) (m : Memo) → is_refused set ds (Invoke p m) ≡ false → (o : Option MethodRef) → (set.role ≡ Client → OpensFit (invoke_effect ds p m o)) → Good set.role (invoke_effect ds p m o)
  invoke_ok p m e None fits = (tt, tt)
  invoke_ok p m e (Some method) fits =
      let parts = invoke_parts (is_server set.role) (not (is_request p.ptype)) (not (p.status == 0)) (has_zero p.name) (is_long p.payload) (not (has_id (channels_in set ds) p.name.channel)) (is_none (method_named set p.name)) (is_some (live_call ds p.name)) e in
      let ok : NameOk p.name = name_ok p.name (fits (client_role set.role parts.0)).0 parts.3 in
      let zero_status : p.status ≡ 0 = eqb-true p.status 0 (is_true (p.status == 0) parts.2) in
      ((ok, tt), (client_only set.role p parts.0 (sendable Server p ok (request_up p.ptype (is_true (is_request p.ptype) parts.1)) (not_long p.payload parts.4) (omega (arith, zero_status))), tt))

  says_ok : (c : ℕ) (payload : List ℕ) → is_long payload ≡ false → (o : Option Opening) → ((x : Opening) → o ≡ Some x → NameOk x.name) → Good set.role (with_call o (λ x. says_item (message_item set.role c x.name payload)))
  says_ok c payload few None ok = (tt, tt)
  says_ok c payload few (Some o) ok = (tt, (stream_ok set.role c o.name payload (ok o refl) (not_long payload few), tt))

  keeps_ok : (c : ℕ) (item : Opening → Item) → ((x : Opening) → ActOk set.role (item x).act) → (o : Option Opening) → Good set.role (with_call o (λ x. says_item (item x)))
  keeps_ok c item ok None = (tt, tt)
  keeps_ok c item ok (Some o) = (tt, (ok o, tt))

  done_ok : (c : ℕ) → is_server set.role ≡ false → (o : Option Opening) → ((x : Opening) → o ≡ Some x → NameOk x.name) → Good set.role (with_call o (λ x. says_item (packet_item c (status_packet Completion x.name Okay))))
  done_ok c e None ok = (tt, tt)
  done_ok c e (Some o) ok = (tt, (client_only set.role (status_packet Completion o.name Okay) e (sendable Server (status_packet Completion o.name Okay) (ok o refl) refl (omega arith) (status_within Okay)), tt))

  three_first : (a b c : Bool) → (a || b || c) ≡ false → b ≡ false
  three_first a b c e = (three a b c e).1

  entry_ok : (kind : EntryKind) → ArriveFits kind → (set.role ≡ Client → OpensFit (effect_of set ds kind)) → is_refused set ds kind ≡ false → Good set.role (effect_of set ds kind)
  entry_ok (Arrive p) fits opens e = arrive_ok set p ds (name_ok p.name fits (three_first (not (hears set.role p.ptype)) (has_zero p.name) (is_some (full_queue set ds p)) e))
  entry_ok (Invoke p m) fits opens e = invoke_ok p m e (method_named set p.name) opens
  entry_ok (Say c (Message payload)) fits opens e =
      says_ok c payload (first_of_four (is_long payload) (has_end ds c) (not (has_stream set.role (call_at ds c))) (not (is_server set.role) && is_done ds c) e) (call_at ds c) (named c)
  entry_ok (Say c (Begin s r f)) fits opens e = keeps_ok c _ (λ x. tt) (call_at ds c)
  entry_ok (Say c (Append s b)) fits opens e = keeps_ok c _ (λ x. tt) (call_at ds c)
  entry_ok (Say c (Commit s)) fits opens e = keeps_ok c _ (λ x. tt) (call_at ds c)
  entry_ok (Say c (Leave s)) fits opens e = keeps_ok c _ (λ x. tt) (call_at ds c)
  entry_ok (Done c) fits opens e = done_ok c (first_of_four (is_server set.role) (has_end ds c) (is_unary_call (call_at ds c)) (is_done ds c) e) (call_at ds c) (named c)
  entry_ok (Start c) fits opens e = (tt, tt)
  entry_ok (Finish c a) fits opens e = finish_ok set ds c a (call_at ds c) (named c) e
  entry_ok (Replace c m) fits opens e = (tt, tt)
  entry_ok (Cancel c) fits opens e = cancel_ok set ds c (call_at ds c) (named c)
  entry_ok (Tick t) fits opens e = (tt, tt)
  entry_ok Flush fits opens e = (tt, tt)
  entry_ok EndIn fits opens e = (tt, tt)
  entry_ok (Halt why) fits opens e = (tt, tt)
  entry_ok (Close channel) fits opens e = (tt, close_ok set.role (is_live_on ds channel) 0 (calls ds) names)

all_parts : {A : Type 0} (P : A → Type 0) (xs ys : List A) → AllByRecursion P (xs ++ ys) → AllByRecursion P xs × AllByRecursion P ys
all_parts P [] ys all = (tt, all)
all_parts P (x ∷ xs) ys all = let rest = all_parts P xs ys all.1 in ((all.0, rest.0), rest.1)

-- ALL ENTRIES, the newest first
record AreGood (set : Setting) (ds : List Deed) : Type 0 where
  names : AllByRecursion Named (calls ds)
  items : AllOk set.role (items_sent ds)

all_good : (set : Setting) (es : List Entry) → AllowedAll set es → AllArrive es → (set.role ≡ Client → AllByRecursion (λ o. NameFits o.name) (calls (deeds_of set es))) → AreGood set (deeds_of set es)
all_good set [] allowed_all fits called = record { names = tt; items = tt }
all_good set (e ∷ es) allowed_all fits called =
    let ds : List Deed = deeds_of set es in
    let before : AreGood set ds = all_good set es allowed_all.0 fits.1 (λ client. (parts (called client)).0) in
    let good : Good set.role (effect_of set ds e.kind) = entry_ok set ds before.names e.kind fits.0 (λ client. (parts (called client)).1) (allowed set ds e allowed_all.1).accepted in
    record {
      names = all_join Named (calls ds) _ before.names good.0;
      items = all_join (λ (item : Item). ActOk set.role item.act) (items_sent ds) _ before.items good.1;
    }
  where
    parts : AllByRecursion (λ o. NameFits o.name) (calls (deeds_of set (e ∷ es)))
        → AllByRecursion (λ o. NameFits o.name) (calls (deeds_of set es)) × AllByRecursion (λ o. NameFits o.name) (option_to_list (effect_of set (deeds_of set es) e.kind).opens)
    parts all = all_parts (λ (o : Opening). NameFits o.name) (calls (deeds_of set es)) (option_to_list (effect_of set (deeds_of set es) e.kind).opens) all

arrived_fit : (h : List Entry) → AllByRecursion (λ p. NameFits p.name) (arrivals h) → AllArrive h
arrived_fit [] all = tt
arrived_fit (e ∷ h) all = at e.kind (λ rest. arrived_fit h rest) all
  where
    at : (kind : EntryKind) → (AllByRecursion (λ p. NameFits p.name) (arrivals h) → AllArrive h) → AllByRecursion (λ p. NameFits p.name) (arrivals (record { seat = e.seat; kind = kind } ∷ h)) → ArriveFits kind × AllArrive h
    at (Arrive p) more all = (all.0, more all.1)
    at (Invoke p m) more all = (tt, more all)
    at (Say c out) more all = (tt, more all)
    at (Done c) more all = (tt, more all)
    at (Start c) more all = (tt, more all)
    at (Finish c a) more all = (tt, more all)
    at (Replace c m) more all = (tt, more all)
    at (Cancel c) more all = (tt, more all)
    at (Tick t) more all = (tt, more all)
    at Flush more all = (tt, more all)
    at EndIn more all = (tt, more all)
    at (Halt why) more all = (tt, more all)
    at (Close channel) more all = (tt, more all)

all_reverse : (h : List Entry) → AllArrive h → AllArrive (reverse h)
all_reverse [] all = tt
all_reverse (e ∷ h) all = subst AllArrive (sym (reverse-append (e ∷ []) h)) (all_join (λ (x : Entry). ArriveFits x.kind) (reverse h) (e ∷ []) (all_reverse h all.1) (all.0, tt))

all_taken : (role : Role) (n : ℕ) (items : List Item) → AllOk role items → AllByRecursion (IsSendable (peer role)) (packets_of (take n items))
all_taken role zero items all = tt
all_taken role (suc n) [] all = tt
all_taken role (suc n) (item ∷ items) all = all_join (IsSendable (peer role)) (packet_of item.act) _ (at item.act all.0) (all_taken role n items all.1)
  where
    at : (act : Act) → ActOk role act → AllByRecursion (IsSendable (peer role)) (packet_of act)
    at (Send p) ok = (ok, tt)
    at (Keep out) ok = tt
    at LeaveCall ok = tt

pub sends_are_heard : SendsAreHeard
sends_are_heard rule set h legal fits = all_taken set.role (flush_count (history set h)) (items_sent (history set h)) (all_good set (reverse h) legal.lawful.allowed (all_reverse h (arrived_fit h fits.arrived)) fits.called).items
