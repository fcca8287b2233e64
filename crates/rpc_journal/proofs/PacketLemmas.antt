-- The packets of a call that entries add: none once the call has an end.
use Rattle.std.proofs.Common.{◌≡◌, ℕ, ◌+◌, ◌<◌, Bool, true, false, not, ◌&&◌, ◌||◌, ◌==◌, List, [], ◌∷◌, ◌++◌, reverse, flat_map, Option, Some, None, is_some, if◌then◌else◌, refl, ap, sym, ◌∙◌, subst, arith, append_assoc}
use Rattle.std.proofs.lemmas.Bool.{true≢false, false≢true, ne_eqb, and_left, and_parts, and_right, not-true}
use Rattle.std.proofs.lemmas.List.{append-nil, reverse-append}
use Rattle.std.proofs.lemmas.List.Concat.{flat_map-cons}
use Rattle.rpc_ids.specs.declared.method.MethodRef.{MethodRef}
use Rattle.rpc_ids.specs.declared.method.Kind.{Kind}
use Rattle.rpc_ids.specs.declared.method.Role.{Role}
use Rattle.rpc_ids.specs.declared.method.Role.TheVariants.{Server, Client}
use Rattle.rpc_ids.specs.declared.status.Status.{Status}
use Rattle.rpc_ids.specs.declared.status.Status.TheVariants.{Okay, Cancelled, Aborted}
use Rattle.rpc_ids.specs.Status.{status_of}
use Rattle.rpc_packet.specs.declared.call_name.CallName.{CallName}
use Rattle.rpc_packet.specs.declared.owned.Packet.{Packet}
use Rattle.rpc_packet.specs.declared.packet_type.PacketType.{PacketType}
use Rattle.rpc_packet.specs.declared.packet_type.PacketType.TheVariants.{Request, Response, ClientStream, ClientError, ServerError, ServerStream, Completion}
use Rattle.rpc_handlers.specs.declared.answer.Answer.{Answer}
use Rattle.rpc_handlers.specs.declared.answer.End.{End}
use Rattle.rpc_handlers.specs.declared.answer.Out.{Out}
use Rattle.rpc_handlers.specs.declared.answer.Out.TheVariants.{Say as Message, Begin, Append, Commit, Leave}
use Rattle.rpc_handlers.specs.declared.event.Memo.{Memo}
use Rattle.rpc_journal.specs.declared.entry.Entry.{Entry}
use Rattle.rpc_journal.specs.declared.entry.EntryKind.{EntryKind}
use Rattle.rpc_journal.specs.declared.entry.EntryKind.TheVariants.{Arrive, Invoke, Say, Done, Start, Finish, Replace, Cancel, Tick, Flush, EndIn, Halt, Close}
use Rattle.rpc_journal.specs.declared.item.Item.{Item}
use Rattle.rpc_journal.specs.declared.setting.Setting.{Setting}
use Rattle.rpc_journal.specs.Effect.{Opening, Deed}
use Rattle.rpc_journal.specs.Calls.{calls, call_count, call_at, has_end, ends_of, live_call, is_cancelled, runner_of, of_call}
use Rattle.rpc_journal.specs.Queues.{is_completed}
use Rattle.rpc_journal.specs.Items.{items_sent, is_done}
use Rattle.rpc_journal.specs.Kinds.{is_empty, is_okay, is_unary, streams_up, streams_down}
use Rattle.rpc_journal.specs.Rows.{Row, channels_in, method_named, no_effect, says_item, status_packet, packet_item}
use Rattle.rpc_journal.specs.ServerTable.{method_row, known_row, unknown_row}
use Rattle.rpc_journal.specs.ClientTable.{call_row, live_row, no_call_row}
use Rattle.rpc_journal.specs.Entries.{row_by, arrive_row, leave_item, effect_of, invoke_effect, out_item, answer_item, messages_go, answered, end_effect, finish_effect, is_heard, cancel_effect, error_type, is_live_on, made_from, with_call}
use Rattle.rpc_journal.specs.History.{deeds_of, history}
use Rattle.rpc_journal.specs.Lawful.{AllowedAll, IsLawful, is_refused, is_refused_say}
use Rattle.rpc_journal.specs.Laws.{is_packet_for, NoPacketFor, SaysNoMoreOf}
use Rattle.rpc_journal.proofs.Allowed.{allowed}
use Rattle.rpc_journal.proofs.Push.{allowed-parts}
use Rattle.rpc_journal.proofs.EndLemmas.{AllLive, live_is, heard_live, ended_known}
use Rattle.rpc_channel.specs.Rising.{has_id}

-- a call with an end isn't one without
pub apart : (ds : List Deed) (c k : ℕ) → has_end ds c ≡ true → has_end ds k ≡ false → (k == c) ≡ false
apart ds c k ended live = ne_eqb k c (λ same. true≢false (sym ended ∙ (ap (has_end ds) (sym same) ∙ live)))

-- nor one that isn't there
pub fresh : (ds : List Deed) (c : ℕ) → c < call_count ds → (call_count ds == c) ≡ false
fresh ds c known = ne_eqb (call_count ds) c (λ same. omega (arith, same, known))

-- of a refusal that none of the causes makes
neither : (x y : Bool) → (x || y) ≡ false → (x ≡ false) × (y ≡ false)
neither true y h = absurd (true≢false h)
neither false y h = (refl, h)

-- a packet of another call is none of c
other_packet : (c k : ℕ) → (k == c) ≡ false → ((k == c) && true) ≡ false
other_packet c k other = and_left (k == c) true other

-- what is no packet is none of c
no_packet : (c k : ℕ) → ((k == c) && false) ≡ false
no_packet c k = and_right (k == c) false refl

if_packets : (c : ℕ) (b : Bool) (x y : Row) → NoPacketFor c x.does.says → NoPacketFor c y.does.says → NoPacketFor c (if b then x else y).does.says
if_packets c true x y first second = first
if_packets c false x y first second = second

known_row-packets : (c : ℕ) (ptype : PacketType) (p : Packet) (m : MethodRef) (ds : List Deed) (l : Option ℕ) → NoPacketFor c (known_row ptype p m ds l).does.says
known_row-packets c Request p m ds None = tt
known_row-packets c Request p m ds (Some k) = tt
known_row-packets c Response p m ds l = tt
known_row-packets c ClientStream p m ds None = (refl, tt)
known_row-packets c ClientStream p m ds (Some k) =
    if_packets c (not (streams_up m.kind)) _ _ (refl, tt) (if_packets c (is_completed ds k) _ _ (refl, tt) tt)
known_row-packets c ClientError p m ds None = tt
known_row-packets c ClientError p m ds (Some k) = tt
known_row-packets c ServerError p m ds l = tt
known_row-packets c ServerStream p m ds l = tt
known_row-packets c Completion p m ds None = (refl, tt)
known_row-packets c Completion p m ds (Some k) = if_packets c (is_unary m.kind || is_completed ds k) _ _ tt tt

unknown_row-packets : (c : ℕ) (ptype : PacketType) (p : Packet) (s : Status) → NoPacketFor c (unknown_row ptype p s).does.says
unknown_row-packets c Request p s = (refl, tt)
unknown_row-packets c Response p s = (refl, tt)
unknown_row-packets c ClientStream p s = (refl, tt)
unknown_row-packets c ClientError p s = tt
unknown_row-packets c ServerError p s = (refl, tt)
unknown_row-packets c ServerStream p s = (refl, tt)
unknown_row-packets c Completion p s = (refl, tt)

method_row-packets : (c : ℕ) (p : Packet) (ds : List Deed) (o : Option MethodRef) → NoPacketFor c (method_row p ds o).does.says
method_row-packets c p ds None = unknown_row-packets c p.ptype p _
method_row-packets c p ds (Some m) = known_row-packets c p.ptype p m ds (live_call ds p.name)

live_row-packets : (c k : ℕ) (ptype : PacketType) (p : Packet) (m : MethodRef) → (k == c) ≡ false → NoPacketFor c (live_row ptype p m k).does.says
live_row-packets c k Request p m other = tt
live_row-packets c k Response p m other = if_packets c (is_okay (status_of p.status) && not (streams_down m.kind)) _ _ tt tt
live_row-packets c k ClientStream p m other = tt
live_row-packets c k ClientError p m other = tt
live_row-packets c k ServerError p m other = tt
live_row-packets c k ServerStream p m other = if_packets c (streams_down m.kind) _ _ tt (other_packet c k other, tt)
live_row-packets c k Completion p m other = tt

no_call_row-packets : (c : ℕ) (ptype : PacketType) (p : Packet) → NoPacketFor c (no_call_row ptype p).does.says
no_call_row-packets c Request p = tt
no_call_row-packets c Response p = tt
no_call_row-packets c ClientStream p = tt
no_call_row-packets c ClientError p = tt
no_call_row-packets c ServerError p = tt
no_call_row-packets c ServerStream p = (refl, tt)
no_call_row-packets c Completion p = tt

call_row-packets : (c : ℕ) (p : Packet) (ds : List Deed) (o : Option MethodRef) (l : Option ℕ) → has_end ds c ≡ true → AllLive ds l
    → NoPacketFor c (call_row p o l).does.says
call_row-packets c p ds None l ended live = no_call_row-packets c p.ptype p
call_row-packets c p ds (Some m) None ended live = no_call_row-packets c p.ptype p
call_row-packets c p ds (Some m) (Some k) ended live = live_row-packets c k p.ptype p m (apart ds c k ended live.0)

row_by-packets : (role : Role) (set : Setting) (ds : List Deed) (p : Packet) (c : ℕ) → has_end ds c ≡ true → NoPacketFor c (row_by role set ds p).does.says
row_by-packets Server set ds p c ended =
    if_packets c (has_id (channels_in set ds) p.name.channel) _ _ (method_row-packets c p ds (method_named set p.name)) (unknown_row-packets c p.ptype p _)
row_by-packets Client set ds p c ended =
    if_packets c (has_id (channels_in set ds) p.name.channel) _ _ (call_row-packets c p ds (method_named set p.name) (live_call ds p.name) ended (live_is ds p.name)) tt

arrive-packets : (set : Setting) (ds : List Deed) (p : Packet) (c : ℕ) → has_end ds c ≡ true → NoPacketFor c (arrive_row set ds p).does.says
unfolding arrive_row
arrive-packets set ds p c ended = row_by-packets set.role set ds p c ended

invoke-packets : (ds : List Deed) (p : Packet) (m : Memo) (o : Option MethodRef) (c : ℕ) → (call_count ds == c) ≡ false → NoPacketFor c (invoke_effect ds p m o).says
invoke-packets ds p m None c other = tt
invoke-packets ds p m (Some method) c other = (other_packet c (call_count ds) other, tt)

-- what goes out of a call without an end
with_call-packets : (o : Option Opening) (item : Opening → Item) (c : ℕ) → ((x : Opening) → is_packet_for c (item x) ≡ false) → NoPacketFor c (with_call o (λ x. says_item (item x))).says
with_call-packets None item c none = tt
with_call-packets (Some x) item c none = (none x, tt)

-- an accepted message of k is none of an ended call
say_other : (set : Setting) (ds : List Deed) (c k : ℕ) (out : Out) → has_end ds c ≡ true → is_refused_say set ds k out ≡ false
    → (o : Opening) → is_packet_for c (out_item set.role k o.name out) ≡ false
say_other set ds c k (Message payload) ended accepted o =
    other_packet c k (apart ds c k ended (neither _ _ (neither _ _ (neither _ _ accepted).0).0).1)
say_other set ds c k (Begin session resource offset) ended accepted o = no_packet c k
say_other set ds c k (Append session bytes) ended accepted o = no_packet c k
say_other set ds c k (Commit session) ended accepted o = no_packet c k
say_other set ds c k (Leave session) ended accepted o = no_packet c k

packets-append : (c : ℕ) (xs ys : List Item) → NoPacketFor c xs → NoPacketFor c ys → NoPacketFor c (xs ++ ys)
packets-append c [] ys first second = second
packets-append c (x ∷ xs) ys first second = (first.0, packets-append c xs ys first.1 second)

-- an item of an answer that isn't heard, or of another call
answer_item-packets : (role : Role) (c k : ℕ) (name : CallName) (says : Bool) (out : Out) → (says ≡ true → (k == c) ≡ false)
    → NoPacketFor c (answer_item role k name says out)
answer_item-packets role c k name true (Message payload) other = (other_packet c k (other refl), tt)
answer_item-packets role c k name false (Message payload) other = tt
answer_item-packets role c k name says (Begin session resource offset) other = (no_packet c k, tt)
answer_item-packets role c k name says (Append session bytes) other = (no_packet c k, tt)
answer_item-packets role c k name says (Commit session) other = (no_packet c k, tt)
answer_item-packets role c k name says (Leave session) other = (no_packet c k, tt)

answer_items-packets : (role : Role) (c k : ℕ) (name : CallName) (says : Bool) (outs : List Out) → (says ≡ true → (k == c) ≡ false)
    → NoPacketFor c (flat_map (answer_item role k name says) outs)
answer_items-packets role c k name says [] other = tt
answer_items-packets role c k name says (out ∷ outs) other =
    subst (NoPacketFor c) (sym (flat_map-cons (answer_item role k name says) out outs))
    (packets-append c _ _ (answer_item-packets role c k name says out other) (answer_items-packets role c k name says outs other))

end_effect-packets : (role : Role) (c k : ℕ) (name : CallName) (kind : Kind) (done : Bool) (end : Option End) → (k == c) ≡ false
    → NoPacketFor c (end_effect role k name kind done end).says
end_effect-packets Server c k name kind done None other = tt
end_effect-packets Server c k name kind done (Some end) other = (other_packet c k other, tt)
end_effect-packets Client c k name kind done None other = tt
end_effect-packets Client c k name kind done (Some end) other = at (is_okay end.status) (is_unary kind || done)
  where
    at : (okay closed : Bool)
        → NoPacketFor c (if okay then (if closed then no_effect else says_item (packet_item k (status_packet Completion name Okay))) else record no_effect { ends = (k, end.status) ∷ []; drops = k ∷ []; says = packet_item k (status_packet ClientError name end.status) ∷ [] }).says
    at true true = tt
    at true false = (other_packet c k other, tt)
    at false closed = (other_packet c k other, tt)

answered-packets : (role : Role) (c k : ℕ) (o : Opening) (heard done : Bool) (a : Answer) → (heard ≡ true → (k == c) ≡ false)
    → NoPacketFor c (answered role k o heard done a).says
answered-packets role c k o true done a other =
    packets-append c _ _
    (answer_items-packets role c k o.name (messages_go role o.method.kind true done) a.items (λ _. other refl))
    (end_effect-packets role c k o.name o.method.kind done a.end (other refl))
answered-packets role c k o false done a other =
    packets-append c _ []
    (answer_items-packets role c k o.name (messages_go role o.method.kind false done) a.items (λ says. absurd (false≢true says)))
    tt

finish-packets : (set : Setting) (ds : List Deed) (c k : ℕ) (a : Answer) (o : Option Opening) → has_end ds c ≡ true
    → NoPacketFor c (finish_effect set ds k a o).says
finish-packets set ds c k a None ended = tt
finish-packets set ds c k a (Some o) ended = at (is_cancelled ds k)
  where
    at : (b : Bool) → NoPacketFor c (if b then says_item (leave_item k) else answered set.role k o (is_heard ds k) (is_done ds k) a).says
    at true = (no_packet c k, tt)
    at false = answered-packets set.role c k o (is_heard ds k) (is_done ds k) a (λ heard. apart ds c k ended (heard_live ds k heard))

cancel-packets : (set : Setting) (ds : List Deed) (c k : ℕ) (o : Option Opening) → has_end ds c ≡ true → NoPacketFor c (cancel_effect set ds k o).says
cancel-packets set ds c k None ended = tt
cancel-packets set ds c k (Some o) ended = packets-append c _ _ (told (has_end ds k) refl) (left (is_some (runner_of ds k)))
  where
    told : (b : Bool) → has_end ds k ≡ b → NoPacketFor c (if b then [] else packet_item k (status_packet (error_type set.role) o.name Cancelled) ∷ [])
    told true is = tt
    told false is = (other_packet c k (apart ds c k ended is), tt)

    left : (b : Bool) → NoPacketFor c (if b then [] else leave_item k ∷ [])
    left true = tt
    left false = (no_packet c k, tt)

done-packets : (set : Setting) (ds : List Deed) (c k : ℕ) → has_end ds c ≡ true → is_refused set ds (Done k) ≡ false → (k == c) ≡ false
done-packets set ds c k ended accepted = apart ds c k ended (neither _ _ (neither _ _ (neither _ _ accepted).0).0).1

-- of calls that pass a test, which only live ones pass
each-packets : (role : Role) (ds : List Deed) (c n : ℕ) (test : ℕ → Opening → Bool) (os : List Opening) → has_end ds c ≡ true
    → ((k : ℕ) (o : Opening) → test k o ≡ true → has_end ds k ≡ false)
    → NoPacketFor c (made_from n test (λ k o. packet_item k (status_packet (error_type role) o.name Aborted)) os)
each-packets role ds c n test [] ended live = tt
each-packets role ds c n test (o ∷ os) ended live = at (test n o) refl (each-packets role ds c (n + 1) test os ended live)
  where
    at : (b : Bool) → test n o ≡ b → NoPacketFor c (made_from (n + 1) test (λ k x. packet_item k (status_packet (error_type role) x.name Aborted)) os)
        → NoPacketFor c (if b then packet_item n (status_packet (error_type role) o.name Aborted) ∷ made_from (n + 1) test (λ k x. packet_item k (status_packet (error_type role) x.name Aborted)) os
        else made_from (n + 1) test (λ k x. packet_item k (status_packet (error_type role) x.name Aborted)) os)
    at true is rest = (other_packet c n (apart ds c n ended (live n o is)), rest)
    at false is rest = rest

-- an allowed entry adds no packet of a call with an end
pub effect-packets : (set : Setting) (ds : List Deed) (kind : EntryKind) (c : ℕ) → has_end ds c ≡ true → c < call_count ds
    → is_refused set ds kind ≡ false → NoPacketFor c (effect_of set ds kind).says
effect-packets set ds (Arrive p) c ended known accepted = arrive-packets set ds p c ended
effect-packets set ds (Invoke p m) c ended known accepted = invoke-packets ds p m (method_named set p.name) c (fresh ds c known)
effect-packets set ds (Say k out) c ended known accepted = with_call-packets (call_at ds k) _ c (say_other set ds c k out ended accepted)
effect-packets set ds (Done k) c ended known accepted =
    with_call-packets (call_at ds k) _ c (λ o. other_packet c k (done-packets set ds c k ended accepted))
effect-packets set ds (Start k) c ended known accepted = tt
effect-packets set ds (Finish k a) c ended known accepted = finish-packets set ds c k a (call_at ds k) ended
effect-packets set ds (Replace k m) c ended known accepted = tt
effect-packets set ds (Cancel k) c ended known accepted = cancel-packets set ds c k (call_at ds k) ended
effect-packets set ds (Tick t) c ended known accepted = tt
effect-packets set ds Flush c ended known accepted = tt
effect-packets set ds EndIn c ended known accepted = tt
effect-packets set ds (Halt why) c ended known accepted = tt
effect-packets set ds (Close channel) c ended known accepted =
    each-packets set.role ds c 0 (is_live_on ds channel) (calls ds) ended (λ k o live. not-true _ (and_parts _ _ live).0)

-- a call with an end keeps it
pub has_end-more : (ds : List Deed) (d : Deed) (c : ℕ) → has_end ds c ≡ true → has_end (d ∷ ds) c ≡ true
has_end-more ds d c ended = at (ends_of ds c) ended
  where
    at : (xs : List Status) → not (is_empty xs) ≡ true → not (is_empty (xs ++ of_call c d.does.ends)) ≡ true
    at [] some = absurd (false≢true some)
    at (x ∷ xs) some = refl

pub has_end-older : (set : Setting) (new old : List Entry) (c : ℕ) → has_end (deeds_of set old) c ≡ true → has_end (deeds_of set (new ++ old)) c ≡ true
has_end-older set [] old c ended = ended
has_end-older set (e ∷ new) old c ended =
    has_end-more (deeds_of set (new ++ old)) (record { entry = e; does = effect_of set (deeds_of set (new ++ old)) e.kind }) c (has_end-older set new old c ended)

-- of entries that stand the newest first: the newer ones add no packet of a call that has an end before them
pub no_more_packets : (set : Setting) (new old : List Entry) (c : ℕ) → AllowedAll set (new ++ old) → has_end (deeds_of set old) c ≡ true
    → SaysNoMoreOf c (items_sent (deeds_of set old)) (items_sent (deeds_of set (new ++ old)))
no_more_packets set [] old c all ended = record { added = []; later_is = sym (append-nil _); no_packet = tt }
no_more_packets set (e ∷ new) old c all ended =
    let before = no_more_packets set new old c all.0 ended in
    let still = has_end-older set new old c ended in
    let fits = allowed set (deeds_of set (new ++ old)) e all.1 in
    let says : List Item = (effect_of set (deeds_of set (new ++ old)) e.kind).says in
    record {
      added = before.added ++ says;
      later_is = ap (λ items. items ++ says) before.later_is ∙ append_assoc (items_sent (deeds_of set old)) before.added says;
      no_packet = packets-append c _ _ before.no_packet
          (effect-packets set (deeds_of set (new ++ old)) e.kind c still (ended_known set (new ++ old) c still) fits.accepted);
    }

pub no_packet_after_end : (set : Setting) (h more : List Entry) (c : ℕ) → IsLawful set (h ++ more) → has_end (history set h) c ≡ true
    → SaysNoMoreOf c (items_sent (history set h)) (items_sent (history set (h ++ more)))
no_packet_after_end set h more c lawful ended =
    subst (λ es. SaysNoMoreOf c (items_sent (history set h)) (items_sent (deeds_of set es))) (sym (reverse-append h more))
    (no_more_packets set (reverse more) (reverse h) c (allowed-parts set h more lawful) ended)
