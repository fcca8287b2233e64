-- The ends that entries give: only to calls that are there and have no end, so that each call has at most one.
use Rattle.std.proofs.Common.{◌≡◌, ℕ, ◌+◌, ◌<◌, ◌≤◌, Bool, true, false, not, ◌&&◌, ◌||◌, ◌==◌, List, [], ◌∷◌, ◌++◌, length, Option, Some, None, option_to_list, option_and_then, if◌then◌else◌, refl, ap, sym, ◌∙◌, subst, arith, length-append}
use Rattle.std.proofs.lemmas.Bool.{true≢false, false≢true, eqb-true, not-true, and_parts}
use Rattle.std.proofs.lemmas.List.{append-nil}
use Rattle.std.proofs.lemmas.Option.{slice_get_within}
use Rattle.rpc_ids.specs.declared.method.MethodRef.{MethodRef}
use Rattle.rpc_ids.specs.declared.method.Role.{Role}
use Rattle.rpc_ids.specs.declared.method.Kind.{Kind}
use Rattle.rpc_ids.specs.declared.status.Status.TheVariants.{Okay, Cancelled, Aborted}
use Rattle.rpc_ids.specs.Status.{status_of}
use Rattle.rpc_ids.specs.declared.method.Role.TheVariants.{Server, Client}
use Rattle.rpc_ids.specs.declared.status.Status.{Status}
use Rattle.rpc_packet.specs.declared.call_name.CallName.{CallName}
use Rattle.rpc_packet.specs.declared.owned.Packet.{Packet}
use Rattle.rpc_packet.specs.declared.packet_type.PacketType.{PacketType}
use Rattle.rpc_packet.specs.declared.packet_type.PacketType.TheVariants.{Request, Response, ClientStream, ClientError, ServerError, ServerStream, Completion}
use Rattle.rpc_handlers.specs.declared.answer.Answer.{Answer}
use Rattle.rpc_handlers.specs.declared.answer.End.{End}
use Rattle.rpc_journal.specs.declared.entry.Entry.{Entry}
use Rattle.rpc_journal.specs.declared.entry.EntryKind.{EntryKind}
use Rattle.rpc_journal.specs.declared.entry.EntryKind.TheVariants.{Arrive, Invoke, Say, Done, Start, Finish, Replace, Cancel, Tick, Flush, EndIn, Halt, Close}
use Rattle.rpc_handlers.specs.declared.event.Memo.{Memo}
use Rattle.rpc_journal.specs.declared.item.Item.{Item}
use Rattle.rpc_journal.specs.declared.setting.Setting.{Setting}
use Rattle.rpc_journal.specs.Effect.{Opening, Deed}
use Rattle.rpc_journal.specs.Calls.{of_call, same_name, calls, call_count, call_at, ends_of, has_end, opens_named, last_call, live_call, is_cancelled}
use Rattle.rpc_journal.specs.Queues.{is_completed}
use Rattle.rpc_journal.specs.Items.{is_done}
use Rattle.rpc_journal.specs.Kinds.{is_empty, is_okay, is_unary, streams_up, streams_down}
use Rattle.rpc_journal.specs.Rows.{Row, channels_in, method_named, no_effect, says_item, status_packet, packet_item}
use Rattle.rpc_journal.specs.ServerTable.{method_row, known_row, unknown_row}
use Rattle.rpc_journal.specs.ClientTable.{call_row, live_row, no_call_row}
use Rattle.rpc_journal.specs.Entries.{each_from, is_live_on, row_by, arrive_row, leave_item, effect_of, invoke_effect, finish_effect, answered, end_effect, is_heard, cancel_effect, with_call}
use Rattle.rpc_journal.specs.History.{deeds_of}
use Rattle.rpc_journal.proofs.EachLemmas.{none_before}
use Rattle.rpc_channel.specs.Rising.{has_id}

-- each of these ends is of a call that is there and has none yet, and no call is among them twice
abbrev pub EndsOpen : List Deed → List (ℕ × Status) → Type 0
EndsOpen ds [] = Unit {0}
EndsOpen ds (x ∷ xs) = (has_end ds x.0 ≡ false) × (x.0 < call_count ds) × (of_call x.0 xs ≡ []) × EndsOpen ds xs

-- the call, where there is one, is there and has no end
abbrev pub AllLive : List Deed → Option ℕ → Type 0
AllLive ds None = Unit {0}
AllLive ds (Some c) = (has_end ds c ≡ false) × (c < call_count ds)

-- the call, where there is one, is there
abbrev pub AllKnown : List Deed → Option ℕ → Type 0
AllKnown ds None = Unit {0}
AllKnown ds (Some c) = c < call_count ds

known-more : (d : Deed) (ds : List Deed) (o : Option ℕ) → AllKnown ds o → AllKnown (d ∷ ds) o
known-more d ds None known = tt
known-more d ds (Some c) known = omega (arith, known, length-append (calls ds) (option_to_list d.does.opens))

pub last_known : (ds : List Deed) (name : CallName) → AllKnown ds (last_call ds name)
last_known [] name = tt
last_known (d ∷ ds) name = at d.does.opens refl (known-more d ds (last_call ds name) (last_known ds name))
  where
    named : (o : Opening) → d.does.opens ≡ Some o → AllKnown (d ∷ ds) (last_call ds name) → (b : Bool)
        → AllKnown (d ∷ ds) (if b then Some (call_count ds) else last_call ds name)
    named o is known true = omega (arith, length-append (calls ds) (option_to_list d.does.opens), ap (λ x. length (option_to_list x)) is)
    named o is known false = known

    at : (o : Option Opening) → d.does.opens ≡ o → AllKnown (d ∷ ds) (last_call ds name)
        → AllKnown (d ∷ ds) (if opens_named name o then Some (call_count ds) else last_call ds name)
    at None is known = known
    at (Some o) is known = named o is known (same_name o.name name)

-- a live call is there and has no end
pub live_is : (ds : List Deed) (name : CallName) → AllLive ds (live_call ds name)
live_is ds name = at (last_call ds name) (last_known ds name)
  where
    ended : (c : ℕ) → c < call_count ds → (b : Bool) → has_end ds c ≡ b → AllLive ds (if b then None else Some c)
    ended c known true is = tt
    ended c known false is = (is, known)

    at : (o : Option ℕ) → AllKnown ds o → AllLive ds (option_and_then (λ c. if has_end ds c then None else Some c) o)
    at None known = tt
    at (Some c) known = ended c known (has_end ds c) refl

-- what `EndsOpen` asks of one end
one_end : (ds : List Deed) (c : ℕ) → (has_end ds c ≡ false) × (c < call_count ds)
    → (has_end ds c ≡ false) × (c < call_count ds) × (of_call {A = Status} c [] ≡ []) × Unit {0}
one_end ds c live = (live.0, live.1, refl, tt)

if_ends : (ds : List Deed) (b : Bool) (x y : Row) → EndsOpen ds x.does.ends → EndsOpen ds y.does.ends → EndsOpen ds (if b then x else y).does.ends
if_ends ds true x y first second = first
if_ends ds false x y first second = second

known_row-ends : (ptype : PacketType) (p : Packet) (m : MethodRef) (ds : List Deed) (l : Option ℕ) → AllLive ds l
    → EndsOpen ds (known_row ptype p m ds l).does.ends
known_row-ends Request p m ds None live = tt
known_row-ends Request p m ds (Some c) live = one_end ds c live
known_row-ends Response p m ds l live = tt
known_row-ends ClientStream p m ds None live = tt
known_row-ends ClientStream p m ds (Some c) live =
    if_ends ds (not (streams_up m.kind)) _ _ tt (if_ends ds (is_completed ds c) _ _ tt tt)
known_row-ends ClientError p m ds None live = tt
known_row-ends ClientError p m ds (Some c) live = one_end ds c live
known_row-ends ServerError p m ds l live = tt
known_row-ends ServerStream p m ds l live = tt
known_row-ends Completion p m ds None live = tt
known_row-ends Completion p m ds (Some c) live = if_ends ds (is_unary m.kind || is_completed ds c) _ _ tt tt

unknown_row-ends : (ptype : PacketType) (p : Packet) (s : Status) (ds : List Deed) → EndsOpen ds (unknown_row ptype p s).does.ends
unknown_row-ends Request p s ds = tt
unknown_row-ends Response p s ds = tt
unknown_row-ends ClientStream p s ds = tt
unknown_row-ends ClientError p s ds = tt
unknown_row-ends ServerError p s ds = tt
unknown_row-ends ServerStream p s ds = tt
unknown_row-ends Completion p s ds = tt

method_row-ends : (p : Packet) (ds : List Deed) (o : Option MethodRef) → EndsOpen ds (method_row p ds o).does.ends
method_row-ends p ds None = unknown_row-ends p.ptype p _ ds
method_row-ends p ds (Some m) = known_row-ends p.ptype p m ds (live_call ds p.name) (live_is ds p.name)

live_row-ends : (ptype : PacketType) (p : Packet) (m : MethodRef) (ds : List Deed) (c : ℕ)
    → (has_end ds c ≡ false) × (c < call_count ds) → EndsOpen ds (live_row ptype p m c).does.ends
live_row-ends Request p m ds c live = tt
live_row-ends Response p m ds c live =
    if_ends ds (is_okay (status_of p.status) && not (streams_down m.kind)) _ _ (one_end ds c live) (one_end ds c live)
live_row-ends ClientStream p m ds c live = tt
live_row-ends ClientError p m ds c live = tt
live_row-ends ServerError p m ds c live = one_end ds c live
live_row-ends ServerStream p m ds c live = if_ends ds (streams_down m.kind) _ _ tt (one_end ds c live)
live_row-ends Completion p m ds c live = tt

no_call_row-ends : (ptype : PacketType) (p : Packet) (ds : List Deed) → EndsOpen ds (no_call_row ptype p).does.ends
no_call_row-ends Request p ds = tt
no_call_row-ends Response p ds = tt
no_call_row-ends ClientStream p ds = tt
no_call_row-ends ClientError p ds = tt
no_call_row-ends ServerError p ds = tt
no_call_row-ends ServerStream p ds = tt
no_call_row-ends Completion p ds = tt

call_row-ends : (p : Packet) (ds : List Deed) (o : Option MethodRef) (l : Option ℕ) → AllLive ds l → EndsOpen ds (call_row p o l).does.ends
call_row-ends p ds None l live = no_call_row-ends p.ptype p ds
call_row-ends p ds (Some m) None live = no_call_row-ends p.ptype p ds
call_row-ends p ds (Some m) (Some c) live = live_row-ends p.ptype p m ds c live

row_by-ends : (role : Role) (set : Setting) (ds : List Deed) (p : Packet) → EndsOpen ds (row_by role set ds p).does.ends
row_by-ends Server set ds p =
    if_ends ds (has_id (channels_in set ds) p.name.channel) _ _ (method_row-ends p ds (method_named set p.name)) (unknown_row-ends p.ptype p _ ds)
row_by-ends Client set ds p =
    if_ends ds (has_id (channels_in set ds) p.name.channel) _ _ (call_row-ends p ds (method_named set p.name) (live_call ds p.name) (live_is ds p.name)) tt

arrive-ends : (set : Setting) (ds : List Deed) (p : Packet) → EndsOpen ds (arrive_row set ds p).does.ends
unfolding arrive_row
arrive-ends set ds p = row_by-ends set.role set ds p

invoke-ends : (ds : List Deed) (p : Packet) (m : Memo) (o : Option MethodRef) → EndsOpen ds (invoke_effect ds p m o).ends
invoke-ends ds p m None = tt
invoke-ends ds p m (Some method) = tt

end_effect-ends : (role : Role) (ds : List Deed) (c : ℕ) (name : CallName) (kind : Kind) (done : Bool) (end : Option End)
    → (has_end ds c ≡ false) × (c < call_count ds) → EndsOpen ds (end_effect role c name kind done end).ends
end_effect-ends Server ds c name kind done None live = tt
end_effect-ends Server ds c name kind done (Some end) live = one_end ds c live
end_effect-ends Client ds c name kind done None live = tt
end_effect-ends Client ds c name kind done (Some end) live = at (is_okay end.status) (is_unary kind || done)
  where
    at : (okay closed : Bool)
        → EndsOpen ds (if okay then (if closed then no_effect else says_item (packet_item c (status_packet Completion name Okay))) else record no_effect { ends = (c, end.status) ∷ []; drops = c ∷ []; says = packet_item c (status_packet ClientError name end.status) ∷ [] }).ends
    at true true = tt
    at true false = tt
    at false closed = one_end ds c live

-- a call whose answer is heard has no end
pub heard_live : (ds : List Deed) (c : ℕ) → is_heard ds c ≡ true → has_end ds c ≡ false
heard_live ds c heard = not-true _ (and_parts _ _ heard).0

answered-ends : (role : Role) (ds : List Deed) (c : ℕ) (o : Opening) (heard done : Bool) (a : Answer)
    → (heard ≡ true → has_end ds c ≡ false) → c < call_count ds → EndsOpen ds (answered role c o heard done a).ends
answered-ends role ds c o true done a live known = end_effect-ends role ds c o.name o.method.kind done a.end (live refl, known)
answered-ends role ds c o false done a live known = tt

finish-ends : (set : Setting) (ds : List Deed) (c : ℕ) (a : Answer) (o : Option Opening) → call_at ds c ≡ o
    → EndsOpen ds (finish_effect set ds c a o).ends
finish-ends set ds c a None is = tt
finish-ends set ds c a (Some o) is = at (is_cancelled ds c)
  where
    at : (b : Bool) → EndsOpen ds (if b then says_item (leave_item c) else answered set.role c o (is_heard ds c) (is_done ds c) a).ends
    at true = tt
    at false = answered-ends set.role ds c o (is_heard ds c) (is_done ds c) a (heard_live ds c) (slice_get_within _ _ _ is)

cancel-ends : (set : Setting) (ds : List Deed) (c : ℕ) (o : Option Opening) → call_at ds c ≡ o → EndsOpen ds (cancel_effect set ds c o).ends
cancel-ends set ds c None is = tt
cancel-ends set ds c (Some o) is = at (has_end ds c) refl
  where
    at : (b : Bool) → has_end ds c ≡ b → EndsOpen ds (if b then [] else (c, Cancelled) ∷ [])
    at true e = tt
    at false e = one_end ds c (e, slice_get_within _ _ _ is)

with_call-ends : (ds : List Deed) (o : Option Opening) (item : Opening → Item) → EndsOpen ds (with_call o (λ x. says_item (item x))).ends
with_call-ends ds None item = tt
with_call-ends ds (Some o) item = tt

-- each of the calls from number n on that pass a test, which only live ones pass, is given this end
each-ends : (ds : List Deed) (n : ℕ) (test : ℕ → Opening → Bool) (s : Status) (os : List Opening) → n + length os ≤ call_count ds
    → ((k : ℕ) (o : Opening) → test k o ≡ true → has_end ds k ≡ false) → EndsOpen ds (each_from n test s os)
each-ends ds n test s [] within live = tt
each-ends ds n test s (o ∷ os) within live =
    at (test n o) refl (each-ends ds (n + 1) test s os (omega (arith, within)) live) (none_before test s os (n + 1) n (omega arith))
  where
    at : (b : Bool) → test n o ≡ b → EndsOpen ds (each_from (n + 1) test s os) → of_call n (each_from (n + 1) test s os) ≡ []
        → EndsOpen ds (if b then (n, s) ∷ each_from (n + 1) test s os else each_from (n + 1) test s os)
    at true is rest none = (live n o is, omega (arith, within), none, rest)
    at false is rest none = rest

-- an entry gives ends only to calls that are there and have none
pub effect-ends : (set : Setting) (ds : List Deed) (kind : EntryKind) → EndsOpen ds (effect_of set ds kind).ends
effect-ends set ds (Arrive p) = arrive-ends set ds p
effect-ends set ds (Invoke p m) = invoke-ends ds p m (method_named set p.name)
effect-ends set ds (Say c out) = with_call-ends ds (call_at ds c) _
effect-ends set ds (Done c) = with_call-ends ds (call_at ds c) _
effect-ends set ds (Start c) = tt
effect-ends set ds (Finish c a) = finish-ends set ds c a (call_at ds c) refl
effect-ends set ds (Replace c m) = tt
effect-ends set ds (Cancel c) = cancel-ends set ds c (call_at ds c) refl
effect-ends set ds (Tick t) = tt
effect-ends set ds Flush = tt
effect-ends set ds EndIn = tt
effect-ends set ds (Halt why) = tt
effect-ends set ds (Close channel) = each-ends ds 0 (is_live_on ds channel) Aborted (calls ds) (omega arith) (λ k o live. not-true _ (and_parts _ _ live).0)

-- of such ends a call with an end gets none, and another at most one
ended_gets_none : (ds : List Deed) (c : ℕ) (xs : List (ℕ × Status)) → EndsOpen ds xs → has_end ds c ≡ true → of_call c xs ≡ []
ended_gets_none ds c [] all ended = refl
ended_gets_none ds c (x ∷ xs) all ended = at (x.0 == c) refl (ended_gets_none ds c xs all.3 ended)
  where
    at : (b : Bool) → (x.0 == c) ≡ b → of_call c xs ≡ [] → (if b then x.1 ∷ of_call c xs else of_call c xs) ≡ []
    at true e rest = absurd (false≢true (sym all.0 ∙ (ap (has_end ds) (eqb-true _ _ e) ∙ ended)))
    at false e rest = rest

gets_one : (ds : List Deed) (c : ℕ) (xs : List (ℕ × Status)) → EndsOpen ds xs → length (of_call c xs) ≤ 1
gets_one ds c [] all = omega arith
gets_one ds c (x ∷ xs) all = at (x.0 == c) refl (gets_one ds c xs all.3)
  where
    at : (b : Bool) → (x.0 == c) ≡ b → length (of_call c xs) ≤ 1 → length (if b then x.1 ∷ of_call c xs else of_call c xs) ≤ 1
    at true e rest =
        let none : of_call c xs ≡ [] = subst (λ k. of_call k xs ≡ []) (eqb-true _ _ e) all.2 in
        rw none (omega arith)
    at false e rest = rest

-- each call has at most one end
pub ends_once : (set : Setting) (h : List Entry) (c : ℕ) → length (ends_of (deeds_of set h) c) ≤ 1
ends_once set [] c = omega arith
ends_once set (e ∷ h) c = at (ends_of (deeds_of set h) c) refl (ends_once set h c)
  where
    at : (xs : List Status) → ends_of (deeds_of set h) c ≡ xs → length xs ≤ 1
        → length (xs ++ of_call c (effect_of set (deeds_of set h) e.kind).ends) ≤ 1
    at [] is short = gets_one (deeds_of set h) c _ (effect-ends set (deeds_of set h) e.kind)
    at (x ∷ xs) is short =
        let none : of_call c (effect_of set (deeds_of set h) e.kind).ends ≡ [] =
        ended_gets_none (deeds_of set h) c _ (effect-ends set (deeds_of set h) e.kind) (ap (λ ys. not (is_empty ys)) is) in
        subst (λ ys. length ((x ∷ xs) ++ ys) ≤ 1) (sym none) (subst (λ ys. length ys ≤ 1) (sym (append-nil (x ∷ xs))) short)

rest_some : {A : Type 0} (xs ys : List A) → not (is_empty xs) ≡ false → not (is_empty (xs ++ ys)) ≡ true → is_empty ys ≡ false
rest_some [] ys none some = not-true _ some
rest_some (x ∷ xs) ys none some = absurd (true≢false none)

-- a call with an end is there
pub ended_known : (set : Setting) (h : List Entry) (c : ℕ) → has_end (deeds_of set h) c ≡ true → c < call_count (deeds_of set h)
ended_known set [] c ended = absurd (false≢true ended)
ended_known set (e ∷ h) c ended = at (has_end (deeds_of set h) c) refl (ended_known set h c)
  where
    more : call_count (deeds_of set h) ≤ call_count (deeds_of set (e ∷ h))
    more = omega (arith, length-append (calls (deeds_of set h)) (option_to_list (effect_of set (deeds_of set h) e.kind).opens))

    among : (xs : List (ℕ × Status)) → EndsOpen (deeds_of set h) xs → is_empty (of_call c xs) ≡ false → c < call_count (deeds_of set h)
    among [] all some = absurd (true≢false some)
    among (x ∷ xs) all some = here (x.0 == c) refl (among xs all.3) some
      where
        here : (b : Bool) → (x.0 == c) ≡ b → (is_empty (of_call c xs) ≡ false → c < call_count (deeds_of set h))
            → is_empty (if b then x.1 ∷ of_call c xs else of_call c xs) ≡ false → c < call_count (deeds_of set h)
        here true e rest some = subst (λ k. k < call_count (deeds_of set h)) (eqb-true _ _ e) all.1
        here false e rest some = rest some

    at : (b : Bool) → has_end (deeds_of set h) c ≡ b → (has_end (deeds_of set h) c ≡ true → c < call_count (deeds_of set h)) → c < call_count (deeds_of set (e ∷ h))
    at true is before = omega (arith, more, before is)
    at false is before = omega (arith, more, among _ (effect-ends set (deeds_of set h) e.kind) (rest_some (ends_of (deeds_of set h) c) _ is ended))
