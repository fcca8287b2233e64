-- Calls with an end: no event is put to one, and none waits for one that was cancelled.
use Rattle.std.proofs.Common.{◌≡◌, ℕ, ◌+◌, ◌<◌, Bool, true, false, not, ◌&&◌, ◌||◌, ◌==◌, nat_le, List, [], ◌∷◌, ◌++◌, length, map, drop, Option, Some, None, if◌then◌else◌, refl, ap, sym, ◌∙◌, subst, eq-eqb, arith}
use Rattle.std.proofs.Math.Seq.{drop-nil}
use Rattle.std.proofs.lemmas.Bool.{false≢true, eqb-true, leb-false, and_left, and_right}
use Rattle.std.proofs.lemmas.List.{append-nil, drop-drop}
use Rattle.rpc_ids.specs.declared.method.MethodRef.{MethodRef}
use Rattle.rpc_ids.specs.declared.method.Role.{Role}
use Rattle.rpc_ids.specs.declared.method.Role.TheVariants.{Server, Client}
use Rattle.rpc_ids.specs.declared.status.Status.{Status}
use Rattle.rpc_ids.specs.declared.status.Status.TheVariants.{Aborted, Cancelled, Unavailable}
use Rattle.rpc_ids.specs.Status.{status_of}
use Rattle.rpc_channel.specs.Rising.{has_id}
use Rattle.rpc_packet.specs.declared.owned.Packet.{Packet}
use Rattle.rpc_packet.specs.declared.packet_type.PacketType.{PacketType}
use Rattle.rpc_packet.specs.declared.packet_type.PacketType.TheVariants.{Request, Response, ClientStream, ClientError, ServerError, ServerStream, Completion}
use Rattle.rpc_handlers.specs.declared.event.Event.{Event}
use Rattle.rpc_handlers.specs.declared.event.Event.TheVariants.{Ended, Tick as Ticked}
use Rattle.rpc_handlers.specs.declared.event.Memo.{Memo}
use Rattle.rpc_journal.specs.declared.entry.Entry.{Entry}
use Rattle.rpc_journal.specs.declared.entry.EntryKind.{EntryKind}
use Rattle.rpc_journal.specs.declared.entry.EntryKind.TheVariants.{Arrive, Invoke, Say, Done, Start, Finish, Replace, Cancel, Tick, Flush, EndIn, Halt, Close}
use Rattle.rpc_journal.specs.declared.item.Item.{Item}
use Rattle.rpc_journal.specs.declared.setting.Setting.{Setting}
use Rattle.rpc_journal.specs.declared.waiting.Waiting.{Waiting}
use Rattle.rpc_journal.specs.Calls.{calls, call_at, call_count, ends_of, has_end, is_cancel_of, is_cancelled, is_start_of, live_call, of_call}
use Rattle.rpc_journal.specs.Effect.{Opening, Deed}
use Rattle.rpc_journal.specs.Entries.{arrive_row, cancel_effect, each_from, effect_of, invoke_effect, is_live, is_live_on, row_by, wants_tick, with_call}
use Rattle.rpc_journal.specs.History.{history, deeds_of, deed_by}
use Rattle.rpc_journal.specs.Lawful.{AllowedAll, IsLawful, call_named, is_unknown}
use Rattle.rpc_journal.specs.Kinds.{is_empty, is_okay, is_unary, streams_down, streams_up}
use Rattle.rpc_journal.specs.Queues.{drops_of, is_completed, puts_since, starts_since, waiting_of}
use Rattle.rpc_journal.specs.Rows.{Row, channels_in, method_named, says_item}
use Rattle.rpc_journal.specs.ServerTable.{known_row, method_row, unknown_row}
use Rattle.rpc_journal.specs.ClientTable.{call_row, live_row, no_call_row}
use Rattle.rpc_journal.proofs.Allowed.{allowed}
use Rattle.rpc_journal.proofs.EachLemmas.{one_put}
use Rattle.rpc_journal.proofs.EndLemmas.{AllLive, ended_known, live_is}
use Rattle.rpc_journal.proofs.KnownLemmas.{cancel-puts, finish-puts}
use Rattle.rpc_journal.proofs.PacketLemmas.{apart, fresh, has_end-more}
use Rattle.rpc_journal.proofs.PlaceLemmas.{get_some}

one_other : (c k : ℕ) (event : Event) → (k == c) ≡ false → of_call c ((k, event) ∷ []) ≡ []
one_other c k event other = rw other refl

two_others : (c k n : ℕ) (first second : Event) → (k == c) ≡ false → (n == c) ≡ false → of_call c ((k, first) ∷ (n, second) ∷ []) ≡ []
two_others c k n first second a b = rw (a, b) refl

if_none : (c : ℕ) (b : Bool) (x y : Row) → of_call c x.does.puts ≡ [] → of_call c y.does.puts ≡ [] → of_call c (if b then x else y).does.puts ≡ []
if_none c true x y first second = first
if_none c false x y first second = second

known_row-none : (c : ℕ) (ptype : PacketType) (p : Packet) (m : MethodRef) (ds : List Deed) (l : Option ℕ) → has_end ds c ≡ true → c < call_count ds → AllLive ds l
    → of_call c (known_row ptype p m ds l).does.puts ≡ []
known_row-none c Request p m ds None ended known live = one_other c (call_count ds) _ (fresh ds c known)
known_row-none c Request p m ds (Some k) ended known live = two_others c k (call_count ds) _ _ (apart ds c k ended live.0) (fresh ds c known)
known_row-none c Response p m ds l ended known live = refl
known_row-none c ClientStream p m ds None ended known live = refl
known_row-none c ClientStream p m ds (Some k) ended known live =
    if_none c (not (streams_up m.kind)) _ _ refl (if_none c (is_completed ds k) _ _ refl (one_other c k _ (apart ds c k ended live.0)))
known_row-none c ClientError p m ds None ended known live = refl
known_row-none c ClientError p m ds (Some k) ended known live = one_other c k _ (apart ds c k ended live.0)
known_row-none c ServerError p m ds l ended known live = refl
known_row-none c ServerStream p m ds l ended known live = refl
known_row-none c Completion p m ds None ended known live = refl
known_row-none c Completion p m ds (Some k) ended known live =
    if_none c (is_unary m.kind || is_completed ds k) _ _ refl (one_other c k _ (apart ds c k ended live.0))

unknown_row-none : (c : ℕ) (ptype : PacketType) (p : Packet) (s : Status) → of_call c (unknown_row ptype p s).does.puts ≡ []
unknown_row-none c Request p s = refl
unknown_row-none c Response p s = refl
unknown_row-none c ClientStream p s = refl
unknown_row-none c ClientError p s = refl
unknown_row-none c ServerError p s = refl
unknown_row-none c ServerStream p s = refl
unknown_row-none c Completion p s = refl

method_row-none : (c : ℕ) (p : Packet) (ds : List Deed) (o : Option MethodRef) → has_end ds c ≡ true → c < call_count ds → of_call c (method_row p ds o).does.puts ≡ []
method_row-none c p ds None ended known = unknown_row-none c p.ptype p _
method_row-none c p ds (Some m) ended known = known_row-none c p.ptype p m ds (live_call ds p.name) ended known (live_is ds p.name)

live_row-none : (c k : ℕ) (ptype : PacketType) (p : Packet) (m : MethodRef) → (k == c) ≡ false → of_call c (live_row ptype p m k).does.puts ≡ []
live_row-none c k Request p m other = refl
live_row-none c k Response p m other =
    if_none c (is_okay (status_of p.status) && not (streams_down m.kind)) _ _ (two_others c k k _ _ other other) (one_other c k _ other)
live_row-none c k ClientStream p m other = refl
live_row-none c k ClientError p m other = refl
live_row-none c k ServerError p m other = one_other c k _ other
live_row-none c k ServerStream p m other = if_none c (streams_down m.kind) _ _ (one_other c k _ other) (one_other c k _ other)
live_row-none c k Completion p m other = refl

no_call_row-none : (c : ℕ) (ptype : PacketType) (p : Packet) → of_call c (no_call_row ptype p).does.puts ≡ []
no_call_row-none c Request p = refl
no_call_row-none c Response p = refl
no_call_row-none c ClientStream p = refl
no_call_row-none c ClientError p = refl
no_call_row-none c ServerError p = refl
no_call_row-none c ServerStream p = refl
no_call_row-none c Completion p = refl

call_row-none : (c : ℕ) (p : Packet) (ds : List Deed) (o : Option MethodRef) (l : Option ℕ) → has_end ds c ≡ true → AllLive ds l → of_call c (call_row p o l).does.puts ≡ []
call_row-none c p ds None l ended live = no_call_row-none c p.ptype p
call_row-none c p ds (Some m) None ended live = no_call_row-none c p.ptype p
call_row-none c p ds (Some m) (Some k) ended live = live_row-none c k p.ptype p m (apart ds c k ended live.0)

row_by-none : (role : Role) (set : Setting) (ds : List Deed) (p : Packet) (c : ℕ) → has_end ds c ≡ true → c < call_count ds → of_call c (row_by role set ds p).does.puts ≡ []
row_by-none Server set ds p c ended known =
    if_none c (has_id (channels_in set ds) p.name.channel) _ _ (method_row-none c p ds (method_named set p.name) ended known) (unknown_row-none c p.ptype p _)
row_by-none Client set ds p c ended known =
    if_none c (has_id (channels_in set ds) p.name.channel) _ _ (call_row-none c p ds (method_named set p.name) (live_call ds p.name) ended (live_is ds p.name)) refl

arrive-none : (set : Setting) (ds : List Deed) (p : Packet) (c : ℕ) → has_end ds c ≡ true → c < call_count ds → of_call c (arrive_row set ds p).does.puts ≡ []
unfolding arrive_row
arrive-none set ds p c ended known = row_by-none set.role set ds p c ended known

pub invoke-none : (c : ℕ) (ds : List Deed) (p : Packet) (m : Memo) (o : Option MethodRef) → (invoke_effect ds p m o).puts ≡ []
invoke-none c ds p m None = refl
invoke-none c ds p m (Some method) = refl

pub with_call-none : (o : Option Opening) (item : Opening → Item) → (with_call o (λ x. says_item (item x))).puts ≡ []
with_call-none None item = refl
with_call-none (Some o) item = refl

-- of what is put to each call that passes a test, one that doesn't pass it is given nothing
each-none : (ds : List Deed) (c : ℕ) (test : ℕ → Opening → Bool) (event : Event) → c < call_count ds → ((o : Opening) → test c o ≡ false)
    → of_call c (each_from 0 test event (calls ds)) ≡ []
each-none ds c test event known fails =
    let found = get_some (calls ds) c known in
    one_put test event (calls ds) 0 c c found.0 found.1 (omega arith) ∙ ap (λ b. if b then event ∷ [] else []) (fails found.0)

not_live : (ds : List Deed) (c : ℕ) → has_end ds c ≡ true → not (has_end ds c) ≡ false
not_live ds c ended = ap not ended

-- no event is put to a call that has an end
pub effect-none : (set : Setting) (ds : List Deed) (kind : EntryKind) (c : ℕ) → has_end ds c ≡ true → c < call_count ds → of_call c (effect_of set ds kind).puts ≡ []
effect-none set ds (Arrive p) c ended known = arrive-none set ds p c ended known
effect-none set ds (Invoke p m) c ended known = ap (of_call c) (invoke-none c ds p m (method_named set p.name))
effect-none set ds (Say k out) c ended known = ap (of_call c) (with_call-none (call_at ds k) _)
effect-none set ds (Done k) c ended known = ap (of_call c) (with_call-none (call_at ds k) _)
effect-none set ds (Start k) c ended known = refl
effect-none set ds (Finish k a) c ended known = ap (of_call c) (finish-puts set ds k a (call_at ds k))
effect-none set ds (Replace k m) c ended known = refl
effect-none set ds (Cancel k) c ended known = ap (of_call c) (cancel-puts set ds k (call_at ds k))
effect-none set ds (Tick t) c ended known =
    each-none ds c (wants_tick ds) (Ticked t) known (λ o. rw (ended) (untimed o.method.ticks _ _))
  where
    untimed : (a b d : Bool) → (a && not true && b && d) ≡ false
    untimed true b d = refl
    untimed false b d = refl
effect-none set ds Flush c ended known = refl
effect-none set ds EndIn c ended known = each-none ds c (is_live ds) (Ended Unavailable) known (λ o. not_live ds c ended)
effect-none set ds (Halt why) c ended known = refl
effect-none set ds (Close channel) c ended known =
    each-none ds c (is_live_on ds channel) (Ended Aborted) known (λ o. ap (λ b. b && (o.name.channel == channel)) (not_live ds c ended))

-- the entry is the Cancel of c
pub names_it : (c : ℕ) (kind : EntryKind) → is_cancel_of c kind ≡ true → kind ≡ Cancel c
names_it c (Cancel x) is = ap Cancel (eqb-true x c is)
names_it c (Arrive p) is = absurd (false≢true is)
names_it c (Invoke p m) is = absurd (false≢true is)
names_it c (Say x out) is = absurd (false≢true is)
names_it c (Done x) is = absurd (false≢true is)
names_it c (Start x) is = absurd (false≢true is)
names_it c (Finish x a) is = absurd (false≢true is)
names_it c (Replace x m) is = absurd (false≢true is)
names_it c (Tick t) is = absurd (false≢true is)
names_it c Flush is = absurd (false≢true is)
names_it c EndIn is = absurd (false≢true is)
names_it c (Halt why) is = absurd (false≢true is)
names_it c (Close channel) is = absurd (false≢true is)

pub some_in : {A : Type 0} (xs : List A) (y : A) → not (is_empty (xs ++ y ∷ [])) ≡ true
some_in [] y = refl
some_in (x ∷ xs) y = refl

gets_end : (c : ℕ) → of_call c ((c, Cancelled) ∷ []) ≡ Cancelled ∷ []
gets_end c = rw (eq-eqb c c refl) refl

-- a Cancel of a call that is there gives it an end, where it had none
cut_ends : (set : Setting) (ds : List Deed) (seat c : ℕ) (o : Opening) → call_at ds c ≡ Some o
    → has_end (deed_by seat (Cancel c) (cancel_effect set ds c (call_at ds c)) ∷ ds) c ≡ true
cut_ends set ds seat c o there = at (has_end ds c) refl
  where
    at : (b : Bool) → has_end ds c ≡ b → has_end (deed_by seat (Cancel c) (cancel_effect set ds c (call_at ds c)) ∷ ds) c ≡ true
    at true e = has_end-more ds (deed_by seat (Cancel c) (cancel_effect set ds c (call_at ds c))) c e
    at false e = rw (there, e, gets_end c) (some_in (ends_of ds c) Cancelled)

-- a Cancel drops what waits
cut_waits : (set : Setting) (ds : List Deed) (seat c : ℕ) (o : Opening) → call_at ds c ≡ Some o
    → waiting_of (deed_by seat (Cancel c) (cancel_effect set ds c (call_at ds c)) ∷ ds) c ≡ []
cut_waits set ds seat c o there = rw (there, eq-eqb c c refl) refl

-- the call that an allowed Cancel names is there
pub cut_known : (set : Setting) (h : List Entry) (e : Entry) (c : ℕ) → AllowedAll set (e ∷ h) → e.kind ≡ Cancel c → c < call_count (deeds_of set h)
cut_known set h e c all kind =
    leb-false _ _ (ap (λ k. is_unknown (call_count (deeds_of set h)) (call_named k)) (sym kind) ∙ (allowed set (deeds_of set h) e all.1).known)

-- a cancelled call has an end
pub cancelled_ends : (set : Setting) (h : List Entry) (c : ℕ) → AllowedAll set h → is_cancelled (deeds_of set h) c ≡ true → has_end (deeds_of set h) c ≡ true
cancelled_ends set [] c all cancelled = absurd (false≢true cancelled)
cancelled_ends set (e ∷ h) c all cancelled = at (is_cancel_of c e.kind) refl (cancelled_ends set h c all.0)
  where
    at : (b : Bool) → is_cancel_of c e.kind ≡ b → (is_cancelled (deeds_of set h) c ≡ true → has_end (deeds_of set h) c ≡ true) → has_end (deeds_of set (e ∷ h)) c ≡ true
    at true now before =
        let kind : e.kind ≡ Cancel c = names_it c e.kind now in
        let row = get_some (calls (deeds_of set h)) c (cut_known set h e c all kind) in
        subst (λ k. has_end (deed_by e.seat k (effect_of set (deeds_of set h) k) ∷ deeds_of set h) c ≡ true) (sym kind)
        (cut_ends set (deeds_of set h) e.seat c row.0 row.1)
    at false other before =
        has_end-more (deeds_of set h) (deed_by e.seat e.kind (effect_of set (deeds_of set h) e.kind)) c
        (before (ap (λ b. b || is_cancelled (deeds_of set h) c) (sym other) ∙ cancelled))

-- no event waits where none did, and none is put
still_none : (ds : List Deed) (d : Deed) (c : ℕ) → waiting_of ds c ≡ [] → of_call c d.does.puts ≡ [] → waiting_of (d ∷ ds) c ≡ []
still_none ds d c none put = at (drops_of d c) (is_start_of c d.entry.kind)
  where
    at : (b s : Bool) → drop (if b then 0 else if s then starts_since ds c + 1 else starts_since ds c)
        ((if b then [] else puts_since ds c) ++ map (λ event. record { at = length ds; event = event }) (of_call c d.does.puts)) ≡ []
    at true s = rw put refl
    at false true =
        rw put (ap (drop (starts_since ds c + 1)) (append-nil (puts_since ds c)) ∙ (sym (drop-drop 1 (starts_since ds c) (puts_since ds c)) ∙ ap (drop 1) none))
    at false false = rw put (ap (drop (starts_since ds c)) (append-nil (puts_since ds c)) ∙ none)

-- no event waits for a cancelled call
pub cancelled_waits_none : (set : Setting) (h : List Entry) (c : ℕ) → AllowedAll set h → is_cancelled (deeds_of set h) c ≡ true → waiting_of (deeds_of set h) c ≡ []
cancelled_waits_none set [] c all cancelled = absurd (false≢true cancelled)
cancelled_waits_none set (e ∷ h) c all cancelled = at (is_cancel_of c e.kind) refl (cancelled_waits_none set h c all.0)
  where
    at : (b : Bool) → is_cancel_of c e.kind ≡ b → (is_cancelled (deeds_of set h) c ≡ true → waiting_of (deeds_of set h) c ≡ []) → waiting_of (deeds_of set (e ∷ h)) c ≡ []
    at true now before =
        let kind : e.kind ≡ Cancel c = names_it c e.kind now in
        let row = get_some (calls (deeds_of set h)) c (cut_known set h e c all kind) in
        subst (λ k. waiting_of (deed_by e.seat k (effect_of set (deeds_of set h) k) ∷ deeds_of set h) c ≡ []) (sym kind)
        (cut_waits set (deeds_of set h) e.seat c row.0 row.1)
    at false other before =
        let was : is_cancelled (deeds_of set h) c ≡ true = ap (λ b. b || is_cancelled (deeds_of set h) c) (sym other) ∙ cancelled in
        still_none (deeds_of set h) (deed_by e.seat e.kind (effect_of set (deeds_of set h) e.kind)) c (before was)
        (effect-none set (deeds_of set h) e.kind c (cancelled_ends set h c all.0 was) (ended_known set h c (cancelled_ends set h c all.0 was)))
