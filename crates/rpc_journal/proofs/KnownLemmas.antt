-- The calls that events are put to, and those that run, are there.
use Rattle.std.proofs.Common.{◌≡◌, ℕ, ◌+◌, ◌<◌, ◌≤◌, Bool, true, false, not, ◌&&◌, ◌||◌, List, [], ◌∷◌, ◌++◌, length, map, drop, Option, Some, None, option_to_list, if◌then◌else◌, refl, ap, sym, ◌∙◌, subst, arith, length-append, lt_of_not-le}
use Rattle.std.proofs.lemmas.Bool.{true≢false, false≢true, eqb-true, ne_eqb, leb-false, not-true, and_parts}
use Rattle.std.proofs.Math.Seq.{drop-nil}
use Rattle.std.specs.List.{AllByRecursion}
use Rattle.rpc_ids.specs.declared.method.MethodRef.{MethodRef}
use Rattle.rpc_ids.specs.declared.method.Kind.{Kind}
use Rattle.rpc_ids.specs.declared.method.Role.{Role}
use Rattle.rpc_ids.specs.declared.method.Role.TheVariants.{Server, Client}
use Rattle.rpc_ids.specs.declared.status.Status.{Status}
use Rattle.rpc_ids.specs.declared.status.Status.TheVariants.{Okay}
use Rattle.rpc_ids.specs.Status.{status_of}
use Rattle.rpc_packet.specs.declared.call_name.CallName.{CallName}
use Rattle.rpc_packet.specs.declared.owned.Packet.{Packet}
use Rattle.rpc_packet.specs.declared.packet_type.PacketType.{PacketType}
use Rattle.rpc_packet.specs.declared.packet_type.PacketType.TheVariants.{Request, Response, ClientStream, ClientError, ServerError, ServerStream, Completion}
use Rattle.rpc_handlers.specs.declared.answer.Answer.{Answer}
use Rattle.rpc_handlers.specs.declared.answer.End.{End}
use Rattle.rpc_handlers.specs.declared.event.Event.{Event}
use Rattle.rpc_handlers.specs.declared.event.Memo.{Memo}
use Rattle.rpc_journal.specs.declared.entry.Entry.{Entry}
use Rattle.rpc_journal.specs.declared.entry.EntryKind.{EntryKind}
use Rattle.rpc_journal.specs.declared.entry.EntryKind.TheVariants.{Arrive, Invoke, Say, Done, Start, Finish, Replace, Cancel, Tick, Flush, EndIn, Halt, Close}
use Rattle.rpc_journal.specs.declared.item.Item.{Item}
use Rattle.rpc_journal.specs.declared.setting.Setting.{Setting}
use Rattle.rpc_journal.specs.Calls.{of_call, calls, call_count, call_at, live_call, is_cancelled, is_start_of, is_finish_of, runner_of}
use Rattle.rpc_journal.specs.Effect.{Effect, Opening, Deed}
use Rattle.rpc_journal.specs.Entries.{row_by, arrive_row, leave_item, effect_of, invoke_effect, finish_effect, answered, end_effect, is_heard, cancel_effect, each_from, with_call}
use Rattle.rpc_journal.specs.History.{deeds_of}
use Rattle.rpc_journal.specs.Items.{is_done, is_ready}
use Rattle.rpc_journal.specs.Lawful.{AllowedAll, is_unknown, call_named}
use Rattle.rpc_journal.specs.Kinds.{is_empty, is_okay, is_unary, streams_up, streams_down}
use Rattle.rpc_journal.specs.Queues.{drops_of, puts_since, starts_since, waiting_of, is_completed}
use Rattle.rpc_journal.specs.Rows.{Row, channels_in, method_named, no_effect, says_item, status_packet, packet_item}
use Rattle.rpc_journal.specs.ServerTable.{method_row, known_row, unknown_row}
use Rattle.rpc_journal.specs.ClientTable.{call_row, live_row, no_call_row}
use Rattle.rpc_journal.proofs.Allowed.{allowed}
use Rattle.rpc_journal.proofs.EndLemmas.{AllLive, live_is}
use Rattle.rpc_channel.specs.Rising.{has_id}

-- each event is put to a call with a number below n
abbrev PutsBelow : ℕ → List (ℕ × Event) → Type 0
PutsBelow n puts = AllByRecursion (λ put. put.0 < n) puts

-- what an effect puts goes to calls that are there after it, where k are there before
abbrev PutsKnown : ℕ → Effect → Type 0
PutsKnown k effect = PutsBelow (k + length (option_to_list effect.opens)) effect.puts

if_puts : (k : ℕ) (b : Bool) (x y : Row) → PutsKnown k x.does → PutsKnown k y.does → PutsKnown k (if b then x else y).does
if_puts k true x y first second = first
if_puts k false x y first second = second

known_row-puts : (ptype : PacketType) (p : Packet) (m : MethodRef) (ds : List Deed) (l : Option ℕ) → AllLive ds l
    → PutsKnown (call_count ds) (known_row ptype p m ds l).does
known_row-puts Request p m ds None live = (omega arith, tt)
known_row-puts Request p m ds (Some c) live = (omega (arith, live.1), (omega arith, tt))
known_row-puts Response p m ds l live = tt
known_row-puts ClientStream p m ds None live = tt
known_row-puts ClientStream p m ds (Some c) live =
    if_puts (call_count ds) (not (streams_up m.kind)) _ _ tt (if_puts (call_count ds) (is_completed ds c) _ _ tt (omega (arith, live.1), tt))
known_row-puts ClientError p m ds None live = tt
known_row-puts ClientError p m ds (Some c) live = (omega (arith, live.1), tt)
known_row-puts ServerError p m ds l live = tt
known_row-puts ServerStream p m ds l live = tt
known_row-puts Completion p m ds None live = tt
known_row-puts Completion p m ds (Some c) live =
    if_puts (call_count ds) (is_unary m.kind || is_completed ds c) _ _ tt (omega (arith, live.1), tt)

unknown_row-puts : (k : ℕ) (ptype : PacketType) (p : Packet) (s : Status) → PutsKnown k (unknown_row ptype p s).does
unknown_row-puts k Request p s = tt
unknown_row-puts k Response p s = tt
unknown_row-puts k ClientStream p s = tt
unknown_row-puts k ClientError p s = tt
unknown_row-puts k ServerError p s = tt
unknown_row-puts k ServerStream p s = tt
unknown_row-puts k Completion p s = tt

method_row-puts : (p : Packet) (ds : List Deed) (o : Option MethodRef) → PutsKnown (call_count ds) (method_row p ds o).does
method_row-puts p ds None = unknown_row-puts (call_count ds) p.ptype p _
method_row-puts p ds (Some m) = known_row-puts p.ptype p m ds (live_call ds p.name) (live_is ds p.name)

live_row-puts : (ptype : PacketType) (p : Packet) (m : MethodRef) (k c : ℕ) → c < k → PutsKnown k (live_row ptype p m c).does
live_row-puts Request p m k c known = tt
live_row-puts Response p m k c known =
    if_puts k (is_okay (status_of p.status) && not (streams_down m.kind)) _ _ (omega (arith, known), (omega (arith, known), tt)) (omega (arith, known), tt)
live_row-puts ClientStream p m k c known = tt
live_row-puts ClientError p m k c known = tt
live_row-puts ServerError p m k c known = (omega (arith, known), tt)
live_row-puts ServerStream p m k c known = if_puts k (streams_down m.kind) _ _ (omega (arith, known), tt) (omega (arith, known), tt)
live_row-puts Completion p m k c known = tt

no_call_row-puts : (k : ℕ) (ptype : PacketType) (p : Packet) → PutsKnown k (no_call_row ptype p).does
no_call_row-puts k Request p = tt
no_call_row-puts k Response p = tt
no_call_row-puts k ClientStream p = tt
no_call_row-puts k ClientError p = tt
no_call_row-puts k ServerError p = tt
no_call_row-puts k ServerStream p = tt
no_call_row-puts k Completion p = tt

call_row-puts : (p : Packet) (ds : List Deed) (o : Option MethodRef) (l : Option ℕ) → AllLive ds l → PutsKnown (call_count ds) (call_row p o l).does
call_row-puts p ds None l live = no_call_row-puts (call_count ds) p.ptype p
call_row-puts p ds (Some m) None live = no_call_row-puts (call_count ds) p.ptype p
call_row-puts p ds (Some m) (Some c) live = live_row-puts p.ptype p m (call_count ds) c live.1

row_by-puts : (role : Role) (set : Setting) (ds : List Deed) (p : Packet) → PutsKnown (call_count ds) (row_by role set ds p).does
row_by-puts Server set ds p =
    if_puts (call_count ds) (has_id (channels_in set ds) p.name.channel) _ _ (method_row-puts p ds (method_named set p.name)) (unknown_row-puts (call_count ds) p.ptype p _)
row_by-puts Client set ds p =
    if_puts (call_count ds) (has_id (channels_in set ds) p.name.channel) _ _ (call_row-puts p ds (method_named set p.name) (live_call ds p.name) (live_is ds p.name)) tt

arrive-puts : (set : Setting) (ds : List Deed) (p : Packet) → PutsKnown (call_count ds) (arrive_row set ds p).does
unfolding arrive_row
arrive-puts set ds p = row_by-puts set.role set ds p

each_from-puts : (n k : ℕ) (test : ℕ → Opening → Bool) (event : Event) (os : List Opening) → k + length os ≤ n → PutsBelow n (each_from k test event os)
each_from-puts n k test event [] within = tt
each_from-puts n k test event (o ∷ os) within = at (test k o) (each_from-puts n (k + 1) test event os (omega (arith, within)))
  where
    at : (b : Bool) → PutsBelow n (each_from (k + 1) test event os)
        → PutsBelow n (if b then (k, event) ∷ each_from (k + 1) test event os else each_from (k + 1) test event os)
    at true rest = (omega (arith, within), rest)
    at false rest = rest

invoke-puts : (k : ℕ) (ds : List Deed) (p : Packet) (m : Memo) (o : Option MethodRef) → PutsKnown k (invoke_effect ds p m o)
invoke-puts k ds p m None = tt
invoke-puts k ds p m (Some method) = tt

with_call-puts : (k : ℕ) (o : Option Opening) (item : Opening → Item) → PutsKnown k (with_call o (λ x. says_item (item x)))
with_call-puts k None item = tt
with_call-puts k (Some o) item = tt

end_effect-puts : (role : Role) (c : ℕ) (name : CallName) (kind : Kind) (done : Bool) (end : Option End) → (end_effect role c name kind done end).puts ≡ []
end_effect-puts Server c name kind done None = refl
end_effect-puts Server c name kind done (Some end) = refl
end_effect-puts Client c name kind done None = refl
end_effect-puts Client c name kind done (Some end) = at (is_okay end.status) (is_unary kind || done)
  where
    at : (okay closed : Bool)
        → (if okay then (if closed then no_effect else says_item (packet_item c (status_packet Completion name Okay))) else record no_effect { ends = (c, end.status) ∷ []; drops = c ∷ []; says = packet_item c (status_packet ClientError name end.status) ∷ [] }).puts ≡ []
    at true true = refl
    at true false = refl
    at false closed = refl

pub finish-puts : (set : Setting) (ds : List Deed) (c : ℕ) (a : Answer) (o : Option Opening) → (finish_effect set ds c a o).puts ≡ []
finish-puts set ds c a None = refl
finish-puts set ds c a (Some o) = at (is_cancelled ds c) (is_heard ds c)
  where
    at : (b heard : Bool) → (if b then says_item (leave_item c) else answered set.role c o heard (is_done ds c) a).puts ≡ []
    at true heard = refl
    at false true = end_effect-puts set.role c o.name o.method.kind (is_done ds c) a.end
    at false false = refl

pub cancel-puts : (set : Setting) (ds : List Deed) (c : ℕ) (o : Option Opening) → (cancel_effect set ds c o).puts ≡ []
cancel-puts set ds c None = refl
cancel-puts set ds c (Some o) = refl

none_put : (n : ℕ) (puts : List (ℕ × Event)) → puts ≡ [] → PutsBelow n puts
none_put n puts is = subst (PutsBelow n) (sym is) tt

-- an entry puts events only to calls that are there after it
effect-puts : (set : Setting) (ds : List Deed) (kind : EntryKind) → PutsKnown (call_count ds) (effect_of set ds kind)
effect-puts set ds (Arrive p) = arrive-puts set ds p
effect-puts set ds (Invoke p m) = invoke-puts (call_count ds) ds p m (method_named set p.name)
effect-puts set ds (Say c out) = with_call-puts (call_count ds) (call_at ds c) _
effect-puts set ds (Done c) = with_call-puts (call_count ds) (call_at ds c) _
effect-puts set ds (Start c) = tt
effect-puts set ds (Finish c a) = none_put _ _ (finish-puts set ds c a (call_at ds c))
effect-puts set ds (Replace c m) = tt
effect-puts set ds (Cancel c) = none_put _ _ (cancel-puts set ds c (call_at ds c))
effect-puts set ds (Tick t) = each_from-puts _ 0 _ _ (calls ds) (omega arith)
effect-puts set ds Flush = tt
effect-puts set ds EndIn = each_from-puts _ 0 _ _ (calls ds) (omega arith)
effect-puts set ds (Halt why) = tt
effect-puts set ds (Close channel) = each_from-puts _ 0 _ _ (calls ds) (omega arith)

-- no event is among these for a number that is too large
none_beyond : (n c : ℕ) (puts : List (ℕ × Event)) → PutsBelow n puts → n ≤ c → of_call c puts ≡ []
none_beyond n c [] below beyond = refl
none_beyond n c (put ∷ puts) below beyond =
    rw (ne_eqb put.0 c (λ same. omega (arith, same, below.0, beyond))) (none_beyond n c puts below.1 beyond)

-- no event was put to a call that isn't there
pub unput : (set : Setting) (h : List Entry) (c : ℕ) → call_count (deeds_of set h) ≤ c → puts_since (deeds_of set h) c ≡ []
unput set [] c beyond = refl
unput set (e ∷ h) c beyond =
    let more = length-append (calls (deeds_of set h)) (option_to_list (effect_of set (deeds_of set h) e.kind).opens) in
    let now : of_call c (effect_of set (deeds_of set h) e.kind).puts ≡ [] =
    none_beyond _ c _ (effect-puts set (deeds_of set h) e.kind) (omega (arith, more, beyond)) in
    at (drops_of (record { entry = e; does = effect_of set (deeds_of set h) e.kind }) c) (unput set h c (omega (arith, more, beyond))) now
  where
    at : (b : Bool) → puts_since (deeds_of set h) c ≡ [] → of_call c (effect_of set (deeds_of set h) e.kind).puts ≡ []
        → (if b then [] else puts_since (deeds_of set h) c) ++ map (λ event. record { at = length (deeds_of set h); event = event }) (of_call c (effect_of set (deeds_of set h) e.kind).puts) ≡ []
    at true before now = rw now refl
    at false before now = rw (before, now) refl

-- a ready call is there
pub ready_known : (set : Setting) (h : List Entry) (c : ℕ) → is_ready (deeds_of set h) c ≡ true → c < call_count (deeds_of set h)
ready_known set h c ready = lt_of_not-le (λ beyond. at (waits beyond))
  where
    some : is_empty (waiting_of (deeds_of set h) c) ≡ false
    some = not-true _ (and_parts _ _ (and_parts _ _ (and_parts _ _ (and_parts _ _ ready).0).0).0).0

    waits : call_count (deeds_of set h) ≤ c → waiting_of (deeds_of set h) c ≡ []
    waits beyond = ap (drop (starts_since (deeds_of set h) c)) (unput set h c beyond) ∙ drop-nil (starts_since (deeds_of set h) c)

    at : waiting_of (deeds_of set h) c ≡ [] → ⊥
    at none = true≢false (sym (ap is_empty none) ∙ some)

-- a call that runs is there
pub run_known : (set : Setting) (h : List Entry) (c seat : ℕ) → AllowedAll set h → runner_of (deeds_of set h) c ≡ Some seat → c < call_count (deeds_of set h)
run_known set [] c seat all runs = absurd cc
run_known set (e ∷ h) c seat all runs =
    let more = length-append (calls (deeds_of set h)) (option_to_list (effect_of set (deeds_of set h) e.kind).opens) in
    omega (arith, more, at (is_start_of c e.kind) refl (is_finish_of c e.kind) runs (run_known set h c seat all.0))
  where
    starts : (kind : EntryKind) → is_start_of c kind ≡ true → is_unknown (call_count (deeds_of set h)) (call_named kind) ≡ false → c < call_count (deeds_of set h)
    starts (Start x) is known = subst (λ k. k < call_count (deeds_of set h)) (eqb-true x c is) (leb-false _ _ known)
    starts _ is known = absurd (false≢true is)

    at : (b : Bool) → is_start_of c e.kind ≡ b → (f : Bool)
        → (if b then Some e.seat else if f then None else runner_of (deeds_of set h) c) ≡ Some seat
        → (runner_of (deeds_of set h) c ≡ Some seat → c < call_count (deeds_of set h)) → c < call_count (deeds_of set h)
    at true is f runs before = starts e.kind is (allowed set (deeds_of set h) e all.1).known
    at false is true runs before = absurd cc
    at false is false runs before = before runs
