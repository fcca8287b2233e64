-- What it takes to let a plain table follow an entry that is allowed.
use Rattle.std.proofs.Common.{◌≡◌, ℕ, ◌+◌, ◌^◌, ◌<◌, ◌≤◌, Bool, true, false, not, ◌&&◌, ◌||◌, nat_le, List, ◌∷◌, length, count_by, Some, None, is_some, is_none, if◌then◌else◌, refl, ap, sym, ◌∙◌, subst, arith}
use Rattle.std.specs.VecDeque.{deque_len, deque_capacity}
use Rattle.std.proofs.lemmas.Bool.{true≢false, leb-false, and_parts, not-true, not-false, ltb-false}
use Rattle.std.proofs.lemmas.List.Sums.{count_by-le-length}
use Rattle.std.proofs.lemmas.Option.{slice_get_within}
use Rattle.rpc_ids.specs.declared.method.Role.{Role}
use Rattle.rpc_packet.specs.declared.owned.Packet.{Packet}
use Rattle.rpc_packet.specs.declared.packet_type.PacketType.{PacketType}
use Rattle.rpc_packet.specs.declared.packet_type.PacketType.TheVariants.{Request}
use Rattle.rpc_handlers.specs.declared.answer.Answer.{Answer}
use Rattle.rpc_handlers.specs.declared.event.Memo.{Memo}
use Rattle.rpc_handlers.specs.Limits.{is_past_limits}
use Rattle.rpc_journal.specs.declared.table.call_state.CallState.{CallState}
use Rattle.rpc_journal.specs.declared.table.call_states.CallStates.{CallStates}
use Rattle.rpc_journal.specs.declared.entry.Entry.{Entry}
use Rattle.rpc_journal.specs.declared.entry.EntryKind.{EntryKind}
use Rattle.rpc_journal.specs.declared.entry.EntryKind.TheVariants.{Invoke, Start, Finish, Replace, Flush}
use Rattle.rpc_journal.specs.declared.table.notice.Notice.{Notice}
use Rattle.rpc_journal.specs.declared.table.notice.Notice.TheVariants.{Time, InputEnded, ChannelClosed}
use Rattle.rpc_journal.specs.declared.setting.Setting.{Setting}
use Rattle.rpc_journal.specs.Calls.{call_count}
use Rattle.rpc_journal.specs.Effect.{Deed}
use Rattle.rpc_journal.specs.History.{entry_by, deeds_with, deed_by}
use Rattle.rpc_journal.specs.Items.{flush_count, halt_reason, is_ready, items_sent}
use Rattle.rpc_journal.specs.Lawful.{broken, call_named, flushes_nothing, is_refused, is_request, is_unknown, starts_unready}
use Rattle.rpc_journal.specs.Kinds.{is_server}
use Rattle.rpc_journal.specs.Rows.{method_named, no_effect}
use Rattle.rpc_journal.specs.table.Agrees.{CanFinish, CanStart, HasRoomAt, HasRoomFor, Agrees}
use Rattle.rpc_journal.specs.table.Touch.{events_kept, hears_answer, is_startable, items_given, says_messages, is_message, tells_end}
use Rattle.rpc_journal.proofs.Allowed.{allowed}
use Rattle.rpc_journal.proofs.table.KnownStates.{ready_known}
use Rattle.rpc_journal.proofs.table.TableSteps.{table_idle}

-- the call that an allowed entry names is there
pub known_call : (set : Setting) (ds : List Deed) (t : CallStates) (e : Entry) (c : ℕ) → Agrees ds t → broken set ds e ≡ None
    → call_named e.kind ≡ Some c → c < length t.calls.items
known_call set ds t e c agrees fits names =
    let known : is_unknown (call_count ds) (Some c) ≡ false = subst (λ o. is_unknown (call_count ds) o ≡ false) names (allowed set ds e fits).known in
    let below : c < call_count ds = leb-false (call_count ds) c known in
    omega (arith, below, agrees.calls.many)

pub can_start : (set : Setting) (ds : List Deed) (t : CallStates) (e : Entry) (c : ℕ) → Agrees ds t → broken set ds e ≡ None
    → e.kind ≡ Start c → CanStart t.calls.items c
can_start set ds t e c agrees fits is = record {
  within = known_call set ds t e c agrees fits (ap call_named is);
  waits = λ r there.
      let started : not (is_ready ds c) ≡ false = subst (λ kind. starts_unready ds kind ≡ false) is (allowed set ds e fits).started in
      let ready : is_startable r t.unflushed (is_some t.halted) ≡ true = sym (ready_known ds t c (Some r) agrees there) ∙ not-false _ started in
      not-true _ (and_parts _ _ (and_parts _ _ (and_parts _ _ (and_parts _ _ ready).0).0).0).0;
}

or_first : (a b : Bool) → (a || b) ≡ false → a ≡ false
or_first true b is = absurd (true≢false is)
or_first false b is = refl

few_items : (a : Answer) → is_past_limits a ≡ false → length a.items ≤ 512
few_items a fits = ltb-false 512 (length a.items) (or_first _ _ (or_first _ _ fits))

few_given : (role : Role) (r : CallState) (a : Answer) → length a.items ≤ 512 → items_given role r a ≤ 513
few_given role r a few =
    at r.cancelled (hears_answer r && tells_end role r.method.kind r.done a.end) (count_by-le-length (λ out. not (is_message out) || says_messages role r) a.items)
  where
    at : (cut ended : Bool) → count_by (λ out. not (is_message out) || says_messages role r) a.items ≤ length a.items
        → (if cut then 1 else count_by (λ out. not (is_message out) || says_messages role r) a.items + (if ended then 1 else 0)) ≤ 513
    at true ended bound = omega arith
    at false true bound = omega (arith, bound, few)
    at false false bound = omega (arith, bound, few)

pub can_finish : (role : Role) (set : Setting) (ds : List Deed) (t : CallStates) (e : Entry) (c : ℕ) (a : Answer) → Agrees ds t → broken set ds e ≡ None
    → e.kind ≡ Finish c a → t.unflushed + 513 < 2 ^ 64 → CanFinish role t c a
can_finish role set ds t e c a agrees fits is room = record {
  within = known_call set ds t e c agrees fits (ap call_named is);
  room = λ r there.
      let few : items_given role r a ≤ 513 = few_given role r a (few_items a (subst (λ kind. is_refused set ds kind ≡ false) is (allowed set ds e fits).accepted)) in
      omega (arith, few, room);
}

pub can_flush : (set : Setting) (ds : List Deed) (t : CallStates) (e : Entry) → Agrees ds t → broken set ds e ≡ None → e.kind ≡ Flush
    → 0 < t.unflushed
can_flush set ds t e agrees fits is =
    let some : (nat_le (length (items_sent ds)) (flush_count ds) || is_some (halt_reason ds)) ≡ false =
    subst (λ kind. flushes_nothing ds kind ≡ false) is (allowed set ds e fits).something in
    let more : flush_count ds < length (items_sent ds) = leb-false _ _ (or_first _ _ some) in
    omega (arith, more, agrees.items)

few_kept : (notice : Notice) (r : CallState) → events_kept notice r ≤ deque_len r.waiting
few_kept (Time now) r = omega arith
few_kept InputEnded r = omega arith
few_kept (ChannelClosed channel) r = omega arith

pub room_for_all : (t : CallStates) (notice : Notice) → ((c : ℕ) → c < length t.calls.items → HasRoomAt t.calls.items c) → HasRoomFor notice t.calls.items
room_for_all t notice rooms = record {
  room = λ c r there told.
      let free : deque_len r.waiting < deque_capacity r.waiting = (rooms c (slice_get_within _ _ _ there)).room r there in
      omega (arith, free, few_kept notice r);
}

a_request : (ptype : PacketType) → not (is_request ptype) ≡ false → ptype ≡ Request
a_request Request is = refl
a_request _ is = absurd (true≢false is)

-- an allowed Invoke is of a REQUEST, and of a method that is known
pub record Invokes (set : Setting) (p : Packet) : Type 0 where
  pub request : p.ptype ≡ Request
  pub named : is_none (method_named set p.name) ≡ false

invokes : (a b c d f g n q : Bool) → (a || b || c || d || f || g || n || q) ≡ false → (b ≡ false) × (n ≡ false)
invokes false false false false false false false false is = (refl, refl)
invokes true b c d f g n q is = absurd (true≢false is)
invokes false true c d f g n q is = absurd (true≢false is)
invokes false false true d f g n q is = absurd (true≢false is)
invokes false false false true f g n q is = absurd (true≢false is)
invokes false false false false true g n q is = absurd (true≢false is)
invokes false false false false false true n q is = absurd (true≢false is)
invokes false false false false false false true q is = absurd (true≢false is)
invokes false false false false false false false true is = absurd (true≢false is)

pub invokes_request : (set : Setting) (ds : List Deed) (e : Entry) (p : Packet) (m : Memo) → broken set ds e ≡ None → e.kind ≡ Invoke p m → Invokes set p
invokes_request set ds e p m fits is =
    let accepted : is_refused set ds (Invoke p m) ≡ false = subst (λ kind. is_refused set ds kind ≡ false) is (allowed set ds e fits).accepted in
    let parts = invokes (is_server set.role) (not (is_request p.ptype)) _ _ _ _ (is_none (method_named set p.name)) _ accepted in
    record { request = a_request p.ptype parts.0; named = parts.1 }

-- so that one that is found nowhere isn't allowed
pub no_method : {A : Type 0} (set : Setting) (ds : List Deed) (e : Entry) (p : Packet) (m : Memo) → broken set ds e ≡ None → e.kind ≡ Invoke p m
    → method_named set p.name ≡ None → A
no_method set ds e p m fits is none = absurd (true≢false (sym (ap is_none none) ∙ (invokes_request set ds e p m fits is).named))

-- a Replace changes nothing that a plain table knows
pub replace_agrees : (ds : List Deed) (seat c : ℕ) (m : Memo) (t : CallStates) → Agrees ds t → Agrees (deed_by seat (Replace c m) no_effect ∷ ds) t
replace_agrees ds seat c m t agrees =
    table_idle ds (deed_by seat (Replace c m) no_effect) t t agrees
    (record { start = λ k. refl; finish = λ k. refl; cancel = λ k. refl; ends = refl; drops = refl; puts = refl; says = λ k. refl })
    refl (record { unflushing = refl; going_on = refl; running = refl; unclosed = refl }) refl refl refl (omega arith) refl refl

-- an entry of this kind
pub of_kind : (set : Setting) (ds : List Deed) (e : Entry) (kind : EntryKind) (u : CallStates) → e.kind ≡ kind
    → Agrees (deeds_with set ds (entry_by e.seat kind)) u → Agrees (deeds_with set ds e) u
of_kind set ds e kind u is agrees = subst (λ k. Agrees (deeds_with set ds (entry_by e.seat k)) u) (sym is) agrees
