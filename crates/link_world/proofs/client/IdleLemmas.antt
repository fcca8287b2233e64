-- A client in which no call is ready has nothing to run, where few items wait.
use Rattle.std.proofs.Common.{◌≡◌, ◌⊎◌, ℕ, zero, suc, ◌+◌, ◌<◌, ◌≤◌, Bool, true, false, List, get_or, length, reverse, slice_get, Option, Some, None, if◌then◌else◌, refl, ap, sym, ◌∙◌, subst, inl, inr, arith, length-append}
use Rattle.std.proofs.lemmas.Bool.{lt-ltb, true≢false}
use Rattle.std.proofs.lemmas.Option.{slice_get_cases}
use Rattle.rpc_ids.specs.declared.method.MethodRef.{MethodRef}
use Rattle.rpc_ids.specs.declared.method.Role.TheVariants.{Client}
use Rattle.rpc_packet.specs.declared.owned.Packet.{Packet}
use Rattle.rpc_handlers.specs.declared.answer.Out.{Out}
use Rattle.rpc_handlers.specs.declared.event.Memo.{Memo}
use Rattle.rpc_handlers.specs.HandlerRule.{HandlerRule}
use Rattle.rpc_journal.specs.declared.entry.EntryKind.{EntryKind}
use Rattle.rpc_journal.specs.declared.entry.EntryKind.TheVariants.{Arrive, Cancel, Done, EndIn, Invoke, Say}
use Rattle.rpc_journal.specs.declared.item.Item.{Item}
use Rattle.rpc_journal.specs.declared.setting.Setting.{Setting}
use Rattle.rpc_journal.specs.Calls.{call_at, call_count, is_cancelled}
use Rattle.rpc_journal.specs.Choice.{NoneReady}
use Rattle.rpc_journal.specs.Effect.{Deed, Opening}
use Rattle.rpc_journal.specs.Entries.{effect_of, invoke_effect, with_call}
use Rattle.rpc_journal.specs.History.{deeds_with, entry_by}
use Rattle.rpc_journal.specs.Items.{flush_count, is_flush, is_ready, items_sent, items_waiting}
use Rattle.rpc_journal.specs.Kinds.{is_empty}
use Rattle.rpc_journal.specs.Lawful.{IsLegal}
use Rattle.rpc_journal.specs.Queues.{waiting_of}
use Rattle.rpc_journal.specs.Quiet.{all_below}
use Rattle.rpc_journal.specs.Rows.{method_named, says_item}
use Rattle.rpc_journal.proofs.EndedLemmas.{cancelled_waits_none}
use Rattle.rpc_journal.proofs.Push.{history-push}
use Rattle.rpc_schedule.specs.Schedule.{NoneWaits}
use Rattle.rpc_schedule.specs.Serving.{Serving, TakesPacket, deeds, is_idle, with_entry}
use Rattle.rpc_schedule.specs.Settling.{IsOrderly}
use Rattle.rpc_schedule.specs.ends.OwnEntries.{AreOwn}
use Rattle.rpc_schedule.proofs.ends.IdleLemmas.{unhalted}
use Rattle.link_laws.proofs.plain_calls.EndsRest.{arrive_few, cancel_few}
use Rattle.link_world.specs.server.Resting.{IsResting}

all_so : (n : ℕ) (test : ℕ → Bool) → ((c : ℕ) → test c ≡ true) → all_below n test ≡ true
all_so zero test so = refl
all_so (suc n) test so = rw (all_so n test so, so n) refl

-- an event waits for a call only where that is ready
waits_ready : (rule : HandlerRule) (s : Serving) (c : ℕ) → IsLegal rule s.table.setting s.table.entries → AreOwn Client s.table.entries → IsOrderly s
    → items_waiting (deeds s) < 65536 → (b : Bool) → is_empty (waiting_of (deeds s) c) ≡ b → is_ready (deeds s) c ≡ false → b ≡ true
waits_ready rule s c legal own orderly few true empty unready = refl
waits_ready rule s c legal own orderly few false waits unready = absurd (by_cut (is_cancelled (deeds s) c) refl)
  where
    by_cut : (cut : Bool) → is_cancelled (deeds s) c ≡ cut → ⊥
    by_cut true is =
        true≢false (sym (ap is_empty (cancelled_waits_none s.table.setting (reverse s.table.entries) c legal.lawful.allowed is)) ∙ waits)
    by_cut false is =
        let ready : is_ready (deeds s) c ≡ true = rw (waits, orderly.none_runs c, is, lt-ltb (items_waiting (deeds s)) 65536 few, unhalted Client s.table own) refl in
        true≢false (sym ready ∙ unready)

pub idle_then : (rule : HandlerRule) (s : Serving) → IsLegal rule s.table.setting s.table.entries → AreOwn Client s.table.entries → IsOrderly s
    → items_waiting (deeds s) < 65536 → NoneReady (deeds s) → is_idle s ≡ true
idle_then rule s legal own orderly few none =
    rw orderly.unkept (all_so (call_count (deeds s)) (λ c. is_empty (waiting_of (deeds s) c))
    (λ c. waits_ready rule s c legal own orderly few (is_empty (waiting_of (deeds s) c)) refl (none c)))

-- Few items wait.

none_left : (ds : List Deed) → NoneWaits ds → length (items_sent ds) ≤ flush_count ds
none_left ds none = at (slice_get_cases (items_sent ds) (flush_count ds)).1
  where
    at : ((item : Item) × (flush_count ds < length (items_sent ds)) × (slice_get (items_sent ds) (flush_count ds) ≡ Some item) × (get_or (items_sent ds) (flush_count ds) item ≡ item))
        ⊎ ((length (items_sent ds) ≤ flush_count ds) × (slice_get (items_sent ds) (flush_count ds) ≡ None)) → length (items_sent ds) ≤ flush_count ds
    at (inl found) = absurd (let is = sym none ∙ found.2 in cc is)
    at (inr past_all) = past_all.0

pub few_at_rest : (s : Serving) → NoneWaits (deeds s) → items_waiting (deeds s) ≡ 0
few_at_rest s none = omega (arith, none_left (deeds s) none)

-- an entry puts no more items behind those that wait than it says
pub few_more : (s : Serving) (seat : ℕ) (kind : EntryKind) (n : ℕ) → is_flush kind ≡ false → length (effect_of s.table.setting (deeds s) kind).says ≤ n
    → items_waiting (deeds (with_entry s seat kind)) ≤ items_waiting (deeds s) + n
few_more s seat kind n other few =
    let set = s.table.setting in
    let ds : List Deed = deeds s in
    let e = entry_by seat kind in
    let count : flush_count (deeds_with set ds e) ≡ flush_count ds = ap (λ b. if b then flush_count ds + 1 else flush_count ds) other in
    subst (λ now. items_waiting now ≤ items_waiting ds + n) (sym (history-push set s.table.entries e))
    (omega (arith, few, count, length-append (items_sent ds) (effect_of set ds kind).says))

pub few_fed : (old mid : Serving) → IsResting old → TakesPacket old mid → items_waiting (deeds mid) < 65536
few_fed old mid rest takes =
    subst (λ s. items_waiting (deeds s) < 65536) (sym takes.adds)
    (omega (
      arith,
      few_at_rest old rest.over.none_waits,
      few_more old 0 (Arrive takes.packet) 1 refl (arrive_few takes.packet (deeds old) old.table.setting),
    ))

pub few_cancelled : (old : Serving) (seat c : ℕ) → IsResting old → items_waiting (deeds (with_entry old seat (Cancel c))) < 65536
few_cancelled old seat c rest =
    omega (arith, few_at_rest old rest.over.none_waits, few_more old seat (Cancel c) 2 refl (cancel_few old.table.setting (deeds old) c (call_at (deeds old) c)))

pub few_ended : (old : Serving) (seat : ℕ) → IsResting old → items_waiting (deeds (with_entry old seat EndIn)) < 65536
few_ended old seat rest = omega (arith, few_at_rest old rest.over.none_waits, few_more old seat EndIn 0 refl (omega arith))

-- What an entry of a start says.

pub invoke_says : (set : Setting) (ds : List Deed) (p : Packet) (m : Memo) → length (effect_of set ds (Invoke p m)).says ≤ 1
invoke_says set ds p m = at (method_named set p.name)
  where
    at : (o : Option MethodRef) → length (invoke_effect ds p m o).says ≤ 1
    at None = omega arith
    at (Some method) = omega arith

call_says : (o : Option Opening) (f : Opening → Item) → length (with_call o (λ opening. says_item (f opening))).says ≤ 1
call_says None f = omega arith
call_says (Some o) f = omega arith

pub say_says : (set : Setting) (ds : List Deed) (c : ℕ) (out : Out) → length (effect_of set ds (Say c out)).says ≤ 1
say_says set ds c out = call_says (call_at ds c) _

pub done_says : (set : Setting) (ds : List Deed) (c : ℕ) → length (effect_of set ds (Done c)).says ≤ 1
done_says set ds c = call_says (call_at ds c) _
