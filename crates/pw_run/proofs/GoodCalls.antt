-- The calls of a load are of demo.Demo alone, and none of them becomes a transfer.
use Rattle.std.proofs.Common.{◌≡◌, ℕ, zero, suc, ◌%◌, Bool, true, false, ◌==◌, List, [], ◌∷◌, ◌++◌, Some, None, cond, if◌then◌else◌, refl, ap, sym, ◌∙◌, subst}
use Rattle.std.proofs.lemmas.Bool.{true≢false, and_parts, eqb-true}
use mathlib.Core.List.{IsPrefix}
use Rattle.rpc_ids.specs.declared.method.MethodRef.{MethodRef}
use Rattle.std.specs.List.{AllByRecursion}
use Rattle.rpc_ids.specs.Names.{name_id}
use Rattle.rpc_ids.specs.Registry.{has_ids, method_of}
use Rattle.rpc_packet.specs.declared.call_name.CallName.{CallName}
use Rattle.rpc_packet.specs.declared.owned.Packet.{Packet}
use Rattle.rpc_packet.specs.declared.packet_type.PacketType.TheVariants.{Completion, Request}
use Rattle.rpc_handlers.specs.declared.event.Event.{Event}
use Rattle.rpc_handlers.specs.declared.event.Memo.{Memo}
use Rattle.rpc_journal.specs.declared.setting.Setting.{Setting}
use Rattle.rpc_journal.proofs.PlaceLemmas.{some_same}
use Rattle.demo_services.specs.declared.call.DemoCall.{DemoCall}
use Rattle.demo_services.specs.declared.call.DemoCall.TheVariants.{Echo, Count, Sum, Chat, Log, Transfer}
use Rattle.demo_services.specs.declared.ids.TheConstants.{DEMO, ECHO, COUNT, SUM, CHAT}
use Rattle.demo_services.specs.DemoCall.{call_after, call_of, memo_of}
use Rattle.demo_services.specs.DemoRule.{demo_rule, first_by, plain_call, transfer_side}
use Rattle.demo_services.specs.Methods.{transfer_id}
use Rattle.link_script.specs.Generator.{number_after}
use Rattle.load_stream.specs.Load.{call_name, call_packets, count_in, highest_bytes, load_packets, messages, packet, streamed}
use Rattle.history_laws.specs.sizes.Size.{BeginGood}

-- a call of demo.Demo or of demo.Log
abbrev pub is_demo_call : DemoCall → Bool
is_demo_call (Transfer b) = false
is_demo_call call = true

abbrev pub is_demo : Memo → Bool
is_demo state = is_demo_call (call_of state)

remembered : (call : DemoCall) → is_demo_call call ≡ true → is_demo (memo_of call) ≡ true
remembered (Echo _) is = refl
remembered (Count _) is = refl
remembered (Sum total) is = refl
remembered (Chat _) is = refl
remembered (Log _) is = refl
remembered (Transfer b) is = absurd (true≢false (sym is))

after_demo : (call : DemoCall) (event : Event) → is_demo_call call ≡ true → is_demo_call (call_after call event) ≡ true
after_demo (Echo _) event is = refl
after_demo (Count _) event is = refl
after_demo (Sum total) event is = refl
after_demo (Chat _) event is = refl
after_demo (Log _) event is = refl
after_demo (Transfer b) event is = absurd (true≢false (sym is))

pub demo_stays : (state : Memo) (event : Event) → is_demo state ≡ true → is_demo (demo_rule.next state event) ≡ true
demo_stays state event is = remembered (call_after (call_of state) event) (after_demo (call_of state) event is)

plain_is_demo : (m : MethodRef) → is_demo_call (plain_call m) ≡ true
plain_is_demo m = at _ _ _ _
  where
    at : (log a b c : Bool) → is_demo_call (if log then Log tt else if a then Count tt else if b then Sum 0 else if c then Chat tt else Echo tt) ≡ true
    at true a b c = refl
    at false true b c = refl
    at false false true c = refl
    at false false false true = refl
    at false false false false = refl

no_side : (m : MethodRef) → m.service ≡ DEMO → transfer_side m ≡ None
unfolding name_id
no_side m is =
    let apart : (m.service == transfer_id) ≡ false = subst (λ s. (s == transfer_id) ≡ false) (sym is) refl in rw apart refl

first_is_demo : (seed : Memo) (m : MethodRef) → m.service ≡ DEMO → is_demo (demo_rule.first seed m) ≡ true
first_is_demo seed m is =
    subst (λ side. is_demo (memo_of (first_by seed m side)) ≡ true) (sym (no_side m is)) (remembered (plain_call m) (plain_is_demo m))

-- a method that is found has the ids that were asked for
found_service : (rows : List MethodRef) (service method : ℕ) (m : MethodRef) → method_of rows service method ≡ Some m → m.service ≡ service
found_service [] service method m is = absurd cc
found_service (row ∷ rows) service method m is = at (has_ids service method row) refl is (found_service rows service method m)
  where
    at : (b : Bool) → has_ids service method row ≡ b → cond b (Some row) (method_of rows service method) ≡ Some m
        → (method_of rows service method ≡ Some m → m.service ≡ service) → m.service ≡ service
    at true own found rest =
        ap (λ (x : MethodRef). x.service) (sym (some_same row m found)) ∙ eqb-true row.service service (and_parts (row.service == service) (row.method == method) own).0
    at false own found rest = rest found

abbrev AllDemo : List Packet → Type 0
AllDemo packets = AllByRecursion (λ p. p.name.service ≡ DEMO) packets

all_behind : (front back : List Packet) → AllDemo front → AllDemo back → AllDemo (front ++ back)
all_behind [] back first second = second
all_behind (p ∷ front) back first second = (first.0, all_behind front back first.1 second)

all_front : (front back : List Packet) → AllDemo (front ++ back) → AllDemo front
all_front [] back all = tt
all_front (p ∷ front) back all = (all.0, all_front front back all.1)

messages_all : (name : CallName) (bytes : List ℕ) → name.service ≡ DEMO → AllDemo (messages name bytes)
messages_all name [] is = tt
messages_all name (byte ∷ bytes) is = (is, messages_all name bytes is)

streamed_all : (name : CallName) (bytes : List ℕ) → name.service ≡ DEMO → AllDemo (streamed name bytes)
unfolding streamed
streamed_all name bytes is = (is, all_behind (messages name bytes) (packet Completion name [] ∷ []) (messages_all name bytes is) (is, tt))

call_all : (number x : ℕ) → AllDemo (call_packets number x)
unfolding call_packets
call_all number x = at (number % 4 == 0) (number % 4 == 1) (number % 4 == 2)
  where
    at : (a b c : Bool) → AllDemo (if a then packet Request (call_name number ECHO) (highest_bytes x) ∷ []
        else if b then packet Request (call_name number COUNT) (count_in x ∷ []) ∷ []
        else if c then streamed (call_name number SUM) (highest_bytes x)
        else streamed (call_name number CHAT) (highest_bytes x))
    at true b c = (refl, tt)
    at false true c = (refl, tt)
    at false false true = streamed_all (call_name number SUM) (highest_bytes x) refl
    at false false false = streamed_all (call_name number CHAT) (highest_bytes x) refl

load_all : (calls seed : ℕ) → AllDemo (load_packets calls seed)
unfolding load_packets
load_all zero seed = tt
load_all (suc calls) seed =
    all_behind (load_packets calls seed) (call_packets calls (number_after (suc calls) seed)) (load_all calls seed) (call_all calls (number_after (suc calls) seed))

begin_all : (set : Setting) (packets : List Packet) → AllDemo packets → BeginGood demo_rule set is_demo packets
begin_all set [] all = tt
begin_all set (p ∷ packets) all =
    (λ m named. first_is_demo set.seed m (found_service set.registry p.name.service p.name.method m named ∙ all.0), begin_all set packets all.1)

-- what a server hears in a beginning of a load begins in demo.Demo
pub load_begins : (set : Setting) (calls seed : ℕ) (front : List Packet) → IsPrefix front (load_packets calls seed) → BeginGood demo_rule set is_demo front
load_begins set calls seed front begins =
    begin_all set front (all_front front begins.0 (subst AllDemo (sym begins.1) (load_all calls seed)))
