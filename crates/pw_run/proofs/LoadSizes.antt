-- How many entries the packets of a load bring.
use Rattle.std.proofs.Common.{◌≡◌, ℕ, zero, suc, ◌+◌, ◌*◌, ◌%◌, ◌≤◌, List, arith}
use Rattle.std.proofs.lemmas.List.Sums.{sum_by-append}
use Rattle.rpc_packet.specs.declared.call_name.CallName.{CallName}
use Rattle.rpc_packet.specs.declared.owned.Packet.{Packet}
use Rattle.demo_services.specs.declared.ids.TheConstants.{SUM, CHAT}
use Rattle.link_script.specs.Generator.{number_after}
use Rattle.load_stream.specs.Load.{call_name, call_packets, count_in, highest_bytes, load_packets, streamed}
use Rattle.history_laws.specs.sizes.Size.{arrival_entries, history_entries}
use Rattle.pw_run.proofs.DemoSizes.{demo_most, request_few}

-- what a call brings: 8, 72, 24 and 24 by turns
record CallBrings (number entries : ℕ) : Type 0 where
  echo : number % 4 ≡ 0 → entries ≤ 8
  count : number % 4 ≡ 1 → entries ≤ 72
  sum : number % 4 ≡ 2 → entries ≤ 24
  chat : number % 4 ≡ 3 → entries ≤ 24

streamed_brings : (name : CallName) (x : ℕ) → history_entries demo_most (streamed name (highest_bytes x)) ≤ 24
unfolding streamed
streamed_brings name x = omega arith

call_brings : (number x : ℕ) → CallBrings number (history_entries demo_most (call_packets number x))
unfolding call_packets
call_brings number x = record {
  echo = λ is. rw is (omega arith);
  count = λ is. rw is (omega (arith, request_few (count_in x)));
  sum = λ is. rw is (streamed_brings (call_name number SUM) x);
  chat = λ is. rw is (streamed_brings (call_name number CHAT) x);
}

-- what the first calls bring: 32 each, but 24 fewer behind an Echo, 16 more behind a Count and 8 more behind a Sum
record LoadBrings (calls entries : ℕ) : Type 0 where
  before_echo : calls % 4 ≡ 0 → entries ≤ 32 * calls
  before_count : calls % 4 ≡ 1 → entries + 24 ≤ 32 * calls
  before_sum : calls % 4 ≡ 2 → entries ≤ 32 * calls + 16
  before_chat : calls % 4 ≡ 3 → entries ≤ 32 * calls + 8

one_more : (calls before last : ℕ) → LoadBrings calls before → CallBrings calls last → LoadBrings (suc calls) (before + last)
one_more calls before last brings call = record {
  before_echo = λ is. omega (arith, brings.before_chat (omega arith), call.chat (omega arith));
  before_count = λ is. omega (arith, brings.before_echo (omega arith), call.echo (omega arith));
  before_sum = λ is. omega (arith, brings.before_count (omega arith), call.count (omega arith));
  before_chat = λ is. omega (arith, brings.before_sum (omega arith), call.sum (omega arith));
}

load_brings : (calls seed : ℕ) → LoadBrings calls (history_entries demo_most (load_packets calls seed))
unfolding load_packets
load_brings zero seed = record {
  before_echo = λ is. omega arith;
  before_count = λ is. absurd (omega (arith, is));
  before_sum = λ is. omega arith;
  before_chat = λ is. omega arith;
}
load_brings (suc calls) seed =
    let earlier : List Packet = load_packets calls seed in
    let last : List Packet = call_packets calls (number_after (suc calls) seed) in
    rw (sum_by-append (arrival_entries demo_most) earlier last)
    (one_more calls (history_entries demo_most earlier) (history_entries demo_most last) (load_brings calls seed)
    (call_brings calls (number_after (suc calls) seed)))

pub load_entries : (calls seed : ℕ) → history_entries demo_most (load_packets calls seed) ≤ 32 * calls + 16
load_entries calls seed =
    let brings = load_brings calls seed in
    grind (arith, brings.before_echo, brings.before_count, brings.before_sum, brings.before_chat)
