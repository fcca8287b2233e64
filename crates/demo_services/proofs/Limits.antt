-- Each answer of the service is within the limits on answers.
use Rattle.std.proofs.Common.{◌≡◌, ℕ, zero, suc, ◌+◌, ◌≤◌, ◌||◌, Bool, true, false, if◌then◌else◌, Option, Some, None, Result, Ok, Err, List, [], ◌∷◌, length, map, refl, arith, nat_lt, nat_le}
use Rattle.std.proofs.lemmas.Bool.{leb-true}
use Rattle.std.proofs.lemmas.Bool.Decides.{nat_tests}
use Rattle.std.proofs.lemmas.List.FromFn.{length-map-range_with_len}
use Rattle.std.specs.List.{range_with_len, list_any}
use Rattle.rpc_ids.specs.declared.status.Status.TheVariants.{Okay, InvalidArgument}
use Rattle.rpc_handlers.specs.declared.answer.Out.TheVariants.{Say}
use Rattle.rpc_handlers.specs.declared.event.Event.{Event}
use Rattle.rpc_handlers.specs.declared.event.Event.TheVariants.{Request, Message, Completion, Ended, Tick}
use Rattle.rpc_handlers.specs.declared.answer.End.{End}
use Rattle.rpc_handlers.specs.declared.answer.Out.{Out}
use Rattle.rpc_handlers.specs.Limits.{is_long, is_long_out, is_long_end, is_past_limits}
use Rattle.demo_services.specs.declared.call.DemoCall.{DemoCall}
use Rattle.demo_services.specs.declared.call.DemoCall.TheVariants.{Echo, Count, Sum, Chat, Log, Transfer}
use Rattle.demo_services.specs.Answers.{ends, says, too_long}
use Rattle.demo_services.specs.Count.{count_to}
use Rattle.demo_services.specs.DemoCall.{answer_of}
use Rattle.demo_services.specs.Laws.{HasFewSessions}
use Rattle.demo_services.specs.Log.{log_line}
use Rattle.demo_services.specs.Transfer.{message_answer, transfer_answer}
use Rattle.transfer_chunk.specs.Chunk.{Chunk}
use Rattle.transfer_chunk.specs.Reading.{chunk_of}
use Rattle.transfer_resume.specs.Book.{Book, HasFew, spelled_all, chunk_step, tick_step, end_step}
use Rattle.transfer_resume.specs.Limits.{IsWithin}
use Rattle.transfer_resume.proofs.LimitLaws.{chunk_within, tick_within, end_within}

-- messages of one byte are short
one_byte_messages : (a n : ℕ) → list_any is_long_out (map (λ byte. Say (byte ∷ [])) (range_with_len a n)) ≡ false
one_byte_messages a zero = refl
one_byte_messages a (suc n) = one_byte_messages (a + 1) n

-- and few, up to 64
few : (n : ℕ) → nat_le n 64 ≡ true → nat_lt 512 (length (count_to n)) ≡ false
few n small = rw (length-map-range_with_len (λ byte. Say (byte ∷ [])) 1 n) (grind (arith, nat_tests, leb-true n 64 small))

counted_limits : (n : ℕ) (b : Bool) → nat_le n 64 ≡ b → is_past_limits (if b then record (ends Okay []) { items = count_to n } else ends InvalidArgument []) ≡ false
counted_limits n true small = rw (few n small, one_byte_messages 1 n) refl
counted_limits n false large = refl

echo_limits : (payload : List ℕ) (b : Bool) → is_long payload ≡ b → is_past_limits (if b then too_long else ends Okay payload) ≡ false
echo_limits payload true long = refl
echo_limits payload false short = short

said_limits : (payload : List ℕ) (b : Bool) → is_long payload ≡ b → is_past_limits (if b then too_long else says payload) ≡ false
said_limits payload true long = refl
said_limits payload false short = rw short refl

pub within_limits : (outs : List Out) (end : Option End) → is_long_end end ≡ false → IsWithin outs → is_past_limits (record { items = outs; end = end }) ≡ false
within_limits outs end short within = rw (within.short, short) (few_items (length outs) within.few)
  where
    few_items : (n : ℕ) → n ≤ 512 → (nat_lt 512 n || false || false) ≡ false
    few_items n few = grind (arith, nat_tests)

message_limits : (b : Book) (read : Result Chunk ℕ) → is_past_limits (message_answer b read) ≡ false
message_limits b (Ok c) = within_limits (spelled_all (chunk_step b c).outs) None refl (chunk_within b c)
message_limits b (Err at) = refl

pub transfer_limits : (b : Book) (ev : Event) → HasFew b → is_past_limits (transfer_answer b ev) ≡ false
transfer_limits b (Request _) few = refl
transfer_limits b (Message payload) few = message_limits b (chunk_of payload)
transfer_limits b Completion few = within_limits (spelled_all (end_step b).outs) (Some (record { status = Okay; payload = [] })) refl (end_within b few)
transfer_limits b (Ended status) few = within_limits (spelled_all (end_step b).outs) None refl (end_within b few)
transfer_limits b (Tick now) few = within_limits (spelled_all (tick_step b now).outs) None refl (tick_within b now few)

pub answer_limits : (call : DemoCall) (ev : Event) → HasFewSessions call → is_past_limits (answer_of call ev) ≡ false
answer_limits (Echo _) (Request payload) few = echo_limits payload (is_long payload) refl
answer_limits (Echo _) (Message _) few = refl
answer_limits (Echo _) Completion few = refl
answer_limits (Echo _) (Ended _) few = refl
answer_limits (Echo _) (Tick _) few = refl
answer_limits (Count _) (Request []) few = refl
answer_limits (Count _) (Request (n ∷ [])) few = counted_limits n (nat_le n 64) refl
answer_limits (Count _) (Request (n ∷ m ∷ rest)) few = refl
answer_limits (Count _) (Message _) few = refl
answer_limits (Count _) Completion few = refl
answer_limits (Count _) (Ended _) few = refl
answer_limits (Count _) (Tick _) few = refl
answer_limits (Sum _) (Request _) few = refl
answer_limits (Sum _) (Message _) few = refl
answer_limits (Sum total) Completion few = refl
answer_limits (Sum _) (Ended _) few = refl
answer_limits (Sum _) (Tick _) few = refl
answer_limits (Chat _) (Request _) few = refl
answer_limits (Chat _) (Message payload) few = said_limits payload (is_long payload) refl
answer_limits (Chat _) Completion few = refl
answer_limits (Chat _) (Ended _) few = refl
answer_limits (Chat _) (Tick _) few = refl
answer_limits (Log _) (Request _) few = refl
answer_limits (Log _) (Message payload) few = said_limits (log_line payload) (is_long (log_line payload)) refl
answer_limits (Log _) Completion few = refl
answer_limits (Log _) (Ended _) few = refl
answer_limits (Log _) (Tick _) few = refl
answer_limits (Transfer b) ev few = transfer_limits b ev few
