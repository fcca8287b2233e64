-- The calls of the three services: what they answer, how they move on, and their states as plain data.
use Rattle.std.specs.Prelude.{ℕ, ◌==◌, if◌then◌else◌, List, [], ◌∷◌, slice_get, unwrap_or}
use Rattle.rpc_handlers.specs.declared.answer.Answer.{Answer}
use Rattle.rpc_handlers.specs.declared.event.Event.{Event}
use Rattle.rpc_handlers.specs.declared.event.Memo.{Memo}
use Rattle.demo_services.specs.declared.call.DemoCall.{DemoCall}
use Rattle.demo_services.specs.declared.call.DemoCall.TheVariants.{Echo, Count, Sum, Chat, Log, Transfer}
use Rattle.demo_services.specs.Chat.{chat_answer}
use Rattle.demo_services.specs.Count.{count_answer}
use Rattle.demo_services.specs.Echo.{echo_answer}
use Rattle.demo_services.specs.Log.{log_answer}
use Rattle.demo_services.specs.Sum.{sum_answer, total_after}
use Rattle.demo_services.specs.Transfer.{transfer_answer, transfer_after, transfer_memo, transfer_book}

-- the answer of a call to an event
abbrev pub answer_of : DemoCall → Event → Answer
answer_of (Echo _) ev = echo_answer ev
answer_of (Count _) ev = count_answer ev
answer_of (Sum total) ev = sum_answer total ev
answer_of (Chat _) ev = chat_answer ev
answer_of (Log _) ev = log_answer ev
answer_of (Transfer b) ev = transfer_answer b ev

-- the call after an event: only Sum, Read and Write have a state that changes
abbrev pub call_after : DemoCall → Event → DemoCall
call_after (Sum total) ev = Sum (total_after total ev)
call_after (Transfer b) ev = Transfer (transfer_after b ev)
call_after call ev = call

-- a state of numbers alone
abbrev pub numbers : List ℕ → Memo
numbers words = record { words = words; parts = [] }

-- the state of a call: the number of its method; behind it in a Sum the total, and in a Read and a Write all sessions
abbrev pub memo_of : DemoCall → Memo
memo_of (Echo _) = numbers (0 ∷ [])
memo_of (Count _) = numbers (1 ∷ [])
memo_of (Sum total) = numbers (2 ∷ total ∷ [])
memo_of (Chat _) = numbers (3 ∷ [])
memo_of (Log _) = numbers (5 ∷ [])
memo_of (Transfer b) = transfer_memo b

-- a number of a state, or 0 where it has none there
abbrev pub number_at : ℕ → Memo → ℕ
number_at i m = unwrap_or (slice_get m.words i) 0

-- the call of a state. A state that no call has is read as one of Echo
abbrev pub call_of : Memo → DemoCall
call_of m =
    if number_at 0 m == 1 then Count tt
    else if number_at 0 m == 2 then Sum (number_at 1 m)
    else if number_at 0 m == 3 then Chat tt
    else if number_at 0 m == 4 then Transfer (transfer_book m)
    else if number_at 0 m == 5 then Log tt
    else Echo tt
