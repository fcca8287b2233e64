-- How many items the demo service answers with.
use Rattle.std.proofs.Common.{◌≡◌, ℕ, ◌+◌, ◌≤◌, nat_le, Bool, true, false, List, [], ◌∷◌, if◌then◌else◌, refl, sym, arith}
use Rattle.std.proofs.lemmas.Bool.{leb-true, true≢false}
use Rattle.std.proofs.lemmas.List.FromFn.{length-map-range_with_len}
use Rattle.rpc_ids.specs.declared.status.Status.TheVariants.{Okay, InvalidArgument}
use Rattle.rpc_handlers.specs.declared.answer.Out.TheVariants.{Say}
use Rattle.rpc_handlers.specs.declared.event.Event.{Event}
use Rattle.rpc_handlers.specs.declared.event.Event.TheVariants.{Request, Message, Completion, Ended, Tick}
use Rattle.rpc_handlers.specs.Limits.{is_long}
use Rattle.demo_services.specs.declared.call.DemoCall.{DemoCall}
use Rattle.demo_services.specs.declared.call.DemoCall.TheVariants.{Echo, Count, Sum, Chat, Log, Transfer}
use Rattle.demo_services.specs.Answers.{ends, says, too_long}
use Rattle.demo_services.specs.Count.{count_answer, count_to}
use Rattle.demo_services.specs.DemoCall.{answer_of, call_of}
use Rattle.demo_services.specs.DemoRule.{demo_rule}
use Rattle.demo_services.specs.Echo.{echo_answer}
use Rattle.demo_services.specs.Log.{log_line}
use Rattle.history_laws.specs.sizes.Size.{AnswersWithin, answer_items}
use Rattle.pw_run.proofs.GoodCalls.{demo_stays, is_demo, is_demo_call}

-- The most items that the demo service answers to an event: to a request of one byte of at most 64, as Count is asked,
-- so many messages and an end; to the end of a call or a moment none; and to another event one.
abbrev pub demo_most : Event → ℕ
demo_most (Request (n ∷ [])) = if nat_le n 64 then n + 1 else 1
demo_most (Ended s) = 0
demo_most (Tick t) = 0
demo_most _ = 1

echo_one : (payload : List ℕ) → answer_items (echo_answer (Request payload)) ≤ 1
echo_one payload = at (is_long payload)
  where
    at : (b : Bool) → answer_items (if b then too_long else ends Okay payload) ≤ 1
    at true = omega arith
    at false = omega arith

one_said : (payload : List ℕ) → answer_items (if is_long payload then too_long else says payload) ≤ 1
one_said payload = at (is_long payload)
  where
    at : (b : Bool) → answer_items (if b then too_long else says payload) ≤ 1
    at true = omega arith
    at false = omega arith

count_few : (n : ℕ) → answer_items (count_answer (Request (n ∷ []))) ≤ demo_most (Request (n ∷ []))
count_few n = at (nat_le n 64)
  where
    at : (b : Bool) → answer_items (if b then record (ends Okay []) { items = count_to n } else ends InvalidArgument []) ≤ (if b then n + 1 else 1)
    at true = omega (arith, length-map-range_with_len (λ byte. Say (byte ∷ [])) 1 n)
    at false = omega arith

request_some : (n : ℕ) → 1 ≤ demo_most (Request (n ∷ []))
request_some n = at (nat_le n 64)
  where
    at : (b : Bool) → 1 ≤ (if b then n + 1 else 1)
    at true = omega arith
    at false = omega arith

pub request_few : (n : ℕ) → demo_most (Request (n ∷ [])) ≤ 65
request_few n = at (nat_le n 64) refl
  where
    at : (b : Bool) → nat_le n 64 ≡ b → (if b then n + 1 else 1) ≤ 65
    at true small = omega (arith, leb-true n 64 small)
    at false large = omega arith

answer_few : (call : DemoCall) (ev : Event) → is_demo_call call ≡ true → answer_items (answer_of call ev) ≤ demo_most ev
answer_few (Echo _) (Request []) good = echo_one []
answer_few (Echo _) (Request (n ∷ [])) good = omega (arith, echo_one (n ∷ []), request_some n)
answer_few (Echo _) (Request (n ∷ m ∷ rest)) good = echo_one (n ∷ m ∷ rest)
answer_few (Echo _) (Message _) good = omega arith
answer_few (Echo _) Completion good = omega arith
answer_few (Echo _) (Ended _) good = omega arith
answer_few (Echo _) (Tick _) good = omega arith
answer_few (Count _) (Request []) good = omega arith
answer_few (Count _) (Request (n ∷ [])) good = count_few n
answer_few (Count _) (Request (n ∷ m ∷ rest)) good = omega arith
answer_few (Count _) (Message _) good = omega arith
answer_few (Count _) Completion good = omega arith
answer_few (Count _) (Ended _) good = omega arith
answer_few (Count _) (Tick _) good = omega arith
answer_few (Sum _) (Request []) good = omega arith
answer_few (Sum _) (Request (n ∷ [])) good = omega arith
answer_few (Sum _) (Request (n ∷ m ∷ rest)) good = omega arith
answer_few (Sum _) (Message _) good = omega arith
answer_few (Sum total) Completion good = omega arith
answer_few (Sum _) (Ended _) good = omega arith
answer_few (Sum _) (Tick _) good = omega arith
answer_few (Chat _) (Request []) good = omega arith
answer_few (Chat _) (Request (n ∷ [])) good = omega arith
answer_few (Chat _) (Request (n ∷ m ∷ rest)) good = omega arith
answer_few (Chat _) (Message payload) good = one_said payload
answer_few (Chat _) Completion good = omega arith
answer_few (Chat _) (Ended _) good = omega arith
answer_few (Chat _) (Tick _) good = omega arith
answer_few (Log _) (Request []) good = omega arith
answer_few (Log _) (Request (n ∷ [])) good = omega arith
answer_few (Log _) (Request (n ∷ m ∷ rest)) good = omega arith
answer_few (Log _) (Message payload) good = one_said (log_line payload)
answer_few (Log _) Completion good = omega arith
answer_few (Log _) (Ended _) good = omega arith
answer_few (Log _) (Tick _) good = omega arith
answer_few (Transfer b) ev good = absurd (true≢false (sym good))

pub demo_within : AnswersWithin demo_rule is_demo demo_most
demo_within = record { within = λ state event good. answer_few (call_of state) event good; stays = demo_stays }
