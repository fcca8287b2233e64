-- The method Sum.
use Rattle.std.specs.Prelude.{◌≡◌, refl, ℕ, ◌+◌, ◌-◌, ◌%◌, ◌^◌, sum, [], ◌∷◌}
use Rattle.std.specs.Int.{w64, to_be_bytes}
use Rattle.rpc_ids.specs.declared.status.Status.TheVariants.{Okay}
use Rattle.rpc_handlers.specs.declared.answer.Answer.{Answer}
use Rattle.rpc_handlers.specs.declared.event.Event.{Event}
use Rattle.rpc_handlers.specs.declared.event.Event.TheVariants.{Message, Completion}
use Rattle.demo_services.specs.Answers.{empty_answer, ends}

-- each message adds its bytes to the total, modulo 2^64
abbrev pub total_after : ℕ → Event → ℕ
total_after total (Message payload) = (total + sum payload) % 2 ^ 64
total_after total _ = total

-- the completion ends the call with the total, in eight bytes of which the highest is the first
abbrev pub sum_answer : ℕ → Event → Answer
sum_answer total Completion = ends Okay (to_be_bytes w64 total)
sum_answer total _ = empty_answer

-- a total of 258, and one that wraps
total_of_258 : sum_answer (total_after 0 (Message (1 ∷ 2 ∷ 255 ∷ []))) Completion ≡ ends Okay (0 ∷ 0 ∷ 0 ∷ 0 ∷ 0 ∷ 0 ∷ 1 ∷ 2 ∷ [])
total_of_258 = refl

wrapped_total : total_after (2 ^ 64 - 1) (Message (3 ∷ [])) ≡ 2
wrapped_total = refl
