-- The method Count.
use Rattle.std.specs.Prelude.{◌≡◌, refl, ℕ, List, [], ◌∷◌, map, nat_le, if◌then◌else◌}
use Rattle.std.specs.List.{range_with_len}
use Rattle.rpc_ids.specs.declared.status.Status.TheVariants.{Okay, InvalidArgument}
use Rattle.rpc_handlers.specs.declared.answer.Answer.{Answer}
use Rattle.rpc_handlers.specs.declared.answer.Out.{Out}
use Rattle.rpc_handlers.specs.declared.answer.Out.TheVariants.{Say}
use Rattle.rpc_handlers.specs.declared.event.Event.{Event}
use Rattle.rpc_handlers.specs.declared.event.Event.TheVariants.{Request}
use Rattle.demo_services.specs.Answers.{empty_answer, ends}

-- messages of one byte, 1 to n
abbrev pub count_to : ℕ → List Out
count_to n = map (λ byte. Say (byte ∷ [])) (range_with_len 1 n)

-- Count is asked with one byte, of at most 64, and counts to it
abbrev pub count_answer : Event → Answer
count_answer (Request (n ∷ [])) = if nat_le n 64 then record (ends Okay []) { items = count_to n } else ends InvalidArgument []
count_answer (Request _) = ends InvalidArgument []
count_answer _ = empty_answer

-- to two, to none, and too far
counted_to_two : count_answer (Request (2 ∷ [])) ≡ record (ends Okay []) { items = Say (1 ∷ []) ∷ Say (2 ∷ []) ∷ [] }
counted_to_two = refl

counted_to_none : count_answer (Request (0 ∷ [])) ≡ ends Okay []
counted_to_none = refl

not_counted : count_answer (Request (65 ∷ [])) ≡ ends InvalidArgument []
not_counted = refl
