-- The method Chat.
use Rattle.std.specs.Prelude.{◌≡◌, refl, [], if◌then◌else◌, codes}
use Rattle.rpc_ids.specs.declared.status.Status.TheVariants.{Okay}
use Rattle.rpc_handlers.specs.declared.answer.Answer.{Answer}
use Rattle.rpc_handlers.specs.declared.event.Event.{Event}
use Rattle.rpc_handlers.specs.declared.event.Event.TheVariants.{Message, Completion}
use Rattle.rpc_handlers.specs.Limits.{is_long}
use Rattle.demo_services.specs.Answers.{empty_answer, says, ends, too_long}

-- Chat says each message back, where it is short enough, and ends its call at the completion
abbrev pub chat_answer : Event → Answer
chat_answer (Message payload) = if is_long payload then too_long else says payload
chat_answer Completion = ends Okay []
chat_answer _ = empty_answer

-- abc is said back
said_back : chat_answer (Message (codes "abc")) ≡ says (codes "abc")
said_back = refl
