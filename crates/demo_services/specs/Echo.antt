-- The method Echo.
use Rattle.std.specs.Prelude.{◌≡◌, refl, if◌then◌else◌, codes}
use Rattle.rpc_ids.specs.declared.status.Status.TheVariants.{Okay}
use Rattle.rpc_handlers.specs.declared.answer.Answer.{Answer}
use Rattle.rpc_handlers.specs.declared.event.Event.{Event}
use Rattle.rpc_handlers.specs.declared.event.Event.TheVariants.{Request}
use Rattle.rpc_handlers.specs.Limits.{is_long}
use Rattle.demo_services.specs.Answers.{empty_answer, ends, too_long}

-- Echo ends its call with the payload of the request, where that is short enough
abbrev pub echo_answer : Event → Answer
echo_answer (Request payload) = if is_long payload then too_long else ends Okay payload
echo_answer _ = empty_answer

-- abc comes back
echoed : echo_answer (Request (codes "abc")) ≡ ends Okay (codes "abc")
echoed = refl
