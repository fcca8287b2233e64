-- What holds of a run's handler, its answer and the copies of it.
use Rattle.std.specs.Prelude.{◌≡◌, false, Option, Some, None}
use Rattle.rpc_handlers.specs.declared.answer.Answer.{Answer}
use Rattle.rpc_handlers.specs.declared.event.Event.{Event}
use Rattle.rpc_handlers.specs.declared.event.Memo.{Memo}
use Rattle.rpc_handlers.specs.Limits.{is_past_limits}
use Rattle.rpc_calls.specs.declared.copies.Copies.{Copies}

-- the answer, once it was copied
abbrev pub answered : Option Answer → Option Copies → Option Answer
answered answer None = None
answered answer (Some copies) = answer

-- the handler gave its answer and moved on
pub record HasAnswered {H : Type 0} (now : H → Memo) (gives : H → Event → Answer) (moves : H → Event → Memo) (start : H) (event : Event) (handler : H) (answer : Answer) : Type 0 where
  pub given : answer ≡ gives start event
  pub moved : now handler ≡ moves start event
  pub limits : is_past_limits answer ≡ false

-- the handler stands as it was at the start, or has answered
abbrev pub IsAsked : {H : Type 0} → (H → Memo) → (H → Event → Answer) → (H → Event → Memo) → H → Event → H → Option Answer → Type 0
IsAsked now gives moves start event handler None = handler ≡ start
IsAsked now gives moves start event handler (Some answer) = HasAnswered now gives moves start event handler answer

-- the copies are those of the answer
abbrev pub IsCopied : Option Answer → Option Copies → Type 0
IsCopied answer None = Unit {0}
IsCopied None (Some copies) = ⊥
IsCopied (Some answer) (Some copies) = (copies.outs.items ≡ answer.items) × (copies.end ≡ answer.end)
