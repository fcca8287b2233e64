-- What a stored closure owes its rule.
use Rattle.std.specs.Prelude.{◌≡◌, false}
use Rattle.rpc_handlers.specs.declared.answer.Answer.{Answer}
use Rattle.rpc_handlers.specs.declared.event.Event.{Event}
use Rattle.rpc_handlers.specs.declared.event.Memo.{Memo}
use Rattle.rpc_handlers.specs.Limits.{is_past_limits}

-- the answer and the next state are those of the rule
abbrev pub IsByRule : (Memo → Event → Answer) → (Memo → Event → Memo) → Memo → Event → Answer × Memo → Type 0
IsByRule answer next m ev given = (given.0 ≡ answer m ev) × (given.1 ≡ next m ev)

-- each answer of the rule is within the limits
abbrev pub KeepsLimits : (Memo → Event → Answer) → Type 0
KeepsLimits answer = (m : Memo) (ev : Event) → is_past_limits (answer m ev) ≡ false
