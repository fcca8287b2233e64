-- The rule of a type of handlers.
use Rattle.std.specs.Prelude.{Bool, []}
use Rattle.rpc_ids.specs.declared.method.MethodRef.{MethodRef}
use Rattle.rpc_handlers.specs.declared.answer.Answer.{Answer}
use Rattle.rpc_handlers.specs.declared.event.Event.{Event}
use Rattle.rpc_handlers.specs.declared.event.Memo.{Memo}

-- what a type of handlers means: whether it is ruled, and what its state and an event then determine, that is the
-- answer and the next state; and the first state of a call, by the maker's seed and the method
pub record HandlerRule : Type 0 where
  pub ruled : Bool
  pub answer : Memo → Event → Answer
  pub next : Memo → Event → Memo
  pub first : Memo → MethodRef → Memo

-- the state with nothing in it, which is the seed where no handler is made
abbrev pub empty_memo : Memo
empty_memo = record { words = []; parts = [] }
