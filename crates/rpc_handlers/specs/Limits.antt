-- The limits on answers.
use Rattle.std.specs.Prelude.{ℕ, Bool, false, ◌||◌, nat_lt, List, length, Option, Some, None}
use Rattle.std.specs.List.{list_any}
use Rattle.rpc_handlers.specs.declared.answer.Answer.{Answer}
use Rattle.rpc_handlers.specs.declared.answer.End.{End}
use Rattle.rpc_handlers.specs.declared.answer.Out.{Out}
use Rattle.rpc_handlers.specs.declared.answer.Out.TheVariants.{Say}

-- the payload has more than 8,000 bytes
abbrev pub is_long : List ℕ → Bool
is_long payload = nat_lt 8000 (length payload)

-- a message whose payload is long; the bytes of an Append have no such limit
abbrev pub is_long_out : Out → Bool
is_long_out (Say payload) = is_long payload
is_long_out _ = false

abbrev pub is_long_end : Option End → Bool
is_long_end None = false
is_long_end (Some end) = is_long end.payload

-- an answer past its limits: it has more than 512 items, or a message of it or its end has a long payload
abbrev pub is_past_limits : Answer → Bool
is_past_limits a = nat_lt 512 (length a.items) || list_any is_long_out a.items || is_long_end a.end
