-- A client whose handlers answer nothing: what comes to its call is for what speaks through it.
use Rattle.std.specs.Prelude.{◌&&◌, Bool, true, [], None, is_none}
use Rattle.rpc_handlers.specs.declared.answer.Answer.{Answer}
use Rattle.rpc_handlers.specs.HandlerRule.{HandlerRule, empty_memo}
use Rattle.rpc_journal.specs.Kinds.{is_empty}

abbrev pub no_answer : Answer
no_answer = record { items = []; end = None }

abbrev pub is_silent : Answer → Bool
is_silent a = is_empty a.items && is_none a.end

abbrev pub silent_rule : HandlerRule
silent_rule = record { ruled = true; answer = λ state event. no_answer; next = λ state event. empty_memo; first = λ seed method. empty_memo }
