-- The rule of the calls of the three services, over their states as plain data.
use Rattle.std.specs.Prelude.{true, if◌then◌else◌, codes, Option, Some, None}
use Rattle.rpc_ids.specs.declared.method.MethodRef.{MethodRef}
use Rattle.rpc_handlers.specs.declared.answer.Answer.{Answer}
use Rattle.rpc_handlers.specs.declared.event.Event.{Event}
use Rattle.rpc_handlers.specs.declared.event.Memo.{Memo}
use Rattle.rpc_handlers.specs.HandlerRule.{HandlerRule}
use Rattle.demo_services.specs.declared.call.DemoCall.{DemoCall}
use Rattle.demo_services.specs.declared.call.DemoCall.TheVariants.{Echo, Count, Sum, Chat, Log, Transfer}
use Rattle.demo_services.specs.DemoCall.{answer_of, call_after, call_of, memo_of}
use Rattle.demo_services.specs.Methods.{is_named, is_log, is_transfer}
use Rattle.demo_services.specs.Transfer.{first_book}
use Rattle.transfer_resume.specs.declared.side.Side.{Side}
use Rattle.transfer_resume.specs.declared.side.Side.TheVariants.{Read, Write}

-- the call that is made for a method of demo.Demo. A method that isn't of the service is served as Echo
abbrev pub demo_call : MethodRef → DemoCall
demo_call m = if is_named (codes "Count") m then Count tt else if is_named (codes "Sum") m then Sum 0 else if is_named (codes "Chat") m then Chat tt else Echo tt

-- the call that is made for a method of demo.Demo or demo.Log
abbrev pub plain_call : MethodRef → DemoCall
plain_call m = if is_log (codes "Text") m then Log tt else demo_call m

-- which way a method of the transfer service moves resources
abbrev pub transfer_side : MethodRef → Option Side
transfer_side m = if is_transfer (codes "Read") m then Some Read else if is_transfer (codes "Write") m then Some Write else None

abbrev pub first_by : Memo → MethodRef → Option Side → DemoCall
first_by seed m (Some side) = Transfer (first_book side seed)
first_by seed m None = plain_call m

-- the call that is made for a method of any service: transfers are of the shelf in the seed
abbrev pub first_call : Memo → MethodRef → DemoCall
first_call seed m = first_by seed m (transfer_side m)

-- what a state answers to an event
abbrev pub answer : Memo → Event → Answer
answer m ev = answer_of (call_of m) ev

-- the state after an event
abbrev pub next : Memo → Event → Memo
next m ev = memo_of (call_after (call_of m) ev)

-- the first state of a call of a method
abbrev pub first : Memo → MethodRef → Memo
first seed m = memo_of (first_call seed m)

abbrev pub demo_rule : HandlerRule
demo_rule = record { ruled = true; answer = answer; next = next; first = first }
