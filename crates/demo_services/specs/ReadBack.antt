-- What the state of a call tells of it.
use Rattle.std.specs.Prelude.{◌≡◌, refl}
use Rattle.std.proofs.Common.{ap, sym}
use Rattle.rpc_handlers.specs.declared.event.Event.{Event}
use Rattle.demo_services.specs.declared.call.DemoCall.{DemoCall}
use Rattle.demo_services.specs.declared.call.DemoCall.TheVariants.{Echo, Count, Sum, Chat, Log, Transfer}
use Rattle.demo_services.specs.DemoCall.{answer_of, call_after, call_of, memo_of}
use Rattle.demo_services.specs.DemoRule.{answer, next}
use Rattle.demo_services.specs.Transfer.{transfer_answer, transfer_after, transfer_memo}
use Rattle.transfer_resume.proofs.PlainLaws.{reads_back}

-- the whole call
pub call_of-memo_of : (call : DemoCall) → call_of (memo_of call) ≡ call
call_of-memo_of (Echo _) = refl
call_of-memo_of (Count _) = refl
call_of-memo_of (Sum _) = refl
call_of-memo_of (Chat _) = refl
call_of-memo_of (Log _) = refl
call_of-memo_of (Transfer b) = ap Transfer (reads_back b)

-- its answer to an event
pub answer-memo_of : (call : DemoCall) (ev : Event) → answer_of call ev ≡ answer (memo_of call) ev
answer-memo_of (Echo _) ev = refl
answer-memo_of (Count _) ev = refl
answer-memo_of (Sum _) ev = refl
answer-memo_of (Chat _) ev = refl
answer-memo_of (Log _) ev = refl
answer-memo_of (Transfer b) ev = ap (λ x. transfer_answer x ev) (sym (reads_back b))

-- its state after an event
pub next-memo_of : (call : DemoCall) (ev : Event) → memo_of (call_after call ev) ≡ next (memo_of call) ev
next-memo_of (Echo _) ev = refl
next-memo_of (Count _) ev = refl
next-memo_of (Sum _) ev = refl
next-memo_of (Chat _) ev = refl
next-memo_of (Log _) ev = refl
next-memo_of (Transfer b) ev = ap (λ x. transfer_memo (transfer_after x ev)) (sym (reads_back b))
